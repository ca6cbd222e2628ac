-- The frame's length, then the evaluation on a frame that fits.
use Rattle.std.proofs.Common.{rules}
use Rattle.basics.specs.Refusals.{checks}
use Rattle.network.specs.SoundLaws.{sized_of}
use Rattle.frame_reading.specs.Reading.{frame_answer, as_reading, reading}
use Rattle.frame_reading.proofs.unchecked.read_sound.Goals as goal

pub fits_frame-requires : goal.fits_frame-requires
fits_frame-requires c = (sized_of _ c.requires).few_inputs

pub returns-then-not-fits_frame : goal.returns-then-not-fits_frame
unfolding reading frame_answer as_reading checks
returns-then-not-fits_frame c = search (rules, c.requires)

pub returns : goal.returns
unfolding reading frame_answer checks
returns c = search (rules, c.requires)
