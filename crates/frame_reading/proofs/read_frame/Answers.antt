-- The record's test, then the reading of a sound record.
use Rattle.std.proofs.Common.{rules}
use Rattle.basics.specs.Refusals.{checks}
use Rattle.frame_reading.specs.Reading.{frame_answer, as_reading, reading}
use Rattle.frame_reading.proofs.read_frame.Goals as goal

pub returns-then-not-is_sound : goal.returns-then-not-is_sound
unfolding reading frame_answer as_reading checks
returns-then-not-is_sound c = search rules
