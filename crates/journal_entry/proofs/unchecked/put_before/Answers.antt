-- The others are moved up, and the front is written before them. Assumes nothing.
use Rattle.journal_entry.proofs.EnteringLaws.{put_before_others}
use Rattle.journal_entry.proofs.unchecked.put_before.Goals as goal

pub returns : goal.returns
returns g c =
    rw (c.copy_from_slice.ensures.after, c.copy_within.ensures.after) (put_before_others c.args.front.now c.args.places.now c.requires)
