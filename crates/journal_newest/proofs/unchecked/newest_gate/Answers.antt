-- The gate's places are the first ones of the journal (NewestLaws). Assumes nothing.
use Rattle.std.proofs.Common.{rules, refl, w32, get_or, pos}
use Rattle.basics.specs.SizeLaws.{read_back}
use Rattle.journal_newest.proofs.NewestLaws.{newest_front}
use Rattle.journal_newest.proofs.unchecked.newest_gate.Goals as goal

pub returns : goal.returns
returns c =
    let j = c.args.journal.now in
    newest_front j c.requires (search rules) (search rules) c.from-count.result c.from-count.ensures _ _ _
    c.copy_from_slice.ensures.after c.copy_from_slice-2.ensures.after
    (read_back w32 {r = get_or j.thresholds 0 (pos 0)} (search rules) refl)
