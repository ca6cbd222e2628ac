-- The header's refusal is the lane's. Assumes nothing.
use Rattle.std.proofs.Common.{rules, sym, ap, ◌∙◌}
use Rattle.std.specs.Prelude.{ℕ}
use Rattle.basics.specs.Refusals.{refused}
use Rattle.pmn_format.proofs.LengthLaws.{bytes_of}
use Rattle.alley_theory.specs.Alley.{whole}
use Rattle.alley_theory.specs.Answers.{as_entry}
use Rattle.alley_theory.proofs.EntryLaws.{entry_made}
use Rattle.alley_lane.proofs.HeaderLaws.{refused_lane}
use Rattle.alley_lane.proofs.unchecked.whole_entry.Goals as goal

pub returns-in-Err : goal.returns-in-Err
returns-in-Err c =
    let file = c.args.file.now in
    entry_made (whole file) (bytes_of file (λ i. (c.type_inv.file i).fits))
    (c.refused_entry.ensures ∙ ap (λ (k : ℕ). as_entry (refused k)) c.number.ensures ∙ ap as_entry (refused_lane file c.in-Err.ensures))
