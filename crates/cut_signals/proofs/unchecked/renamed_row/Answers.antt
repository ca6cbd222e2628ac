-- Every place is passed at the end.
use Rattle.std.proofs.Common.{◌≡◌, ℕ, map, length, get_or, sym, ap, ◌∙◌, refl, arith, rules}
use Rattle.basics.specs.ListLaws.{tab_of}
use Rattle.basics.specs.TableLaws.{map_tab}
use Rattle.network_places.specs.PasteLaws.{pasted_tab}
use Rattle.cut_signals.proofs.unchecked.renamed_row.Goals as goal

pub returns : goal.returns
returns c =
    let row = c.args.row in
    let new = λ (s : ℕ). get_or c.args.numbers.now s 0 in
    let long : length row ≡ 16 = search rules in
    let full : c.loop-signal.signal-index ≡ 16 = omega arith in
    pasted_tab (rw full at c.loop-signal.invariant) long ∙ sym (map_tab new 16 (λ i. get_or row i 0))
    ∙ ap (map new) (tab_of 0 16 (λ i. get_or row i 0) row (sym long) (λ i h. refl))
