-- Every feed count and threshold past the last gate is tested. Assumes nothing.
use Rattle.std.proofs.Common.{rules, ◌≡◌, ap₂, ◌∙◌, Bool, true, false, refl, ◌&&◌, ◌||◌, arith, eqb, ltb, ◌-◌, take, drop, get_or}
use Rattle.std.specs.Prelude.{pos}
use borrow.Author.Tests.{tests}
use Rattle.std.proofs.lemmas.Iterator.{YieldsList-from_slice}
use Rattle.std.proofs.lemmas.Iterator.Search.{all_from_yields_List}
use Rattle.basics.specs.ListLaws.{below_same}
use Rattle.network.specs.Limits.{is_zero}
use Rattle.network.specs.Record.{gate_clear}
use Rattle.network_soundness.proofs.AllLaws.{all_rest, below_both}
use Rattle.network_soundness.proofs.gates_clear.Goals as goal

or_both : (a b d : Bool) → (a || b) && (a || d) ≡ a || (b && d)
or_both true b d = refl
or_both false b d = refl

pub returns : goal.returns
unfolding gate_clear
returns c =
    let r = c.args.network.now in
    let n = r.gates in
    let fanins = all_from_yields_List (λ x. eqb x 0) _ _ c.all-fanins_clear.result c.all-fanins_clear.ensures.ran (YieldsList-from_slice (take (128 - n) (drop n r.fanins)) c.iter.ensures.rest)
    (λ x b q k. search (rules, tests)) in
    let thresholds = all_from_yields_List is_zero _ _ c.all.result c.all.ensures.ran (YieldsList-from_slice (take (128 - n) (drop n r.thresholds)) c.iter-2.ensures.rest)
    (λ x b q k. search (rules, tests)) in
    ap₂ ◌&&◌ (fanins ∙ all_rest (λ x. eqb x 0) 0 n 128 r.fanins (omega arith) c.requires)
    (thresholds ∙ all_rest is_zero (pos 0) n 128 r.thresholds (omega arith) c.requires)
    ∙ below_both 128 _ _
    ∙ below_same 128 _ _ (λ g h. or_both (ltb g n) (eqb (get_or r.fanins g 0) 0) (is_zero (get_or r.thresholds g (pos 0))))
