-- The rows begin alike.
use Rattle.std.specs.Prelude.{◌+◌}
use Rattle.std.specs.Cmp.Lexicographic.{same_text}
use Rattle.std.specs.Cmp.Rules.{signed_items}
use Rattle.std.proofs.Common.{arith, sym, ◌∙◌}
use Rattle.compare_merging.specs.TwinLaws.{same_gate_front}
use Rattle.compare_merging.proofs.unchecked.showing.same_gate.Goals as goal

pub returns-then-eq : goal.returns-then-eq
returns-then-eq c = λ e.
    let wires = same_text _ _ c.if-eq.ensures in
    same_gate_front _ _ _ _ (1 + c.from-end.result) (omega (arith, c.from-end.ensures)) wires ((signed_items _ _).0 (sym c.eq-then-eq.ensures ∙ e))
