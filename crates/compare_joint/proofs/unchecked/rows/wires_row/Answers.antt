-- The feed count, and then every signal.
use Rattle.std.specs.Prelude.{◌≡◌, map, length}
use Rattle.std.proofs.Common.{rules, refl, sym, ◌∙◌, arith}
use Rattle.std.proofs.lemmas.List.{length-map}
use Rattle.basics.specs.TableLaws.{get_d_map}
use Rattle.question_theory.specs.Question.{second_variable}
use Rattle.compare_joint.specs.RowLaws.{row_put}
use Rattle.compare_joint.proofs.unchecked.rows.wires_row.Goals as goal

pub returns : goal.returns
returns c =
    let signals = c.args.gate.now.signals in
    let long : length signals ≡ 16 = search rules in
    let full : c.loop-i.i ≡ 16 = omega arith in
    let φ = second_variable c.args.inputs c.args.shift in
    row_put 0 refl (rw full at c.loop-i.invariant) c.args.gate.now.fanin (map φ signals) (length-map signals φ ∙ long) c.from.ensures
    (λ i h. sym (get_d_map φ signals i 0 0 (omega arith)))
