-- The refusal, or the step entered and the merged gate stored (CallLaws). Assumes nothing.
use Rattle.std.specs.Prelude.{Ok}
use Rattle.std.proofs.Common.{ap, refl, ◌∙◌, arith}
use Rattle.refusals.specs.NumberLaws.{handed_on}
use Rattle.network.specs.declared.GateRecord.{GateRecord}
use Rattle.network_places.specs.PartsLaws.{stored_is}
use Rattle.journal.specs.Journals.{with_step}
use Rattle.journal.proofs.AnswerLaws.{whole_network}
use Rattle.journal.proofs.PartsLaws.{left_refused, left_answered}
use Rattle.call_single.proofs.CallLaws.{merge_refused, merge_entered, place, row_is}
use Rattle.call_single.proofs.unchecked.merge_in.Goals as goal

pub merged_at-requires : goal.merged_at-requires
merged_at-requires c = whole_network c.args.held.now c.requires.whole

pub returns-in_err-gate : goal.returns-in_err-gate
returns-in_err-gate c =
    let a = c.args in
    left_refused (handed_on c.from_residual.ensures.1)
    ∙ merge_refused a.held.now c.requires.whole a.u a.v a.k a.l _ (c.in_err-gate.ensures.refuses _ refl)

pub overflow_sub-g : goal.overflow_sub-g
overflow_sub-g c = omega (arith, place c.args.held.now c.args.v (c.in_ok-gate.ensures.merges _ refl).own)

pub overflow_cast-v : goal.overflow_cast-v
overflow_cast-v c = omega (arith, place c.args.held.now c.args.v (c.in_ok-gate.ensures.merges _ refl).own)

pub enter_gate-requires : goal.enter_gate-requires
enter_gate-requires c = omega (arith, place c.args.held.now c.args.v (c.in_ok-gate.ensures.merges _ refl).own)

pub store_gate-requires : goal.store_gate-requires
store_gate-requires c = omega (arith, place c.args.held.now c.args.v (c.in_ok-gate.ensures.merges _ refl).own)

pub returns : goal.returns
returns c =
    let a = c.args in
    let held = a.held.now in
    let merged = c.in_ok-gate.ensures.merges _ refl in
    left_answered {r = record { network = c.store_gate.new.network; journal = c.enter_gate.new.journal }} (ap Ok c.collapses_made.ensures)
    (stored_is c.requires.shape a.v _ merged.own merged.packed c.store_gate.ensures)
    (c.enter_gate.ensures ∙ ap (λ (x : GateRecord). with_step held.journal 0 a.v x) (row_is held a.v merged.own))
    ∙ merge_entered held c.requires.whole a.u a.v a.k a.l _ merged.accepts
