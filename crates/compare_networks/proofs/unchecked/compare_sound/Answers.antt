-- The two networks stand side by side in the joint, and what is settled of it is the verdict on them.
use Rattle.std.specs.Prelude.{◌≡◌, refl, Bool, true, ◌&&◌, eqb}
use Rattle.std.proofs.Common.{sym, ◌∙◌, arith}
use Rattle.network.specs.Record.{net_of, sound_record}
use Rattle.network.specs.SoundLaws.{sized_of}
use Rattle.network.specs.declared.Network.{Network}
use Rattle.question_lines.specs.Lines.{Comparable}
use Rattle.question_lines.specs.ComparableLaws.{alike_is}
use Rattle.compare_networks.specs.AnswerLaws.{unlike, given}
use Rattle.compare_networks.specs.StandingLaws.{tables_stand}
use Rattle.compare_networks.specs.VerdictLaws.{both_outputs, settled_verdict}
use Rattle.compare_networks.proofs.unchecked.compare_sound.Goals as goal

pub returns-then-not-same_counts : goal.returns-then-not-same_counts
returns-then-not-same_counts c =
    let a = c.args in
    unlike (net_of a.first.now) (net_of a.second.now) a.budget (sym (alike_is a.first.now a.second.now) ∙ sym c.same_counts.ensures ∙ c.if-not-same_counts.true) c.refusal.ensures

pub overflow_add-joint : goal.overflow_add-joint
overflow_add-joint c =
    record { fits = omega (arith, (sized_of c.args.first.now c.requires.0).few_gates, (sized_of c.args.second.now c.requires.1).few_gates) }

pub lay-requires : goal.lay-requires
lay-requires c = (omega arith, (sized_of c.args.first.now c.requires.0).few_gates)

pub lay-requires-2 : goal.lay-requires-2
lay-requires-2 c = ((sized_of c.args.first.now c.requires.0).few_gates, (sized_of c.args.second.now c.requires.1).few_gates)

pub joint_outputs-outs-requires : goal.joint_outputs-outs-requires
joint_outputs-outs-requires c = ((sized_of c.args.second.now c.requires.1).few_outputs, (sized_of c.args.first.now c.requires.0).few_gates)

-- the counts are equal
pair : (a b : Network) {r : Bool} → sound_record a ≡ true → sound_record b ≡ true → r ≡ (eqb a.inputs b.inputs && eqb a.outputs b.outputs) → r ≡ true
    → Comparable a b
pair a b p q e t = record { first_sound = p; second_sound = q; same_counts = sym (alike_is a b) ∙ sym e ∙ t }

pub settle-found-requires : goal.settle-found-requires
settle-found-requires c =
    let a = c.args in
    let two = pair a.first.now a.second.now c.requires.0 c.requires.1 c.same_counts.ensures c.if-not-same_counts.false in
    let laid = c.lay.ensures in
    let more = c.lay-2.ensures in
    let inputs = more.inputs_same ∙ laid.inputs_same in
    let gates = more.gates_same ∙ laid.gates_same in
    let s = tables_stand a.first.now a.second.now two c.lay-2.new.joint refl refl laid.laid more.laid inputs gates c.joint_outputs-outs.ensures in
    (both_outputs a.first.now a.second.now two _ _ s inputs gates, omega (arith, gates))

pub returns : goal.returns
returns c =
    let a = c.args in
    let two = pair a.first.now a.second.now c.requires.0 c.requires.1 c.same_counts.ensures c.if-not-same_counts.false in
    let laid = c.lay.ensures in
    let more = c.lay-2.ensures in
    let inputs = more.inputs_same ∙ laid.inputs_same in
    let gates = more.gates_same ∙ laid.gates_same in
    let s = tables_stand a.first.now a.second.now two c.lay-2.new.joint refl refl laid.laid more.laid inputs gates c.joint_outputs-outs.ensures in
    given (net_of a.first.now) (net_of a.second.now) two.same_counts c.given.ensures
    (settled_verdict a.first.now a.second.now two _ _ s inputs gates a.budget _ _ c.settle-found.ensures.settled (omega arith))
