-- A turn stores a marked gate with its new signals, and passes over every other (GateLaws).
use Rattle.std.proofs.Common.{false, ◌<◌, map, length, get_or, take, sym, ap, ◌∙◌, arith}
use Rattle.std.proofs.lemmas.List.{get_or-take}
use Rattle.basics.specs.TestLaws.{T_is}
use Rattle.network.specs.Record.{gate_of, net_of}
use Rattle.network.specs.RecordLaws.{count_gates, gate_within, gate_number, row_gate}
use Rattle.network.specs.SoundLaws.{sized_of}
use Rattle.network.specs.declared.GateRecord.{GateRecord}
use Rattle.cut_marks.specs.Marks.{marks_of}
use Rattle.cut_marks.specs.WordLaws.{length_marks}
use Rattle.cut_copying.specs.CopyingLaws.{marks_long}
use Rattle.cut_copying.proofs.GateLaws.{renamed_record, copied_none, copied_gone, copied_more, copied_all, copied_row}
use Rattle.cut_copying.proofs.unchecked.marked_gates.Goals as goal
use Rattle.cut_copying.proofs.unchecked.marked_gates.Goals.{then-has, else-has}

pub new_signals-numbers-requires : goal.new_signals-numbers-requires
new_signals-numbers-requires c = let sized = sized_of _ c.requires.sound in (sized.few_inputs, sized.few_gates)

pub loop-g-init : goal.loop-g-init
unfolding net_of
loop-g-init c = rw c.from.ensures (copied_none (net_of c.args.network.now) (take c.args.network.now.gates (marks_of c.args.marks)) _ c.blank-cut.result c.blank-cut.ensures)

pub has-requires : goal.has-requires
has-requires c = omega (arith, (sized_of _ c.requires.sound).few_gates)

pub gate_at-gate-requires : goal.gate_at-gate-requires
gate_at-gate-requires c = omega (arith, (sized_of _ c.requires.sound).few_gates)

pub store_gate-requires : goal.store_gate-requires
store_gate-requires c = omega (arith, (sized_of _ c.requires.sound).few_gates, c.loop-g.invariant.few)

pub loop-g-preserved : goal.loop-g-preserved
loop-g-preserved c =
    let r = c.args.network.now in
    let g = c.loop-g.g in
    let within : g < r.gates = omega arith in
    let few : g < 128 = omega (arith, (sized_of r c.requires.sound).few_gates) in
    let here : g < length (net_of r).gates = omega (arith, count_gates r) in
    let mark = get_or-take r.gates (marks_of c.args.marks) g false within ∙ sym c.has.ensures in
    elim c.if-has.branch [
      | then-has w ↦
          let gate_is = w.gate_at-gate.ensures ∙ row_gate r g (T_is _ c.requires.sound) within in
          let row_is = w.renamed_row-gate.ensures ∙ ap (λ (z : GateRecord). map (λ k. get_or c.new_signals-numbers.result k 0) z.signals) gate_is
          ∙ copied_row r c.requires.sound (marks_of c.args.marks) c.new_signals-numbers.result g c.new_signals-numbers.ensures within in
          rw w.cut-is (copied_more c.loop-g.invariant here few (mark ∙ w.if-has.true) (gate_within r g within)
          (renamed_record _ (gate_of r g) gate_is row_is) w.store_gate.ensures)
      | else-has w ↦ rw w.cut-is (copied_gone c.loop-g.invariant here (mark ∙ w.if-has.false))
    ]

pub returns : goal.returns
unfolding net_of
returns c =
    let r = c.args.network.now in
    let long = marks_long r c.requires.sound (marks_of c.args.marks) (length_marks c.args.marks) in
    copied_all c.loop-g.invariant c.args.d long (omega (arith, count_gates r)) (c.new_signals-numbers.ensures.each c.args.d (omega (arith, gate_number r c.args.d c.requires)))
