-- The marks of the gates that the output needs, and the marked gates.
use Rattle.std.proofs.Common.{ℕ, ◌-◌, ap, ◌∙◌, arith}
use Rattle.network.specs.RecordLaws.{gate_number}
use Rattle.network.specs.SoundLaws.{sized_of}
use Rattle.cut_marks.specs.Marks.{marks_of}
use Rattle.cut_marks.specs.WordLaws.{length_marks}
use Rattle.cut_marking.specs.MarkingLaws.{wired_less}
use Rattle.cut_marking.specs.RecordLaws.{wired_sound}
use Rattle.cut_output.proofs.NameLaws.{driver_gate, marked_cut}
use Rattle.cut_output.proofs.unchecked.cut_sound.Goals as goal

pub bounds-network-j : goal.bounds-network-j
bounds-network-j c = omega (arith, (sized_of _ c.requires.0).few_outputs)

-- the signal that the output names is a gate's
pub overflow_sub-from : goal.overflow_sub-from
overflow_sub-from c = omega (arith, gate_number _ _ (driver_gate c.args.network.now c.requires.0 c.args.j c.requires.1))

pub needed_gates-marks-requires : goal.needed_gates-marks-requires
needed_gates-marks-requires c =
    let at = gate_number _ _ (driver_gate c.args.network.now c.requires.0 c.args.j c.requires.1) in
    (omega arith, wired_less _ (omega arith) (wired_sound _ c.requires.0))

pub marked_gates-requires : goal.marked_gates-requires
marked_gates-requires c = driver_gate _ c.requires.0 _ c.requires.1

pub returns : goal.returns
returns c =
    let a = c.args in
    c.marked_gates.ensures
    ∙ marked_cut a.network.now c.requires.0 a.j c.requires.1 (marks_of c.needed_gates-marks.result) _ (length_marks c.needed_gates-marks.result)
    (ap (λ (n : ℕ). n - a.network.now.inputs) c.from.ensures) c.needed_gates-marks.ensures
