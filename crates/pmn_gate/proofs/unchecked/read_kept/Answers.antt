-- The feeds are read; the gate that they make is within the limits, so that its margins are tested, where they are not those of version 1.
use Rattle.std.proofs.Common.{sym, eqb→eq}
use Rattle.basics.specs.TestLaws.{T_is, T_and}
use Rattle.refusals.specs.Numbers.{number_of}
use Rattle.pmn_gate.proofs.Kept.{fed, row_scale, margins_broken, margins_kept, margins_plain}
use Rattle.pmn_gate.proofs.unchecked.read_kept.Goals as goal
use Rattle.pmn_gate.proofs.unchecked.read_kept.Goals.{else-not-plain-via-then-not-plain+else-not-gate_keeps, else-not-plain-via-else-not-plain}

pub gate_keeps-requires : goal.gate_keeps-requires
gate_keeps-requires c = row_scale (fed c.ranges.threshold c.type_inv.rest c.requires c.in_ok-gate.ensures)

pub returns-then-not-gate_keeps : goal.returns-then-not-gate_keeps
unfolding number_of
returns-then-not-gate_keeps c =
    margins_broken (fed c.ranges.threshold c.type_inv.rest c.requires c.in_ok-gate.ensures) c.args.board (sym c.if-not-gate_keeps.ensures)

pub returns : goal.returns
returns c =
    let f = fed c.ranges.threshold c.type_inv.rest c.requires c.in_ok-gate.ensures in
    let b = c.args.board in
    elim c.else-not-plain.branch [
      | else-not-plain-via-then-not-plain+else-not-gate_keeps w ↦ margins_kept f b (sym w.if-not-gate_keeps.ensures)
      | else-not-plain-via-else-not-plain w ↦
          let m = T_and _ _ (T_is _ w.if-not-plain.false) in
          margins_plain f b (eqb→eq b.on 0 m.0) (eqb→eq b.off 1 m.1)
    ]
