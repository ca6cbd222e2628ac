-- Each feed that is settled rests on the decisions of the gate's rule.
use Rattle.std.specs.Prelude.{◌≡◌, ◌+◌, ◌<◌, pos, get_or}
use Rattle.std.proofs.Common.{arith, to_z, of_z, to_z-of_z}
use Rattle.std.specs.Int.{w32}
use Rattle.basics.specs.SizeLaws.{size_fits}
use Rattle.compare_theory.specs.Joint.{fanin}
use Rattle.compare_refutation.proofs.Turns.{settling_open, settling_known}
use Rattle.compare_refutation.proofs.rules.settle_feeds.Goals as goal
use Rattle.compare_refutation.proofs.rules.settle_feeds.Goals.{then-known-ge2, else-known-ge2}

pub loop-i-preserved : goal.loop-i-preserved
loop-i-preserved c =
    let i = c.loop-i.i in
    let in_row : i < fanin c.args.wires.now = omega (arith, c.loop-i-test.true, c.from-i-end.ensures) in
    let w = get_or c.args.weights.now (1 + i) (pos 0) in
    let w_is : to_z w32 (of_z w32 w) ≡ w = to_z-of_z (size_fits w32 w (omega (arith, c.requires.summable.small (1 + i)))) in
    let there = c.requires.summable.there i in_row in
    let two = c.requires.goal_bound.0 in
    let signal = c.from-signal.ensures in
    let bit = rw (signal, w_is) at c.settled_bit-bit.ensures in
    elim c.if-known-ge2.branch [
      | then-known-ge2 w ↦ rw (w.held-is, bit, signal) (settling_open i in_row two there c.loop-i.invariant (rw signal at w.if-known-ge2.true))
      | else-known-ge2 w ↦ rw (w.held-is, bit, signal) (settling_known i in_row two there c.loop-i.invariant (rw signal at w.if-known-ge2.false))
    ]

pub returns : goal.returns
returns c = record { kept = rw (to_z-of_z c.ranges.room) at c.loop-i.invariant.kept }
