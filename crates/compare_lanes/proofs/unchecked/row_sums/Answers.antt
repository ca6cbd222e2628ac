-- One feed more.
use Rattle.std.specs.Prelude.{◌≡◌, ◌+◌, ◌<◌, pos, get_or}
use Rattle.std.proofs.Common.{refl, arith, to_z, of_z, to_z-of_z}
use Rattle.std.specs.Int.{w32}
use Rattle.basics.specs.SizeLaws.{size_fits}
use Rattle.compare_theory.specs.Joint.{fanin}
use Rattle.compare_lanes.proofs.RowLaws.{lanes_none, lanes_next, lanes_all}
use Rattle.compare_lanes.proofs.unchecked.row_sums.Goals as goal

pub loop-i-init : goal.loop-i-init
loop-i-init c = lanes_none _ _ _ _

pub loop-i-preserved : goal.loop-i-preserved
loop-i-preserved c =
    let s = c.requires.summable in
    let i = c.loop-i.i in
    let in_row : i < fanin c.args.wires.now = omega (arith, c.loop-i-test.true, c.from-i-end.ensures) in
    let w = get_or c.args.weights.now (1 + i) (pos 0) in
    let w_is : to_z w32 (of_z w32 w) ≡ w = to_z-of_z (size_fits w32 w (omega (arith, s.small (1 + i)))) in
    lanes_next c.loop-i.invariant s.small in_row c.from-signal.result _ c.from-signal.ensures w_is c.add_feed.ensures

pub returns : goal.returns
returns c = lanes_all c.loop-i.invariant (omega (arith, c.loop-i-test.false, c.from-i-end.ensures)) refl
