-- One block more.
use Rattle.std.proofs.Common.{arith}
use Rattle.compare_lanes.proofs.ReadLaws.{read_none, read_next, read_apart}
use Rattle.compare_lanes.proofs.unchecked.read_frames.Goals as goal

pub loop-first-init : goal.loop-first-init
loop-first-init c = record {
  below = omega (arith, c.requires.from_bound);
  read = read_none c.requires.readable _ _ c.frame_count-frames.ensures.0 c.frame_count-frames.ensures.1;
}

pub returns-in-Some : goal.returns-in-Some
returns-in-Some c =
    read_apart c.requires.readable c.loop-first.invariant.read c.put_frames.ensures c.run_gates.ensures _ c.in-Some.ensures.0 c.in-Some.ensures.1

pub loop-first-preserved : goal.loop-first-preserved
loop-first-preserved c = record {
  below = omega (arith, c.requires.from_bound);
  read = read_next c.requires.readable c.loop-first.invariant.read c.put_frames.ensures c.run_gates.ensures c.in_default.ensures;
}
