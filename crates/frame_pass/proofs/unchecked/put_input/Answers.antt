-- A lane's mask is that of the input's bit.
use Rattle.std.proofs.Common.{◌≡◌, length, get_or, arith}
use Rattle.network.specs.Threshold.{frame}
use Rattle.frame_pass.proofs.LaneLaws.{put_all}
use Rattle.frame_pass.proofs.unchecked.put_input.Goals as goal

pub returns : goal.returns
returns c =
    let e : c.loop-f.f ≡ length c.args.frames.now = omega arith in
    put_all (λ k. frame (get_or c.args.frames.now k 0) c.args.i) c.requires.masked (rw e at c.loop-f.invariant) (omega arith) (omega arith) c.requires.few
