-- Every place is tested. Assumes nothing.
use Rattle.std.proofs.Common.{sym, ◌≡◌, arith}
use Rattle.basics.specs.ListLaws.{below_none, below_more}
use Rattle.network_soundness.proofs.places_clear.Goals as goal

pub loop-p-init : goal.loop-p-init
loop-p-init c = sym (below_none _)

pub loop-p-preserved : goal.loop-p-preserved
loop-p-preserved c = rw (c.loop-p.invariant, c.place_clear-ok.ensures, below_more)

pub returns : goal.returns
returns c = let e : c.loop-p.p ≡ 2048 = omega arith in rw e at c.loop-p.invariant
