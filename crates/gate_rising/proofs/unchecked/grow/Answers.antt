-- Each turn puts one member at the front and one at the back, until they meet. Assumes nothing.
use Rattle.std.proofs.Common.{◌≡◌, ℕ, ◌+◌, ◌-◌, arith, to_z, of_z, to_z-of_z, SFits}
use Rattle.std.specs.Prelude.{ℤ, List}
use Rattle.std.specs.Int.{w32}
use Rattle.gate_rising.specs.Tables.{Growable}
use Rattle.gate_rising.proofs.Weaving.{weaving_none, front_turn, back_turn, woven}
use Rattle.gate_rising.proofs.unchecked.grow.Goals as goal

-- the weight as the machine holds it, with which the list can be doubled
held_ok : {n : ℕ} {w : ℤ} {sums : List ℤ} → SFits w32 w → Growable n w sums → Growable n (to_z w32 (of_z w32 w)) sums
held_ok {n} {w} f ok = rw (to_z-of_z f) ok

pub loop-k-init : goal.loop-k-init
loop-k-init c = weaving_none c.args.n (to_z w32 (of_z w32 c.args.weight)) c.args.sums.now (held_ok c.ranges.weight c.requires)

pub loop-k-preserved : goal.loop-k-preserved
loop-k-preserved c =
    let l = c.loop-k in
    let r = c.put_front-front.result in
    let fronted = front_turn c.args.n (to_z w32 (of_z w32 c.args.weight)) c.args.sums.now (held_ok c.ranges.weight c.requires) l.k l.k l.a l.b l.c l.d l.sums l.invariant c.put_front-front.new.sums
    c.loop-k-test.true r c.put_front-front.ensures in
    back_turn c.args.n (to_z w32 (of_z w32 c.args.weight)) c.args.sums.now (held_ok c.ranges.weight c.requires) (l.k + 1) l.k (l.a + r) (l.b + (1 - r)) l.c l.d c.put_front-front.new.sums fronted
    c.put_back-back.new.sums c.loop-k-test.true c.put_back-back.result c.put_back-back.ensures

pub returns : goal.returns
returns c =
    let l = c.loop-k in
    let e : l.k ≡ c.args.n = omega arith in
    rw (to_z-of_z c.ranges.weight) at (woven c.args.n (to_z w32 (of_z w32 c.args.weight)) c.args.sums.now (held_ok c.ranges.weight c.requires) l.k l.k l.a l.b l.c l.d l.sums l.invariant e e)
