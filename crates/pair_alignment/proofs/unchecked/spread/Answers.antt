-- A turn stores the feed before those that are stored.
use Rattle.std.proofs.Common.{◌≡◌, ◌-◌, get_or, pos, arith, rules, w32, SFits, to_z-of_z}
use Rattle.network.specs.Record.{gate_in}
use Rattle.pair_alignment.proofs.Store.{store_none, store_more}
use Rattle.pair_alignment.proofs.unchecked.spread.Goals as goal

pub loop-i-init : goal.loop-i-init
loop-i-init c =
    let g = c.args.gate in
    rw c.from-i.ensures (store_none g.signals g.weights g.fanin)

pub loop-i-preserved : goal.loop-i-preserved
loop-i-preserved c =
    let g = c.args.gate in
    let i = c.loop-i.i in
    let w : SFits w32 (get_or g.weights (i - 1) (pos 0)) = search rules in
    rw (c.loop-i.invariant, c.from.ensures, to_z-of_z w) (store_more g.signals g.weights i g.fanin (omega arith) (omega arith))

pub returns : goal.returns
unfolding gate_in
returns c =
    let i : c.loop-i.i ≡ 0 = omega arith in
    let all : c.args.gate.fanin - 0 ≡ c.args.gate.fanin = omega arith in
    rw (i, all) at c.loop-i.invariant
