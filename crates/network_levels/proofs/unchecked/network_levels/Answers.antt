-- The higher of the level so far and of the levels of the gates that are left is the network's. Assumes nothing.
use Rattle.std.proofs.Common.{arith}
use Rattle.network.specs.Record.{gate_of}
use Rattle.network_levels.proofs.LevelLaws.{levels_none, levels_next, levels_all}
use Rattle.network_levels.proofs.unchecked.network_levels.Goals as goal

pub loop-g-init : goal.loop-g-init
loop-g-init c = levels_none (gate_of c.args.network.now) c.args.network.now.inputs c.args.network.now.gates

pub loop-g-preserved : goal.loop-g-preserved
loop-g-preserved c = levels_next c.loop-g.invariant _ _ c.gate_level-level.ensures c.max-most.ensures c.loop-g-test.true (omega arith)

pub returns : goal.returns
returns c = levels_all c.loop-g.invariant (omega arith)
