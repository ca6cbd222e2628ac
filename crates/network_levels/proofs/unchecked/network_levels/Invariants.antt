-- The gates passed have their levels.
use Rattle.network.specs.Record.{gate_of}
use Rattle.network_levels.proofs.LevelLaws.{LevelsLeft}
use Rattle.network_levels.proofs.unchecked.network_levels.Given as goal

abbrev pub invariant-loop-g : goal.invariant-loop-g
invariant-loop-g l = LevelsLeft (gate_of l.network) l.network.inputs l.network.gates l.g l.most l.levels
