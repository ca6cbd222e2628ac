-- So far the record is that of the network with the first gates merged.
use Rattle.std.proofs.Common.{◌≡◌}
use Rattle.network.specs.Record.{layout}
use Rattle.fold_collapse.proofs.PartLaws.{part_net}
use Rattle.fold_collapse.proofs.unchecked.collapse_by_pairs.Given as goal

abbrev pub invariant-loop-g : goal.invariant-loop-g
invariant-loop-g l = l.network ≡ layout (part_net l.initial.network l.u l.pairs l.g)
