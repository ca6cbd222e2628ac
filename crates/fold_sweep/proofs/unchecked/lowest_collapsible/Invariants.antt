-- The gates passed over are refused, and what is remembered is true of the network.
use Rattle.network.specs.Record.{net_of}
use Rattle.fold_sweep.specs.Sweeping.{LowerRefused}
use Rattle.fold_sweep.specs.Memory.{Remembered}
use Rattle.fold_sweep.proofs.unchecked.lowest_collapsible.Given as goal

abbrev pub invariant-loop-g : goal.invariant-loop-g
invariant-loop-g l = record {
  lower : LowerRefused (net_of l.network) l.b l.network.inputs l.g;
  known : Remembered (net_of l.network) l.memory.refusers;
}
