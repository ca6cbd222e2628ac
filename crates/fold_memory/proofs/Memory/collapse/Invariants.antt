-- So many hints are lowered, and of so many gates it is known whether the refuser stays.
use Rattle.std.proofs.Common.{◌≡◌}
use Rattle.fold_memory.specs.Keeping.{RefusersKept}
use Rattle.fold_memory.specs.KeepingLaws.{lowered_to}
use Rattle.fold_memory.proofs.Memory.collapse.Given as goal

abbrev pub invariant-loop-i : goal.invariant-loop-i
invariant-loop-i l = record {
  hints : l.self.hints ≡ lowered_to l.initial.self.hints l.g l.i;
  refusers : RefusersKept l.initial.self.refusers l.ks l.g l.i l.self.refusers;
}
