-- So many signals are copied.
use Rattle.std.proofs.Common.{◌≡◌, length}
use Rattle.std.proofs.Math.Seq.{paste}
use Rattle.fold_feeds.proofs.unchecked.put_feeds.Given as goal

abbrev pub invariant-loop-i : goal.invariant-loop-i
invariant-loop-i l = record {
  copied : l.answer ≡ paste l.initial.answer 1 l.listed.signals l.i;
  same_length : length l.answer ≡ length l.initial.answer;
}
