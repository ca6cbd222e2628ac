-- Of the first i distinct feeds those with a sum other than 0 are listed.
use Rattle.pair_mixing.proofs.Combine.{Combined}
use Rattle.pair_mixing.proofs.unchecked.merged_gate.Given as goal

abbrev pub invariant-loop-i : goal.invariant-loop-i
invariant-loop-i l = Combined l.a l.k l.l l.i l.fanin l.signals l.weights
