-- At each turn the gate's places hold the feeds read so far, and the others are read from the bytes that are left.
use Rattle.std.proofs.Common.{◌≡◌}
use Rattle.pmn_gate.proofs.FeedsLoop.{FeedsSoFar}
use Rattle.pmn_gate.proofs.unchecked.read_feeds.Given as goal

abbrev pub invariant-loop-i : goal.invariant-loop-i
invariant-loop-i l = record {
  shape : (l.gate.fanin ≡ l.fanin) × (l.gate.threshold ≡ l.threshold);
  feeds : FeedsSoFar l.bytes l.own l.fanin l.gate.signals l.gate.weights l.low l.i l.rest;
}
