use Rattle.std.specs.Prelude.{get_or}
use Rattle.network.specs.Places.{Pasted}
use Rattle.compare_theory.specs.Wiring.{moved}
use Rattle.compare_joint.proofs.unchecked.wiring.rewire_outputs.Given as goal

abbrev pub invariant-loop-signal : goal.invariant-loop-signal
invariant-loop-signal l = Pasted 0 0 l.signal-index (λ k. moved l.p l.q (get_or l.fn.signals k 0)) l.fn.signals l.signals
