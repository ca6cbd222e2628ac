-- A signal below the inputs is no gate's, and another is by how far it lies above them. Assumes nothing.
use Rattle.std.proofs.Common.{◌≡◌, ℕ, ◌+◌, ◌-◌, ◌≤◌, arith, ltb, ltb→lt, lt→ltb}
use Rattle.std.proofs.lemmas.Bool.{lt-leb, le-leb}
use Rattle.basics.specs.TestLaws.{test_same}
use Rattle.network.specs.Limits.{gate_signal}
use Rattle.network_limits.proofs.is_gate.Goals as goal

above : (inputs gates s : ℕ) → inputs ≤ s → ltb (s - inputs) gates ≡ ltb s (inputs + gates)
above inputs gates s h =
    test_same _ _
    (λ t. let l = ltb→lt (s - inputs) gates t in lt→ltb s (inputs + gates) (omega arith))
    (λ t. let l = ltb→lt s (inputs + gates) t in lt→ltb (s - inputs) gates (omega arith))

pub returns-then-inputs-signal : goal.returns-then-inputs-signal
unfolding gate_signal
returns-then-inputs-signal c = rw (le-leb _ _ c.if-inputs-signal.true) (above _ _ _ c.if-inputs-signal.true)

pub returns-else-inputs-signal : goal.returns-else-inputs-signal
unfolding gate_signal
returns-else-inputs-signal c = rw (lt-leb _ _ c.if-inputs-signal.false)
