-- Internal: the lines of each stretch by their number, and what their makers ask for. Nothing is proved here.
use Rattle.std.specs.Prelude.{◌≡◌, true, cond, ℕ, ◌+◌, ◌/◌, ◌%◌, ◌≤◌, eqb, length, get_or}
use Rattle.network.specs.Threshold.{Net}
use Rattle.network.specs.Record.{net_of, sound_record, nth_gate}
use Rattle.network.specs.declared.Network.{Network}
use Rattle.question_theory.specs.Question.{Line, upper, lower, second_variable, over_gate, some_line, not_both_line, first_difference, question, alike, second_of}

-- ---- the lines of a gate and of the outputs

-- line i of those of a network's gates, before which shift others come
unfoldable pub gate_line : Net → ℕ → ℕ → Line
gate_line N shift i =
    cond (eqb (i % 2) 0)
    (upper (N.inputs + shift + i / 2) (over_gate (second_variable N.inputs shift) (nth_gate N.gates (i / 2))))
    (lower (N.inputs + shift + i / 2) (over_gate (second_variable N.inputs shift) (nth_gate N.gates (i / 2))))

-- line i of those of the outputs
unfoldable pub output_line : Net → Net → ℕ → Line
output_line N M i =
    cond (eqb (i % 2) 0)
    (some_line (get_or N.outputs (i / 2) 0) (second_of N (get_or M.outputs (i / 2) 0)) (first_difference N M + i / 2))
    (not_both_line (get_or N.outputs (i / 2) 0) (second_of N (get_or M.outputs (i / 2) 0)) (first_difference N M + i / 2))

-- ---- two networks that can be asked about
pub record Comparable (first second : Network) : Type 0 where
  pub first_sound : sound_record first ≡ true
  pub second_sound : sound_record second ≡ true
  pub same_counts : alike (net_of first) (net_of second) ≡ true

-- how many lines follow the header
unfoldable pub lines_of : Net → Net → ℕ
lines_of N M = length (question N M)

-- line n, counted from 0, is the header or one of those lines
pub record LineInRange (first second : Network) (n : ℕ) : Type 0 where
  pub pair : Comparable first second
  pub within : n ≤ lines_of (net_of first) (net_of second)
