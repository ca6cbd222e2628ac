-- Examples of verdicts: three networks with one input and one gate. The gates of the first two are "[1;1]" and "[2;1]", which have the input's bit;
-- that of the third is "[ ;0]", which is always 1. So the first two are alike, and the first and the third are apart on frame 0 alone. Nothing is
-- proved here.
use Rattle.std.specs.Prelude.{◌≡◌, [], ◌∷◌, ℕ, ℤ, pos}
use Rattle.network.specs.Threshold.{Feed, Net}
use Rattle.compare_theory.specs.Verdicts.{Verdict}

abbrev gate_on : ℤ → Net
gate_on w = record {
  board = record { version = 1; on = 0; off = 1 };
  inputs = 1;
  gates = record { feeds = record { signal = 0; weight = w } ∷ []; threshold = pos 1 } ∷ [];
  outputs = 1 ∷ [];
}

unfoldable pub single : Net
single = gate_on (pos 1)

unfoldable pub double : Net
double = gate_on (pos 2)

unfoldable pub constant : Net
constant = record {
  board = record { version = 1; on = 0; off = 1 };
  inputs = 1;
  gates = record { feeds = []; threshold = pos 0 } ∷ [];
  outputs = 1 ∷ [];
}

-- whatever the budget, no other verdict and no other frame can be given
pub record ExampleVerdicts : Type 0 where
  pub alike : (budget verdict frame steps : ℕ) → Verdict single double budget verdict frame steps → verdict ≡ 0
  pub apart : (budget verdict frame steps : ℕ) → Verdict single constant budget verdict frame steps → verdict ≡ 1
  pub shown : (budget verdict frame steps : ℕ) → Verdict single constant budget verdict frame steps → frame ≡ 0
