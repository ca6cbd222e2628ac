-- Which line of the question stands at which number, stretch by stretch. Assumes nothing.
use Rattle.std.specs.Prelude.{◌≡◌, refl, true, false, cond, List, [], ◌∷◌, map, ℕ, ◌+◌, ◌*◌, ◌/◌, ◌%◌, ◌<◌, eqb, ltb}
use Rattle.std.proofs.Common.{sym, ◌∙◌, eqb-true}
use Rattle.std.proofs.Math.Path.{ap}
use Rattle.std.proofs.Math.Decide.{dec_lt}
use native.Mathlib.Omega.{arith}
use Rattle.std.proofs.lemmas.Bool.{eqb-false}
use Rattle.std.proofs.Math.ListN.{length, get_or}
use Rattle.network.specs.Threshold.{Feed, Gate, Net}
use Rattle.network.specs.Record.{nth_gate}
use Rattle.question_theory.specs.Question.{Line, term, upper, lower, second_variable, over_gate, question}
use Rattle.question_theory.specs.Text.{no_line}
use Rattle.question_theory.proofs.LineLaws.{first_upper, first_lower, second_upper, second_lower, output_some, output_not_both}
use Rattle.question_lines.specs.Lines.{gate_line, output_line}

-- a value at an even and at an odd number
by_parity : (f : ℕ → Line) (i : ℕ) (x y : Line) → f (2 * (i / 2)) ≡ x → f (2 * (i / 2) + 1) ≡ y → f i ≡ cond (eqb (i % 2) 0) x y
by_parity f i x y p q = elim (eqb (i % 2) 0) as (λ b. eqb (i % 2) 0 ≡ b → f i ≡ cond b x y) [
  | true ↦ λ e. ap f (let h = eqb-true (i % 2) 0 e in omega arith) ∙ p
  | false ↦ λ e. ap f (odd e) ∙ q
] refl
  where
    odd : eqb (i % 2) 0 ≡ false → i ≡ 2 * (i / 2) + 1
    odd e = elim (dec_lt (i % 2) 1) as (λ d. i ≡ 2 * (i / 2) + 1) [ yes h ↦ absurd (eqb-false (i % 2) 0 e (omega arith)) | no h ↦ omega arith ]

-- ---- the first network, before whose gates there are no others
first_variable : (i s : ℕ) → second_variable i 0 s ≡ s
unfolding second_variable
first_variable i s = elim (ltb s i) as (λ b. cond b s (s + 0) ≡ s) [ true ↦ refl | false ↦ omega arith ]

first_feeds_lem : (i : ℕ) (fs : List Feed) → map (λ f. term (second_variable i 0 f.signal) f.weight) fs ≡ fs
first_feeds_lem i [] = refl
first_feeds_lem i (f ∷ fs) = rw (first_variable i f.signal, first_feeds_lem i fs)

pub first_gate_lem : (i : ℕ) (g : Gate) → g ≡ over_gate (second_variable i 0) g
unfolding over_gate
first_gate_lem i g = ap (λ (fs : List Feed). record { feeds = fs; threshold = g.threshold }) (sym (first_feeds_lem i g.feeds))

module _ (N M : Net) where
  pub first_stretch : (i : ℕ) → i < 2 * length N.gates → get_or (question N M) i no_line ≡ gate_line N 0 i
  unfolding gate_line
  first_stretch i h =
      let g = nth_gate N.gates (i / 2) in
      let y : N.inputs + i / 2 ≡ N.inputs + 0 + i / 2 = omega arith in
      by_parity (λ k. get_or (question N M) k no_line) i (upper (N.inputs + 0 + i / 2) (over_gate (second_variable N.inputs 0) g))
      (lower (N.inputs + 0 + i / 2) (over_gate (second_variable N.inputs 0) g))
      (first_upper N M (i / 2) (omega arith) ∙ ap (λ (k : ℕ). upper k g) y ∙ ap (upper (N.inputs + 0 + i / 2)) (first_gate_lem N.inputs g))
      (first_lower N M (i / 2) (omega arith) ∙ ap (λ (k : ℕ). lower k g) y ∙ ap (lower (N.inputs + 0 + i / 2)) (first_gate_lem N.inputs g))

  -- ---- the second network
  pub second_stretch : N.inputs ≡ M.inputs → (i : ℕ) → i < 2 * length M.gates
      → get_or (question N M) (2 * length N.gates + i) no_line ≡ gate_line M (length N.gates) i
  unfolding gate_line
  second_stretch same i h =
      let shift = length N.gates in
      let g = nth_gate M.gates (i / 2) in
      by_parity (λ k. get_or (question N M) (2 * shift + k) no_line) i (upper (M.inputs + shift + i / 2) (over_gate (second_variable M.inputs shift) g))
      (lower (M.inputs + shift + i / 2) (over_gate (second_variable M.inputs shift) g))
      (second_upper N M same (i / 2) (omega arith) ∙ ap (λ (k : ℕ). upper (k + shift + i / 2) (over_gate (second_variable k shift) g)) same)
      (ap (λ (k : ℕ). get_or (question N M) k no_line) (let e : 2 * shift + (2 * (i / 2) + 1) ≡ 2 * shift + 2 * (i / 2) + 1 = omega arith in e)
      ∙ second_lower N M same (i / 2) (omega arith) ∙ ap (λ (k : ℕ). lower (k + shift + i / 2) (over_gate (second_variable k shift) g)) same)

  -- ---- the outputs
  pub output_stretch : length N.outputs ≡ length M.outputs → (i : ℕ) → i < 2 * length N.outputs
      → get_or (question N M) (2 * length N.gates + 2 * length M.gates + i) no_line ≡ output_line N M i
  unfolding output_line
  output_stretch same i h =
      let base = 2 * length N.gates + 2 * length M.gates in
      by_parity (λ k. get_or (question N M) (base + k) no_line) i _ _
      (output_some N M same (i / 2) (omega arith))
      (ap (λ (k : ℕ). get_or (question N M) k no_line) (let e : base + (2 * (i / 2) + 1) ≡ base + 2 * (i / 2) + 1 = omega arith in e)
      ∙ output_not_both N M same (i / 2) (omega arith))
