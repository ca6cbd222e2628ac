-- The question of two networks has a 0/1 solution exactly when some frame makes their outputs differ. Assumes nothing.
use Rattle.std.specs.Prelude.{◌≡◌, refl, Bool, true, false, not, cond, ◌≢◌, ◌↔◌, ℕ, suc, ◌+◌, ◌-◌, ◌^◌, ◌≤◌, ◌<◌, ltb, get_or}
use Rattle.std.proofs.Math.Path.{sym, ap, subst}
use Rattle.std.proofs.Common.{◌∙◌, true≢false, lt→ltb}
use Rattle.std.specs.Bool.{beq}
use Rattle.std.proofs.lemmas.Bool.{false≢true}
use mathlib.Core.List.{List, [], ◌∷◌, map, map-map}
use Rattle.std.proofs.Math.Decide.{dec_lt}
use native.Mathlib.Omega.{arith}
use Rattle.std.proofs.Math.Dec.{T}
use Rattle.std.proofs.Math.Arith.{le→nltb}
use Rattle.std.proofs.Math.ListN.{length}
use Rattle.std.proofs.lemmas.List.{length-map}
use Rattle.basics.specs.Lists.{tab}
use Rattle.basics.specs.ListLaws.{each_imp}
use Rattle.basics.specs.TestLaws.{is_true, is_false}
use Rattle.network.specs.Threshold.{Gate, Net, Assignment, bit, values, frame, output_bits, word_of}
use Rattle.network.specs.Limits.{signals_of}
use Rattle.network.specs.Sound.{Sound}
use Rattle.network_equivalence.specs.Consistent.{BitsFrom, Fits, Ordered, WellFormed}
use Rattle.network_equivalence.proofs.ConsistentLaws.{bit_local, values_fit, values_inputs, outputs_one, sound_good}
use Rattle.question_theory.specs.Question.{Line, holds, Solves, first_difference, question}
use Rattle.question_theory.specs.Demand.{HasSolution, Differ, Decides, differs}
use Rattle.question_theory.specs.Question.{second_of, first_lines, second_lines, pair_lines, last_of}
use Rattle.question_theory.proofs.MemberLaws.{each_append, append_left, append_right}
use Rattle.question_theory.proofs.LineLaws.{second_input, second_gate, question_is}
use Rattle.question_theory.proofs.FrameLaws.{tab_below, frame_tab}
use Rattle.question_theory.proofs.SolutionLawsGates.{lines_fit}
use Rattle.question_theory.proofs.SolutionLawsOutputs.{outputs_apart, last_some}

-- the bits of the second network's signals, where N is the first
abbrev pub second_bits : Net → Assignment → Assignment
second_bits N ρ = λ s. ρ (second_of N s)

-- output j of N and of M have different bits
abbrev pub Apart : Net → Net → Assignment → ℕ → Type 0
Apart N M ρ j = get_or (map ρ N.outputs) j false ≢ get_or (map (second_bits N ρ) M.outputs) j false

-- what a solution is: it fits both networks, an output whose d is 1 has different bits, and some d is 1
pub record Solution (N M : Net) (ρ : Assignment) : Type 0 where
  pub first_fits : Fits ρ N
  pub second_fits : Fits (second_bits N ρ) M
  pub apart : (j : ℕ) → j < length N.outputs → T (ρ (first_difference N M + j)) → Apart N M ρ j
  pub some_one : (j : ℕ) × (j < length N.outputs) × T (ρ (first_difference N M + j))

-- ---- what a solution is
module _ (N M : Net) where
  pairs_apart : (ρ : Assignment) → length N.outputs ≡ length M.outputs
      → Solves ρ (pair_lines N M) ↔ ((j : ℕ) → j < length N.outputs → T (ρ (first_difference N M + j)) → Apart N M ρ j)
  unfolding pair_lines
  pairs_apart ρ e = rw map-map at (outputs_apart ρ N.outputs (map (second_of N) M.outputs) (first_difference N M)
      (e ∙ sym (length-map M.outputs (second_of N))))

  -- an assignment solves the question exactly where it is a solution in terms of the networks
  pub solves_is : (ρ : Assignment) → length N.outputs ≡ length M.outputs → Solves ρ (question N M) ↔ Solution N M ρ
  unfolding first_lines second_lines last_of
  solves_is ρ e = rw question_is (
    λ h.
        let behind = append_right P (first_lines N) _ h in
        let outs = append_right P (second_lines N M) _ behind in
        record {
          first_fits = (lines_fit ρ (λ s. s) N.inputs N.gates).0 (append_left P (first_lines N) _ h);
          second_fits = (lines_fit ρ (second_of N) M.inputs M.gates).0 (append_left P (second_lines N M) _ behind);
          apart = (pairs_apart ρ e).0 (append_left P (pair_lines N M) _ outs);
          some_one = (last_some ρ (first_difference N M) (length N.outputs)).0 (append_right P (pair_lines N M) _ outs).0;
        },
    λ s. each_append P (first_lines N) _ ((lines_fit ρ (λ s. s) N.inputs N.gates).1 s.first_fits)
        (each_append P (second_lines N M) _ ((lines_fit ρ (second_of N) M.inputs M.gates).1 s.second_fits)
        (each_append P (pair_lines N M) _ ((pairs_apart ρ e).1 s.apart) ((last_some ρ (first_difference N M) (length N.outputs)).1 s.some_one, tt))),
  )
    where
      P : Line → Type 0
      P line = T (holds ρ line)

-- ---- the frame of a solution

-- an assignment that fits N has N's output bits on its inputs
pub fits_outputs : (N : Net) (σ ρ : Assignment) → WellFormed N → Fits σ N → ((s : ℕ) → s < N.inputs → σ s ≡ ρ s) → map σ N.outputs ≡ output_bits N ρ
unfolding output_bits
fits_outputs N σ ρ g h e = outputs_one N σ (values N ρ) g h (values_fit N ρ g) λ s k. e s k ∙ sym (values_inputs N ρ s k)

-- the number whose bits are the inputs' bits
inputs_frame : Net → Assignment → ℕ
inputs_frame N ρ = word_of (tab N.inputs ρ)

frame_inputs : (N : Net) (ρ : Assignment) (s : ℕ) → s < N.inputs → ρ s ≡ frame (inputs_frame N ρ) s
unfolding inputs_frame
frame_inputs N ρ s h = sym (frame_tab N.inputs ρ s h)

solution_differs : (N M : Net) → WellFormed N → WellFormed M → N.inputs ≡ M.inputs → (ρ : Assignment) → Solution N M ρ
    → output_bits N (frame (inputs_frame N ρ)) ≢ output_bits M (frame (inputs_frame N ρ))
solution_differs N M gn gm e ρ s k = let o = s.some_one in s.apart o.0 o.1 o.2 (ap (λ (bs : List Bool). get_or bs o.0 false) (n ∙ k ∙ sym m))
  where
    f : Assignment
    f = frame (inputs_frame N ρ)

    n : map ρ N.outputs ≡ output_bits N f
    n = fits_outputs N ρ f gn s.first_fits (frame_inputs N ρ)

    m : map (second_bits N ρ) M.outputs ≡ output_bits M f
    m = fits_outputs M (second_bits N ρ) f gm s.second_fits λ i h.
        ap ρ (second_input N.inputs (length N.gates) i (omega arith)) ∙ frame_inputs N ρ i (omega arith)

frame_of : (N M : Net) → Sound N → Sound M → N.inputs ≡ M.inputs → length N.outputs ≡ length M.outputs
    → (ρ : Assignment) → Solves ρ (question N M) → Differ N M
unfolding inputs_frame
frame_of N M sn sm ei eo ρ h = (
  inputs_frame N ρ,
  tab_below N.inputs ρ,
  solution_differs N M (sound_good N sn) (sound_good M sm) ei ρ ((solves_is N M ρ eo).0 h),
)

-- ---- the solution that a frame gives

-- only the bits of its signals count where an assignment fits
pub fits_local : (n : ℕ) (gs : List Gate) (ρ σ : Assignment) → Ordered n gs → ((s : ℕ) → s < n + length gs → ρ s ≡ σ s)
    → BitsFrom ρ n (map (bit ρ) gs) → BitsFrom σ n (map (bit σ) gs)
fits_local n [] ρ σ o e v = tt
fits_local n (g ∷ gs) ρ σ o e v = (
  sym (e n (omega arith)) ∙ v.0 ∙ bit_local ρ σ g (each_imp (λ s. s < n) (λ s. ρ s ≡ σ s) (λ s h. e s (omega arith)) (signals_of g.feeds) o.0),
  fits_local (suc n) gs ρ σ o.1 (λ s h. e s (omega arith)) v.1,
)

bits_many : (N : Net) (ρ : Assignment) → length (output_bits N ρ) ≡ length N.outputs
unfolding output_bits
bits_many N ρ = length-map N.outputs (values N ρ)

-- where two lists of bits differ
bits_differ : (xs ys : List Bool) → length xs ≡ length ys → xs ≢ ys → (j : ℕ) × (j < length xs) × (get_or xs j false ≢ get_or ys j false)
bits_differ [] [] e k = absurd (k refl)
bits_differ [] (y ∷ ys) e k = absurd (omega arith)
bits_differ (x ∷ xs) [] e k = absurd (omega arith)
bits_differ (x ∷ xs) (y ∷ ys) e k = go x y k (bits_differ xs ys (omega arith))
  where
    go : (a b : Bool) → ◌≢◌ {A = List Bool} (a ∷ xs) (b ∷ ys) → (xs ≢ ys → (j : ℕ) × (j < length xs) × (get_or xs j false ≢ get_or ys j false))
        → (j : ℕ) × (j < suc (length xs)) × (get_or (a ∷ xs) j false ≢ get_or (b ∷ ys) j false)
    go true true k r = let o = r (λ p. k (ap {B = List Bool} (λ l. true ∷ l) p)) in (suc o.0, omega (arith, o.1), o.2)
    go false false k r = let o = r (λ p. k (ap {B = List Bool} (λ l. false ∷ l) p)) in (suc o.0, omega (arith, o.1), o.2)
    go true false k r = (0, omega arith, true≢false)
    go false true k r = (0, omega arith, false≢true)

pub differs_one : (a b : Bool) → (T (not (beq a b)) → a ≢ b) × (a ≢ b → T (not (beq a b)))
differs_one true true = (λ t. absurd t, λ h. absurd (h refl))
differs_one true false = (λ t. true≢false, λ h. tt)
differs_one false true = (λ t. false≢true, λ h. tt)
differs_one false false = (λ t. absurd t, λ h. absurd (h refl))

-- x below a, y from a on, z from b on
pieces : {A : Type 0} → ℕ → ℕ → (ℕ → A) → (ℕ → A) → (ℕ → A) → ℕ → A
pieces a b x y z s = cond (ltb s a) (x s) (cond (ltb s b) (y s) (z s))

module _ {A : Type 0} (a b : ℕ) (x y z : ℕ → A) (s : ℕ) where
  piece_first : s < a → pieces a b x y z s ≡ x s
  unfolding pieces
  piece_first h = rw (is_true (ltb s a) (lt→ltb s a h))

  piece_second : a ≤ s → s < b → pieces a b x y z s ≡ y s
  unfolding pieces
  piece_second h k = rw (is_false (ltb s a) (le→nltb s a h), is_true (ltb s b) (lt→ltb s b k))

  piece_third : a ≤ b → b ≤ s → pieces a b x y z s ≡ z s
  unfolding pieces
  piece_third h k = rw (is_false (ltb s a) (le→nltb s a (omega arith)), is_false (ltb s b) (le→nltb s b k))

module _ (N M : Net) (f : Assignment) where
  -- both networks' bits, and a d that is 1 exactly where the outputs differ
  frame_solution : Assignment
  frame_solution = pieces (N.inputs + length N.gates) (first_difference N M)
      (values N f) (λ s. values M f (s - length N.gates)) (λ s. differs N M f (s - first_difference N M))

  at_first : (s : ℕ) → s < N.inputs + length N.gates → values N f s ≡ frame_solution s
  unfolding frame_solution
  at_first s h = sym (piece_first (N.inputs + length N.gates) (first_difference N M) (values N f) _ _ s h)

  at_second : N.inputs ≡ M.inputs → (s : ℕ) → s < M.inputs + length M.gates → values M f s ≡ second_bits N frame_solution s
  unfolding frame_solution first_difference
  at_second e s h = elim (dec_lt s N.inputs) as (λ d. values M f s ≡ second_bits N frame_solution s) [
    | yes k ↦ rw (second_input N.inputs (length N.gates) s k) (values_inputs M f s (omega arith) ∙ sym (values_inputs N f s k) ∙ at_first s (omega arith))
    | no k ↦ rw (second_gate N.inputs (length N.gates) s (omega arith))
        (ap (values M f) (let j : s ≡ s + length N.gates - length N.gates = omega arith in j)
        ∙ sym (piece_second (N.inputs + length N.gates) (first_difference N M) (values N f) _ _ (s + length N.gates) (omega arith) (omega arith)))
  ]

  at_third : (j : ℕ) → frame_solution (first_difference N M + j) ≡ differs N M f j
  unfolding frame_solution first_difference
  at_third j = piece_third (N.inputs + length N.gates) (first_difference N M) (values N f) _ _ (first_difference N M + j) (omega arith) (omega arith)
      ∙ ap (differs N M f) (omega arith)

  solution_is : WellFormed N → WellFormed M → N.inputs ≡ M.inputs → length N.outputs ≡ length M.outputs → output_bits N f ≢ output_bits M f
      → Solution N M frame_solution
  unfolding differs
  solution_is gn gm ei eo k = record {
    first_fits = first_fits;
    second_fits = second_fits;
    apart = λ j h t. rw (n, m) ((differs_one (get_or (output_bits N f) j false) (get_or (output_bits M f) j false)).0 (subst T (at_third j) t));
    some_one = (o.0, omega (arith, o.1, bits_many N f), subst T (sym (at_third o.0)) ((differs_one _ _).1 o.2));
  }
    where
      first_fits : Fits frame_solution N
      first_fits = fits_local N.inputs N.gates (values N f) frame_solution gn.ordered at_first (values_fit N f gn)

      second_fits : Fits (second_bits N frame_solution) M
      second_fits = fits_local M.inputs M.gates (values M f) (second_bits N frame_solution) gm.ordered (at_second ei) (values_fit M f gm)

      o : (j : ℕ) × (j < length (output_bits N f)) × (get_or (output_bits N f) j false ≢ get_or (output_bits M f) j false)
      o = bits_differ (output_bits N f) (output_bits M f) (bits_many N f ∙ eo ∙ sym (bits_many M f)) k

      n : map frame_solution N.outputs ≡ output_bits N f
      n = fits_outputs N frame_solution f gn first_fits λ s h. sym (at_first s (omega arith)) ∙ values_inputs N f s h

      m : map (second_bits N frame_solution) M.outputs ≡ output_bits M f
      m = fits_outputs M (second_bits N frame_solution) f gm second_fits λ s h. sym (at_second ei s (omega arith)) ∙ values_inputs M f s h

solution_of : (N M : Net) → Sound N → Sound M → N.inputs ≡ M.inputs → length N.outputs ≡ length M.outputs
    → (x : ℕ) → x < 2 ^ N.inputs → output_bits N (frame x) ≢ output_bits M (frame x) → HasSolution N M
solution_of N M sn sm ei eo x h k =
    (frame_solution N M (frame x), (solves_is N M (frame_solution N M (frame x)) eo).1 (solution_is N M (frame x) (sound_good N sn) (sound_good M sm) ei eo k))

-- ---- the question decides
pub question_decides : (N M : Net) → Sound N → Sound M → N.inputs ≡ M.inputs → length N.outputs ≡ length M.outputs → Decides N M
question_decides N M sn sm ei eo = (λ s. frame_of N M sn sm ei eo s.0 s.1, λ d. solution_of N M sn sm ei eo d.0 d.1 d.2)
