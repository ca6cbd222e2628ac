-- Laws of a list of calls given as numbers, five to a call: its test, its next call, how many calls it has, and the kind of an undo. Assumes
-- nothing.
use Rattle.std.specs.Prelude.{◌≡◌, refl, true, false, ◌&&◌, List, [], ◌∷◌, ℕ, zero, suc, ◌+◌, ◌*◌, ◌<◌, ◌≤◌, length, get_or, drop}
use Rattle.std.proofs.Common.{ap, ◌∙◌, add-zero, arith, length-drop, drop-drop, get_or-drop}
use Rattle.std.proofs.lemmas.Bool.{false≢true}
use Rattle.std.proofs.Math.Dec.{leb}
use Rattle.basics.specs.TestLaws.{and_right}
use Rattle.call_theory.specs.declared.Call.TheVariants.{Undo}
use Rattle.call_numbers.specs.Numbers.{call_of, well_formed, calls_in}
use Rattle.call_numbers.specs.CallPlaces.{call_at}

-- fewer are no call
pub formed_short : (ns : List ℕ) → 0 < length ns → length ns < 5 → well_formed ns ≡ false
unfolding well_formed
formed_short [] h k = absurd (omega arith)
formed_short (a ∷ []) h k = refl
formed_short (a ∷ b ∷ []) h k = refl
formed_short (a ∷ b ∷ c ∷ []) h k = refl
formed_short (a ∷ b ∷ c ∷ d ∷ []) h k = refl
formed_short (a ∷ b ∷ c ∷ d ∷ e ∷ ns) h k = absurd (omega arith)

-- a list that has five
five : (P : List ℕ → Type 0) → ((a b c d e : ℕ) (ns : List ℕ) → P (a ∷ b ∷ c ∷ d ∷ e ∷ ns)) → (ns : List ℕ) → 5 ≤ length ns → P ns
five P f [] h = absurd (omega arith)
five P f (a ∷ []) h = absurd (omega arith)
five P f (a ∷ b ∷ []) h = absurd (omega arith)
five P f (a ∷ b ∷ c ∷ []) h = absurd (omega arith)
five P f (a ∷ b ∷ c ∷ d ∷ []) h = absurd (omega arith)
five P f (a ∷ b ∷ c ∷ d ∷ e ∷ ns) h = f a b c d e ns

module _ (ns : List ℕ) (at : ℕ) (h : at + 5 ≤ length ns) where
  five_left : 5 ≤ length (drop at ns)
  five_left = simp length-drop (omega arith)

  first_left : get_or (drop at ns) 0 0 ≡ get_or ns at 0
  first_left = get_or-drop at ns 0 0 ∙ ap (λ (k : ℕ). get_or ns k 0) (add-zero at)

  -- the test of the next five
  pub formed_next : well_formed (drop at ns) ≡ leb (get_or ns at 0) 5 && well_formed (drop (at + 5) ns)
  unfolding well_formed
  formed_next =
      five (λ l. well_formed l ≡ leb (get_or l 0 0) 5 && well_formed (drop 5 l)) (λ a b c d e l. refl) (drop at ns) five_left
      ∙ (λ x. leb (first_left x) 5 && well_formed (drop-drop 5 at ns x))

-- the next call
pub calls_next : (ns : List ℕ) (i : ℕ) → 5 * i + 5 ≤ length ns → calls_in (drop (5 * i) ns) ≡ call_at ns i ∷ calls_in (drop (5 * (i + 1)) ns)
unfolding calls_in
calls_next ns i h =
    let at = 5 * i in
    five (λ l. calls_in l ≡ call_at l 0 ∷ calls_in (drop 5 l)) (λ a b c d e l. refl) (drop at ns) (five_left ns at h)
    ∙ (λ x. call_of (first_left ns at h x) (get_or-drop at ns 1 0 x) (get_or-drop at ns 2 0 x) (get_or-drop at ns 3 0 x) (get_or-drop at ns 4 0 x)
    ∷ calls_in (drop-drop 5 at ns x))
    ∙ ap (λ (k : ℕ). call_at ns i ∷ calls_in (drop k ns)) {x = 5 * i + 5} {y = 5 * (i + 1)} (omega arith)

-- how many calls there are
pub count_calls : (ns : List ℕ) → well_formed ns ≡ true → length ns ≡ 5 * length (calls_in ns)
unfolding well_formed calls_in
count_calls [] h = refl
count_calls (a ∷ []) h = absurd (false≢true h)
count_calls (a ∷ b ∷ []) h = absurd (false≢true h)
count_calls (a ∷ b ∷ c ∷ []) h = absurd (false≢true h)
count_calls (a ∷ b ∷ c ∷ d ∷ []) h = absurd (false≢true h)
count_calls (a ∷ b ∷ c ∷ d ∷ e ∷ ns) h = let k = count_calls ns (and_right (leb a 5) (well_formed ns) h) in omega arith

-- every kind that is not 0, 1, 2, 3 or 4 is an undo
pub undo_call : (n a b c d : ℕ) → (n ≡ 0 → ⊥) → (n ≡ 1 → ⊥) → (n ≡ 2 → ⊥) → (n ≡ 3 → ⊥) → (n ≡ 4 → ⊥) → call_of n a b c d ≡ Undo
unfolding call_of
undo_call zero a b c d x y z w t = absurd (x refl)
undo_call (suc zero) a b c d x y z w t = absurd (y refl)
undo_call (suc (suc zero)) a b c d x y z w t = absurd (z refl)
undo_call (suc (suc (suc zero))) a b c d x y z w t = absurd (w refl)
undo_call (suc (suc (suc (suc zero)))) a b c d x y z w t = absurd (t refl)
undo_call (suc (suc (suc (suc (suc n))))) a b c d x y z w t = refl
