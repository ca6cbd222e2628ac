-- The distinct feeds below a signal, as they are listed one by one. Assumes nothing.
use mathlib.Core.Path.{◌≡◌, refl, ap, ◌∙◌, subst}
use mathlib.Core.Bool.{Bool, true, false, not, cond, ◌&&◌, ◌||◌}
use mathlib.Core.List.{List, [], ◌∷◌, ◌++◌, map}
use Prim.Native.Nat.{ℕ, ◌+◌, ◌≤◌, ◌<◌}
use native.Mathlib.Omega.{arith}
use lib.Dec.{T, T_not, eqb, eqb→eq, eqb_refl}
use lib.IntN.{ℤ, pos}
use lib.ListN.{length, get_or, set, replicate, length-append}
use borrow.Author.Tests.{eqb-true}
use Rattle.basics.specs.Lists.{keep, range, other, places}
use Rattle.basics.specs.TestLaws.{T_is, test_same}
use Rattle.basics.specs.ListLaws.{length_keep, length_range, range_more, get_or_tab}
use Rattle.network.specs.Threshold.{Feed}
use Rattle.network.specs.Limits.{is_zero}
use Rattle.fold_theory.specs.Merge.{Edge, weight_of, among, distinct}
use Rattle.fold_theory.proofs.AlignedLaws.{EdgeOk, reads_weight, u_apart}
use Rattle.pair_theory.specs.Alignments.{weight_table, with_u}
use Rattle.basics.specs.PlaceLaws.{set_tab, keep_last, places_none, places_last, places_full, placed_last, placed_full}
use Rattle.pair_theory.specs.declared.Alignment.{Alignment}

-- the distinct feeds below s
abbrev pub found : Edge → ℕ → List ℕ
found e s = keep (among e) (range 0 s)

-- u's and v's weights
abbrev pub in_u : Edge → ℕ → ℤ
in_u e x = weight_of x e.gate_u.feeds

abbrev pub in_v : Edge → ℕ → ℤ
in_v e x = weight_of x e.gate_v.feeds

-- v's other weights: 0 for u
abbrev pub in_other : Edge → ℕ → ℤ
in_other e x = cond (eqb e.u x) (pos 0) (in_v e x)

-- ---- the tables of weights

-- the weight of a signal
pub table_at : (fs : List Feed) (s : ℕ) → s < 256 → get_or (weight_table fs) s (pos 0) ≡ weight_of s fs
unfolding weight_table
table_at fs s h = get_or_tab (pos 0) 256 (λ s. weight_of s fs) s h

-- with u's weight taken out
pub other_at : (e : Edge) (s : ℕ) → s < 256 → get_or (set (weight_table e.gate_v.feeds) e.u (pos 0)) s (pos 0) ≡ in_other e s
unfolding weight_table
other_at e s h = rw (set_tab 256 (in_v e) e.u (pos 0)) (get_or_tab (pos 0) 256 (in_other e) s h)

-- ---- a distinct feed, by its weights

eqb_swap : (a b : ℕ) → eqb a b ≡ eqb b a
eqb_swap a b = test_same (eqb a b) (eqb b a) (λ t. rw (eqb→eq a b t) (eqb_refl b)) (λ t. rw (eqb→eq b a t) (eqb_refl a))

other_zero : (b : Bool) (z : ℤ) → (not b && not (is_zero z)) ≡ not (is_zero (cond b (pos 0) z))
unfolding is_zero
other_zero true z = refl
other_zero false z = refl

-- a distinct feed has a weight in u, or another in v
pub among_is : (e : Edge) → EdgeOk e → (s : ℕ) → among e s ≡ (not (is_zero (in_u e s)) || not (is_zero (in_other e s)))
unfolding among other
among_is e ok s =
    rw (reads_weight ok.ok_u s, reads_weight ok.ok_v s, eqb_swap s e.u)
    (ap (λ (b : Bool). not (is_zero (in_u e s)) || b) (other_zero (eqb e.u s) (in_v e s)))

-- u is none, so the weight in v is that among v's other weights
pub other_is : (e : Edge) → EdgeOk e → (s : ℕ) → among e s ≡ true → in_other e s ≡ in_v e s
other_is e ok s h = elim (eqb e.u s) as (λ b. eqb e.u s ≡ b → cond b (pos 0) (in_v e s) ≡ in_v e s) [
  | true ↦ λ q. absurd (T_not (among e s) (subst (λ (x : ℕ). T (not (among e x))) (eqb-true e.u s q) (u_apart e ok)) (T_is (among e s) h))
  | false ↦ λ q. refl
] refl

-- ---- the lists

-- the distinct feeds below s: their number, and the first 16 of them with their weights
pub record Listed (e : Edge) (s count : ℕ) (signals : List ℕ) (us vs : List ℤ) : Type 0 where
  pub counted : count ≡ length (found e s)
  pub named : signals ≡ places 16 0 (found e s)
  pub in_u_lem : us ≡ places 16 (pos 0) (map (in_u e) (found e s))
  pub in_v_lem : vs ≡ places 16 (pos 0) (map (in_v e) (found e s))

module _ (e : Edge) where
  -- below 0 there are none
  pub listed_none : Listed e 0 0 (replicate 16 0) (replicate 16 (pos 0)) (replicate 16 (pos 0))
  unfolding keep range
  listed_none = record { counted = refl; named = places_none 16 0; in_u_lem = places_none 16 (pos 0); in_v_lem = places_none 16 (pos 0) }

  -- below s there are at most s
  pub listed_few : (s count : ℕ) {signals : List ℕ} {us vs : List ℤ} → Listed e s count signals us vs → count ≤ s
  listed_few s count l = omega (arith, l.counted, length_keep (among e) (range 0 s), length_range 0 s)

  -- whether s is one more
  found_more : (s : ℕ) → found e (s + 1) ≡ cond (among e s) (found e s ++ (s ∷ [])) (found e s)
  found_more s = rw (range_more 0 s, let q : 0 + s ≡ s = omega arith in q) (keep_last (among e) (range 0 s) s)

  module _ (s count : ℕ) (signals : List ℕ) (us vs : List ℤ) (l : Listed e s count signals us vs) where
    -- s is no distinct feed
    pub listed_skip : among e s ≡ false → Listed e (s + 1) count signals us vs
    listed_skip h =
        let q : found e (s + 1) ≡ found e s = found_more s ∙ rw h in
        record { counted = rw q l.counted; named = rw q l.named; in_u_lem = rw q l.in_u_lem; in_v_lem = rw q l.in_v_lem }

    -- s is one, and there is room
    pub listed_store : (x y : ℤ) → among e s ≡ true → x ≡ in_u e s → y ≡ in_v e s
        → Listed e (s + 1) (count + 1) (set signals count s) (set us count x) (set vs count y)
    listed_store x y h ex ey =
        let q : found e (s + 1) ≡ found e s ++ (s ∷ []) = found_more s ∙ rw h in
        record {
          counted = rw q (omega (arith, l.counted, length-append (found e s) (s ∷ [])));
          named = rw (q, l.named, l.counted) (places_last 16 0 (found e s) s);
          in_u_lem = rw q (placed_last 16 (pos 0) (in_u e) (found e s) s count us l.in_u_lem l.counted x ex);
          in_v_lem = rw q (placed_last 16 (pos 0) (in_v e) (found e s) s count vs l.in_v_lem l.counted y ey);
        }

    -- s is one, and the 16 places are taken
    pub listed_full : among e s ≡ true → 16 ≤ count → Listed e (s + 1) (count + 1) signals us vs
    listed_full h k =
        let q : found e (s + 1) ≡ found e s ++ (s ∷ []) = found_more s ∙ rw h in
        record {
          counted = rw q (omega (arith, l.counted, length-append (found e s) (s ∷ [])));
          named = rw (q, l.named) (places_full 16 0 (found e s) s (omega (arith, l.counted)));
          in_u_lem = rw q (placed_full 16 (pos 0) (in_u e) (found e s) s count us l.in_u_lem l.counted k);
          in_v_lem = rw q (placed_full 16 (pos 0) (in_v e) (found e s) s count vs l.in_v_lem l.counted k);
        }

  -- below v there are all
  pub listed_all : (count : ℕ) (signals : List ℕ) (us vs : List ℤ) → Listed e e.v count signals us vs
      → ◌≡◌ {A = Alignment} (record { count = count; signals = signals; us = us; vs = vs; thresholds = (with_u e).thresholds }) (with_u e)
  unfolding with_u distinct
  listed_all count signals us vs l =
      λ j. record { count = l.counted j; signals = l.named j; us = l.in_u_lem j; vs = l.in_v_lem j; thresholds = (with_u e).thresholds }
