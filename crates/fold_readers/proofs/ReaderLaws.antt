-- Laws of the readers of a signal: what is left to look at after each place and each gate. Assumes nothing.
use mathlib.Core.Path.{◌≡◌, refl, ap, sym, ◌∙◌}
use borrow.Rule.Slice.PartMut.{mid_of}
use Rattle.std.specs.Prelude.{◌↔◌}
use Rattle.std.specs.List.{Any, filter, range_with_len}
use Rattle.basics.specs.TableLaws.{range_tab}
use Rattle.basics.specs.ListLaws.{tab_of, all_tab, below_no, at_below}
use Rattle.basics.specs.TestLaws.{is_true}
use Rattle.std.proofs.lemmas.Grind.{get_or_default_zero}
use Rattle.network_places.specs.PasteLaws.{part_tab}
use mathlib.Core.Bool.{Bool, true, false, not, cond}
use mathlib.Core.List.{List, ◌∷◌, map, map-map}
use Prim.Native.Nat.{ℕ, zero, suc, ◌+◌, ◌*◌, ◌≤◌}
use native.Mathlib.Omega.{arith}
use borrow.Author.Tests.{eq-eqb, ne_eqb}
use lib.IntN.{ℤ}
use lib.ListN.{length, get_or}
use Rattle.basics.specs.Lists.{all, below, keep, range, other}
use Rattle.network.specs.Threshold.{Feed}
use Rattle.network.specs.Limits.{signals_of}
use Rattle.network.specs.Record.{feed_at, feeds_from, gate_from}
use Rattle.fold_theory.specs.Merge.{silent, reads}
use Rattle.fold_readers.specs.Readers.{occurs}

-- ---- a signal among those of a list, and among places
-- a test that says whether some member is s
pub has_is : (b : Bool) (xs : List ℕ) (s : ℕ) → (b ≡ true ↔ Any (λ x. x ≡ s) xs) → b ≡ not (all (other s) xs)
unfolding other
has_is b xs s h = rw (← tab_of 0 (length xs) at xs refl (λ i l. refl)) (rw all_tab (go b h))
  where
    at : ℕ → ℕ
    at i = get_or xs i 0

    go : (t : Bool) → (t ≡ true ↔ Any (λ x. x ≡ s) xs) → t ≡ not (below (length xs) (λ i. other s (at i)))
    go true m =
        let (k, x, l, e, q) = m.0 refl in
        let here : at k ≡ s = sym (get_or_default_zero xs k x l) ∙ e ∙ q in
        ap not (sym (below_no (length xs) (λ i. other s (at i)) k l (ap not (eq-eqb (at k) s here))))
    go false m = ap not (sym (is_true _ (at_below (length xs) (λ i. other s (at i)) λ i l.
        let none : at i ≡ s → ⊥ = λ r. let f : false ≡ true = m.1 (i, at i, l, get_or_default_zero xs i (at i) l, r) in cc in
        rw (ne_eqb (at i) s none) tt)))

-- n places from place base on
pub occurs_part : (xs : List ℕ) (base n k s : ℕ) → k ≡ n → base + n ≤ length xs → not (all (other s) (mid_of base k xs)) ≡ occurs xs base n s
unfolding occurs
occurs_part xs base n k s e h = ap (λ (l : List ℕ). not (all (other s) l)) (part_tab 0 base n k xs e h ∙ sym (range_tab (λ p. get_or xs p 0) base n))

-- a gate reads a signal that is among its feeds' places
pub reads_places : (fs : List ℕ) (ts : List ℤ) (ss : List ℕ) (ws : List ℤ) (g s : ℕ) → reads s (gate_from fs ts ss ws g) ≡ occurs ss (16 * g) (get_or fs g 0) s
unfolding reads silent gate_from feeds_from signals_of feed_at occurs
reads_places fs ts ss ws g s = ap (λ (l : List ℕ). not (all (other s) l)) (map-map (λ (f : Feed). f.signal) (feed_at ss ws) (range (16 * g) (get_or fs g 0)))

-- ---- what is kept of a table, and the places that are kept
module _ {A : Type 0} (p : A → Bool) (f : ℕ → A) where
  pub kept_places : (a n : ℕ) → length (filter (λ i. p (f i)) (range_with_len a n)) ≡ length (keep p (map f (range a n)))
  unfolding keep range
  kept_places a zero = refl
  kept_places a (suc n) =
      let later : a + 1 ≡ suc a = omega arith in
      let rest : List ℕ = filter (λ i. p (f i)) (range_with_len (a + 1) n) in
      same (p (f a)) rest (keep p (map f (range (suc a) n)))
      (ap (λ (b : ℕ). length (filter (λ i. p (f i)) (range_with_len b n))) later ∙ kept_places (suc a) n)
    where
      same : (b : Bool) (is : List ℕ) (xs : List A) → length is ≡ length xs → length (cond b (a ∷ is) is) ≡ length (cond b (f a ∷ xs) xs)
      same true is xs e = ap suc e
      same false is xs e = e
