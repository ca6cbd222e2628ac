-- A row of 17 places, written place by place. Assumes nothing.
use Rattle.std.specs.Prelude.{◌≡◌, refl, cond, List, ◌∷◌, map, ℕ, zero, suc, ◌+◌, ◌<◌, eqb, length, get_or}
use Rattle.std.proofs.Common.{sym, ap, ◌∙◌, arith, ext_get_or}
use Rattle.basics.specs.ListLaws.{tab_of}
use Rattle.basics.specs.TableLaws.{map_tab}
use Rattle.basics.specs.TestLaws.{eqb_no}
use Rattle.network.specs.Places.{Pasted}
use Rattle.network_places.specs.PasteLaws.{pasted_tab}
use Rattle.compare_theory.specs.Wiring.{moved, moved_row}

module _ {A : Type 0} (d : A) {old new : List A} {f : ℕ → A} (long : length old ≡ 17) (h : Pasted d 1 16 f old new) where
  -- place i of those after the first
  after_first : (i : ℕ) → suc i < length new → get_or new (suc i) d ≡ f i
  after_first i l = ap (λ (k : ℕ). get_or new k d) (let e : suc i ≡ 1 + i = omega arith in e) ∙ h.inside i (omega (arith, h.long)) (omega (arith, h.long))

  -- the first place, and then a list of 16
  pub row_put : (x : A) (xs : List A) → length xs ≡ 16 → get_or old 0 d ≡ x → ((i : ℕ) → i < 16 → f i ≡ get_or xs i d) → new ≡ x ∷ xs
  row_put x xs lx e k = ext_get_or d new (x ∷ xs) (h.long ∙ long ∙ sym (ap suc lx)) at
    where
      at : (i : ℕ) → i < length new → get_or new i d ≡ get_or (x ∷ xs) i d
      at zero l = h.before 0 (omega arith) ∙ e
      at (suc i) l = after_first i l ∙ k i (omega (arith, h.long))

-- the signals of a row moved one after another
pub row_moved : (p q : ℕ) {row new : List ℕ} → length row ≡ 17 → Pasted 0 1 16 (λ i. moved p q (get_or row (1 + i) 0)) row new → new ≡ moved_row p q row
unfolding moved_row
row_moved p q {row} {new} long h = sym (tab_of 0 17 (λ i. cond (eqb i 0) (get_or row i 0) (moved p q (get_or row i 0))) new (sym (h.long ∙ long)) at)
  where
    at : (i : ℕ) → i < length new → cond (eqb i 0) (get_or row i 0) (moved p q (get_or row i 0)) ≡ get_or new i 0
    at zero l = sym (h.before 0 (omega arith))
    at (suc i) l = rw (eqb_no (suc i) 0 (λ e. omega arith))
        (ap (λ (k : ℕ). moved p q (get_or row k 0)) (let e : suc i ≡ 1 + i = omega arith in e) ∙ sym (after_first 0 long h i l))

-- a function at each member, one after the other
pub mapped : {A : Type 0} (d : A) (f : A → A) {old new : List A} {n : ℕ} → Pasted d 0 n (λ k. f (get_or old k d)) old new → n ≡ length old → new ≡ map f old
mapped d f {old} {new} {n} h e = pasted_tab (rw e at h) refl ∙ sym (map_tab f (length old) (λ k. get_or old k d))
    ∙ ap (map f) (tab_of d (length old) (λ k. get_or old k d) old refl (λ i k. refl))
