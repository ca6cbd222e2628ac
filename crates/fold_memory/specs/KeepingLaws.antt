-- The hints and the refusers that are left after a collapse, gate by gate. Assumes nothing.
use Rattle.std.specs.Prelude.{◌≡◌, Bool, ◌≢◌, ℕ, ◌+◌, ◌≤◌, ◌<◌, length}
use Rattle.std.proofs.Math.Path.{refl, ap}
use Rattle.std.proofs.Common.{sym, ◌∙◌, subst, arith, length-set, get_or-set_same, get_or-set_other}
use Rattle.std.proofs.Math.Bool.{true, false, cond}
use mathlib.Core.List.{List}
use borrow.Author.Tests.{eqb-true, eqb-false, lt-ltb, le-ltb}
use Rattle.std.proofs.Math.Dec.{eqb, ltb, ltb→lt, lt→ltb}
use Rattle.std.proofs.Math.ListN.{get_or, set, get_or-eq_default}
use Rattle.basics.specs.ListLaws.{tab_of, tab_same}
use Rattle.basics.specs.Lists.{tab}
use Rattle.basics.specs.PlaceLaws.{set_tab}
use Rattle.basics.specs.TableLaws.{tab_any}
use Rattle.basics.specs.TestLaws.{test_same}
use Rattle.network.specs.Changes.{lowered, raised}
use Rattle.network.specs.ChangeLaws.{raised_near}
use Rattle.fold_memory.specs.Keeping.{hint_at, RefuserKept, RefusersKept}

-- ---- hints
module _ (hints : List ℕ) (g : ℕ) where
  -- so many are lowered
  abbrev pub lowered_to : ℕ → List ℕ
  lowered_to n = tab (length hints) (hint_at hints g n)

  hint_past : (n i : ℕ) → n ≤ i → hint_at hints g n i ≡ get_or hints i 0
  unfolding hint_at
  hint_past n i h = rw (le-ltb i n h)

  pub lowered_none : hints ≡ lowered_to 0
  lowered_none = sym (tab_of 0 (length hints) (hint_at hints g 0) hints refl (λ i h. hint_past 0 i (omega arith)))

  -- the hint that a gate had is not lowered yet
  hint_former : (n : ℕ) → get_or (lowered_to n) (raised g n) 0 ≡ get_or hints (raised g n) 0
  hint_former n =
      let still = hint_past n (raised g n) (raised_near g n).0 in
      tab_any 0 (length hints) (hint_at hints g n) (raised g n) (λ past. still ∙ get_or-eq_default hints 0 {n = raised g n} past) ∙ still

  -- one more
  pub lowered_more : (n : ℕ) {xs : List ℕ} {from x : ℕ} → xs ≡ lowered_to n → from ≡ raised g n → x ≡ lowered g (get_or xs from 0) → set xs n x ≡ lowered_to (n + 1)
  unfolding hint_at
  lowered_more n {xs} e f d =
      let next = lowered g (get_or hints (raised g n) 0) in
      let hint = ap (λ (k : ℕ). get_or xs k 0) f ∙ ap (λ (ys : List ℕ). get_or ys (raised g n) 0) e ∙ hint_former n in
      ap (set xs n) (d ∙ ap (lowered g) hint)
      ∙ ap (λ (ys : List ℕ). set ys n next) e
      ∙ set_tab (length hints) (hint_at hints g n) n next
      ∙ tab_same (length hints) _ _ λ i h.
      elim (eqb n i) as (λ b. eqb n i ≡ b → cond b next (hint_at hints g n i) ≡ hint_at hints g (n + 1) i) [
        | true ↦ λ t. let e = eqb-true n i t in rw (← e, lt-ltb n (n + 1) (omega arith))
        | false ↦ λ t.
            let other = eqb-false n i t in
            let same : ltb i n ≡ ltb i (n + 1) = test_same (ltb i n) (ltb i (n + 1))
            (λ u. lt→ltb i (n + 1) (let l = ltb→lt i n u in omega arith)) (λ u. lt→ltb i n (let l = ltb→lt i (n + 1) u in omega arith)) in
            ap (λ (b : Bool). cond b (lowered g (get_or hints (raised g i) 0)) (get_or hints i 0)) same
      ] refl

-- ---- refusers

-- an array with another number at place i, by its places
pub at_set : (P : ℕ → Type 0) (xs : List ℕ) (i j x : ℕ) → i < length xs → (j ≡ i → P x) → (j ≢ i → P (get_or xs j 0)) → P (get_or (set xs i x) j 0)
at_set P xs i j x h f g = elim (eqb j i) as (λ b. eqb j i ≡ b → P (get_or (set xs i x) j 0)) [
  | true ↦ λ t. let e = eqb-true j i t in rw (e, get_or-set_same xs i x 0) (f e)
  | false ↦ λ t. let n = eqb-false j i t in rw (get_or-set_other xs i j x 0 n) (g n)
] refl

-- none is passed
pub kept_none : (refusers ks : List ℕ) (g : ℕ) → length refusers ≡ 128 → RefusersKept refusers ks g 0 refusers
kept_none refusers ks g l = record { long = l; each = λ i h. absurd (omega arith); rest = λ i h. refl }

-- one more
pub kept_more : {refusers ks : List ℕ} {g i : ℕ} {left : List ℕ} → RefusersKept refusers ks g i left → (v : ℕ) → i < 128
    → (v < 128 → RefuserKept ks g (raised g i) (get_or left (raised g i) 0) v) → RefusersKept refusers ks g (i + 1) (set left i v)
kept_more {refusers} {ks} {g} {i} {left} m v h k = record {
  long = length-set left i v ∙ m.long;
  each = λ j l. at_set (λ x. x < 128 → RefuserKept ks g (raised g j) (get_or refusers (raised g j) 0) x) left i j v (omega (arith, m.long))
      (λ e. rw e (subst (λ (y : ℕ). v < 128 → RefuserKept ks g (raised g i) y v) (m.rest (raised g i) (raised_near g i).0) k))
      (λ n. m.each j (omega arith));
  rest = λ j l. get_or-set_other left i j v 0 (λ e. omega arith) ∙ m.rest j (omega arith);
}
