-- The list of n sums being doubled: what the table has after some members were put at the front and some at the back, and a member more
-- at either end. Assumes nothing.
use mathlib.Core.Path.{◌≡◌, refl, sym, ap, ◌∙◌, subst}
use mathlib.Core.Bool.{true, false}
use mathlib.Core.List.{List}
use mathlib.Core.Logic.{◌≢◌}
use Prim.Native.Nat.{ℕ, ◌+◌, ◌*◌, ◌-◌, ◌≤◌, ◌<◌}
use native.Mathlib.Omega.{arith}
use lib.IntN.{ℤ, pos, ◌+ℤ◌}
use lib.Signed.{le_z}
use lib.ListN.{length, set, length-set}
use lib.Seq.{get_or-set_same, get_or-set_other}
use Rattle.basics.specs.IntegerLaws.{add_law, le_yes, le_no}
use Rattle.gate_rising.specs.Tables.{AtMost, member, Growable, Grown, ChoiceOfTwo, ChosenPut}
use Rattle.gate_rising.proofs.Merging.{Merged, merged_none, merged_same, first_put, second_put, both_same, both_rise}
use Rattle.gate_rising.proofs.Merging.{AtLeast, reversed, last, at_most_trans}

-- each member with the weight
abbrev pub weighted : ℤ → (ℕ → ℤ) → ℕ → ℤ
weighted w f i = w +ℤ f i

-- fronts members stand at the front and backs at the back: a and n − c of the list, b and n − d of the list with the weight
pub record Weaving (n : ℕ) (w : ℤ) (before : List ℤ) (fronts backs a b c d : ℕ) (after : List ℤ) : Type 0 where
  pub fronts_few : fronts ≤ n
  pub backs_few : backs ≤ n
  pub at_front : a + b ≡ fronts
  pub at_back : c + d + backs ≡ 2 * n
  pub c_few : c ≤ n
  pub d_few : d ≤ n
  pub long : length after ≡ 512
  pub kept : (i : ℕ) → i < n → member after n i ≡ member before n i
  pub front : Merged AtMost (member before n) (weighted w (member before n)) n a b (member after (2 * n))
  pub back : Merged AtLeast (reversed n (weighted w (member before n))) (reversed n (member before n)) n (n - d) (n - c)
      (reversed (2 * n) (member after (2 * n)))

-- what a store in the list of 2 n sums leaves
record Stored (n place : ℕ) (z : ℤ) (old new : List ℤ) : Type 0 where
  long : length new ≡ 512
  here : member new (2 * n) place ≡ z
  elsewhere : (i : ℕ) → i ≢ place → member new (2 * n) i ≡ member old (2 * n) i
  source : (i : ℕ) → i < n → member new n i ≡ member old n i

stored : (n place : ℕ) (z : ℤ) (old new : List ℤ) → length old ≡ 512 → 2 * n + place < 512 → new ≡ set old (2 * n + place) z → Stored n place z old new
stored n place z old new l h e = record {
  long = ap length e ∙ length-set old (2 * n + place) z ∙ l;
  here = rw e (get_or-set_same old (2 * n + place) z (pos 0) (omega arith));
  elsewhere = λ i k. rw e (get_or-set_other old (2 * n + place) (2 * n + i) z (pos 0) (λ q. k (omega arith)));
  source = λ i k. rw e (get_or-set_other old (2 * n + place) (n + i) z (pos 0) (λ q. absurd (omega arith)));
}

add_at_most : (w x y : ℤ) → AtMost x y → AtMost (w +ℤ x) (w +ℤ y)
add_at_most w x y h = omega (arith, add_law w x, add_law w y)

-- ---- a list that can be doubled
module _ (n : ℕ) (w : ℤ) (before : List ℤ) (ok : Growable n w before) where
  abbrev f : ℕ → ℤ
  f = member before n

  abbrev h : ℕ → ℤ
  h = weighted w f

  f_rises : (i j : ℕ) → i ≤ j → j < n → AtMost (f i) (f j)
  f_rises i j k l = ok.rising i j k l

  h_rises : (i j : ℕ) → i ≤ j → j < n → AtMost (h i) (h j)
  h_rises i j k l = add_at_most w (f i) (f j) (f_rises i j k l)

  -- nothing put yet
  pub weaving_none : Weaving n w before 0 0 0 0 n n before
  weaving_none = record {
    fronts_few = omega arith;
    backs_few = omega arith;
    at_front = refl;
    at_back = omega arith;
    c_few = omega arith;
    d_few = omega arith;
    long = ok.long;
    kept = λ i k. refl;
    front = merged_none AtMost f h n (member before (2 * n));
    back = subst (λ (z : ℕ). Merged AtLeast (reversed n h) (reversed n f) n z z (reversed (2 * n) (member before (2 * n))))
        (let e : 0 ≡ n - n = omega arith in e)
        (merged_none AtLeast (reversed n h) (reversed n f) n (reversed (2 * n) (member before (2 * n))));
  }

  module _ (fronts backs a b c d : ℕ) (after : List ℤ) (s : Weaving n w before fronts backs a b c d after) where
    -- the members to choose from
    pub turn : (i j : ℕ) → i < n → j < n → ChoiceOfTwo n w i j after
    turn i j k l = record {
      few = ok.few;
      a_inside = k;
      b_inside = l;
      weight_small = ok.weight_small;
      sums_small = λ x q. rw (s.kept x q) (ok.sums_small x q);
    }

    -- a member more at the front
    module _ (after' : List ℤ) (room : fronts < n) where
      abbrev x : ℤ
      x = member after n a

      abbrev y : ℤ
      y = w +ℤ member after n b

      x_is : x ≡ f a
      x_is = s.kept a (omega arith)

      y_is : y ≡ h b
      y_is = ap (λ (z : ℤ). w +ℤ z) (s.kept b (omega arith))

      front_more : (a' b' : ℕ) (z : ℤ) → a' + b' ≡ fronts + 1 → (t : Stored n (a + b) z after after')
          → Merged AtMost f h n a' b' (member after' (2 * n)) → Weaving n w before (fronts + 1) backs a' b' c d after'
      front_more a' b' z e t m = record {
        fronts_few = omega arith;
        backs_few = s.backs_few;
        at_front = e;
        at_back = s.at_back;
        c_few = s.c_few;
        d_few = s.d_few;
        long = t.long;
        kept = λ i k. t.source i k ∙ s.kept i k;
        front = m;
        back = merged_same (reversed (2 * n) (member after (2 * n))) (reversed (2 * n) (member after' (2 * n)))
            (λ i k. t.elsewhere (2 * n - 1 - i) (λ q. absurd (far i k q))) s.back;
      }
        where
          far : (i : ℕ) → i < n - d + (n - c) → 2 * n - 1 - i ≡ a + b → ⊥
          far i k q =
              let u = s.at_front in
              let v = s.at_back in
              let p = s.backs_few in
              let r = s.c_few in
              let o = s.d_few in
              omega arith

      pub front_turn : (r : ℕ) → ChosenPut (le_z x y) x y (2 * n + (a + b)) after after' r
          → Weaving n w before (fronts + 1) backs (a + r) (b + (1 - r)) c d after'
      front_turn r =
          elim (le_z x y) as
          (λ t. le_z x y ≡ t → ChosenPut t x y (2 * n + (a + b)) after after' r → Weaving n w before (fronts + 1) backs (a + r) (b + (1 - r)) c d after') [
            | true ↦ λ e p.
                let t = stored n (a + b) x after after' s.long (omega arith) p.placed in
                let le : AtMost (f a) (h b) = rw (x_is, y_is) at (le_yes x y e) in
                let m = first_put at_most_trans f h n f_rises h_rises a b (member after (2 * n)) (member after' (2 * n)) s.front
                (λ i k. t.elsewhere i (λ q. absurd (omega arith))) (omega arith) (omega arith) le (t.here ∙ x_is) in
                rw (p.told, let q : b + (1 - 1) ≡ b = omega arith in q) (front_more (a + 1) b x (omega arith) t m)
            | false ↦ λ e p.
                let t = stored n (a + b) y after after' s.long (omega arith) p.placed in
                let gt = rw (x_is, y_is) at (le_no x y e) in
                let m = second_put at_most_trans f h n f_rises h_rises a b (member after (2 * n)) (member after' (2 * n)) s.front
                (λ i k. t.elsewhere i (λ q. absurd (omega arith))) (omega arith) (omega arith) (λ q. omega arith) (omega arith) (t.here ∙ y_is) in
                rw (p.told, let q : a + 0 ≡ a = omega arith in q, let q : b + (1 - 0) ≡ b + 1 = omega arith in q) (front_more a (b + 1) y (omega arith) t m)
          ] refl

    -- a member more at the back
    module _ (after' : List ℤ) (room : backs < n) where
      abbrev v : ℤ
      v = member after n (c - 1)

      abbrev u : ℤ
      u = w +ℤ member after n (d - 1)

      some_c : 1 ≤ c
      some_c = omega arith

      some_d : 1 ≤ d
      some_d = omega arith

      c_last : reversed n f (n - c) ≡ f (c - 1)
      c_last = ap f (last n c some_c s.c_few)

      d_last : reversed n h (n - d) ≡ h (d - 1)
      d_last = ap h (last n d some_d s.d_few)

      v_is : v ≡ reversed n f (n - c)
      v_is = s.kept (c - 1) (omega arith) ∙ sym c_last

      u_is : u ≡ reversed n h (n - d)
      u_is = ap (λ (z : ℤ). w +ℤ z) (s.kept (d - 1) (omega arith)) ∙ sym d_last

      -- the place from the back
      place : 2 * n - 1 - (n - d + (n - c)) ≡ c + d - 1
      place = let p = s.c_few in let q = s.d_few in omega arith

      f_falls : (i j : ℕ) → i ≤ j → j < n → AtLeast (reversed n f i) (reversed n f j)
      f_falls i j k l = f_rises (n - 1 - j) (n - 1 - i) (omega arith) (omega arith)

      h_falls : (i j : ℕ) → i ≤ j → j < n → AtLeast (reversed n h i) (reversed n h j)
      h_falls i j k l = h_rises (n - 1 - j) (n - 1 - i) (omega arith) (omega arith)

      falling_trans : (x y z : ℤ) → AtLeast x y → AtLeast y z → AtLeast x z
      falling_trans x y z p q = omega arith

      abbrev g : ℕ → ℤ
      g = reversed (2 * n) (member after (2 * n))

      abbrev g' : ℕ → ℤ
      g' = reversed (2 * n) (member after' (2 * n))

      far : (i : ℕ) → i < n - d + (n - c) → 2 * n - 1 - i ≡ c + d - 1 → ⊥
      far i k q = let p = s.c_few in let r = s.d_few in omega arith

      back_more : (c' d' : ℕ) (z : ℤ) → c' + d' + 1 ≡ c + d → c' ≤ n → d' ≤ n → (t : Stored n (c + d - 1) z after after')
          → Merged AtLeast (reversed n h) (reversed n f) n (n - d') (n - c') g' → Weaving n w before fronts (backs + 1) a b c' d' after'
      back_more c' d' z e k l t m = record {
        fronts_few = s.fronts_few;
        backs_few = omega arith;
        at_front = s.at_front;
        at_back = omega (arith, s.at_back);
        c_few = k;
        d_few = l;
        long = t.long;
        kept = λ i k. t.source i k ∙ s.kept i k;
        front = merged_same (member after (2 * n)) (member after' (2 * n)) (λ i k. t.elsewhere i (λ q. absurd (near i k q))) s.front;
        back = m;
      }
        where
          near : (i : ℕ) → i < a + b → i ≡ c + d - 1 → ⊥
          near i k q =
              let x = s.at_front in
              let y = s.at_back in
              let z = s.fronts_few in
              omega arith

      pub back_turn : (r : ℕ) → ChosenPut (le_z v u) u v (2 * n + (c + d - 1)) after after' r
          → Weaving n w before fronts (backs + 1) a b (c - (1 - r)) (d - r) after'
      back_turn r =
          elim (le_z v u) as
          (λ t. le_z v u ≡ t → ChosenPut t u v (2 * n + (c + d - 1)) after after' r → Weaving n w before fronts (backs + 1) a b (c - (1 - r)) (d - r) after') [
            | true ↦ λ e p.
                let t = stored n (c + d - 1) u after after' s.long (omega arith) p.placed in
                let le = rw (v_is, u_is) at (le_yes v u e) in
                let m = first_put falling_trans (reversed n h) (reversed n f) n h_falls f_falls (n - d) (n - c) g g' s.back
                (λ i k. t.elsewhere (2 * n - 1 - i) (far i k)) (omega arith) (omega arith) le (ap (member after' (2 * n)) place ∙ t.here ∙ u_is) in
                let m' = rw (let q : n - d + 1 ≡ n - (d - 1) = omega (arith, s.d_few) in q) at m in
                rw (p.told, let q : c - (1 - 1) ≡ c = omega arith in q) (back_more c (d - 1) u (omega arith) s.c_few (omega arith) t m')
            | false ↦ λ e p.
                let t = stored n (c + d - 1) v after after' s.long (omega arith) p.placed in
                let gt = rw (v_is, u_is) at (le_no v u e) in
                let m = second_put falling_trans (reversed n h) (reversed n f) n h_falls f_falls (n - d) (n - c) g g' s.back
                (λ i k. t.elsewhere (2 * n - 1 - i) (far i k)) (omega arith) (omega arith) (λ q. omega arith) (omega arith)
                (ap (member after' (2 * n)) place ∙ t.here ∙ v_is) in
                let m' = rw (let q : n - c + 1 ≡ n - (c - 1) = omega (arith, s.c_few) in q) at m in
                rw (p.told, let q : c - (1 - 0) ≡ c - 1 = omega arith in q, let q : d - 0 ≡ d = omega arith in q)
                (back_more (c - 1) d v (omega arith) (omega arith) s.d_few t m')
          ] refl

    -- both ends have met
    pub woven : fronts ≡ n → backs ≡ n → Grown n w before after
    woven p q = record {
      long = s.long;
      doubled = both_same f h n f_rises h_rises a b c d (member after (2 * n)) s.front s.back (omega arith) (omega arith);
      rising = both_rise f h n f_rises h_rises a b c d (member after (2 * n)) s.front s.back (omega arith) (omega arith);
    }
