-- Levels, feed by feed and gate by gate: the highest so far, how high it is, and what is left. Assumes nothing.
use mathlib.Core.Path.{◌≡◌, refl, ap, ◌∙◌, fun_ext}
use mathlib.Core.List.{List, [], ◌∷◌, map}
use Prim.Native.Nat.{ℕ, zero, suc, ◌+◌, ◌-◌, ◌≤◌, ◌<◌, max}
use native.Mathlib.Numerals.{add-one}
use native.Mathlib.Omega.{arith}
use lib.Dec.{eqb}
use lib.IntN.{ℤ}
use lib.ListN.{length, get_or, set, replicate, length-set, length-replicate}
use Rattle.basics.specs.Lists.{range, tab}
use Rattle.basics.specs.TestLaws.{cond_case}
use Rattle.network.specs.Threshold.{Feed, Gate}
use Rattle.network.specs.Record.{feed_at, feeds_from}
use Rattle.network_levels.specs.Levels.{highest, level_above, gate_level, with_level, levels_from}
use Rattle.network_levels.specs.Arrays.{levels_in}
use Rattle.network_levels.proofs.SetLaws.{get_or_repeated, get_d_set}

-- ---- the feeds of a gate

-- i of the feeds are looked at, and most is their highest level
pub record FeedsSeen (level_of : ℕ → ℕ) (ss : List ℕ) (i most : ℕ) : Type 0 where
  pub left : (ws : List ℤ) → max most (highest level_of (feeds_from ss ws i (length ss - i))) ≡ highest level_of (feeds_from ss ws 0 (length ss))

module _ (level_of : ℕ → ℕ) (ss : List ℕ) (ws : List ℤ) where
  highest_end : (p n : ℕ) → n ≡ 0 → highest level_of (feeds_from ss ws p n) ≡ 0
  unfolding highest feeds_from range
  highest_end p n e = rw e

  highest_step : (p n m : ℕ) → n ≡ m + 1
      → highest level_of (feeds_from ss ws p n) ≡ max (level_of (get_or ss p 0)) (highest level_of (feeds_from ss ws (p + 1) m))
  unfolding highest feeds_from range feed_at
  highest_step p n m e = simp (e, add-one)

pub feeds_none : (level_of : ℕ → ℕ) (ss : List ℕ) → FeedsSeen level_of ss 0 0
feeds_none level_of ss = record {
  left = λ ws. rw (let d : length ss - 0 ≡ length ss = omega arith in d)
      (let s : max 0 (highest level_of (feeds_from ss ws 0 (length ss))) ≡ highest level_of (feeds_from ss ws 0 (length ss)) = omega arith in s);
}

module _ {level_of : ℕ → ℕ} {ss : List ℕ} {i most : ℕ} (h : FeedsSeen level_of ss i most) where
  pub feeds_next : (x : ℕ) → x ≡ max most (level_of (get_or ss i 0)) → i < length ss → FeedsSeen level_of ss (i + 1) x
  feeds_next x e k = record {
    left = λ ws. omega (arith, e, h.left ws, highest_step level_of ss ws i (length ss - i) (length ss - (i + 1)) (omega arith));
  }

  pub feeds_all : length ss ≤ i → (ws : List ℤ) → most ≡ highest level_of (feeds_from ss ws 0 (length ss))
  feeds_all k ws = omega (arith, h.left ws, highest_end level_of ss ws i (length ss - i) (omega arith))

-- ---- how high a gate is
highest_most : (level_of : ℕ → ℕ) (k : ℕ) (fs : List Feed) → ((s : ℕ) → level_of s ≤ k) → highest level_of fs ≤ k
unfolding highest
highest_most level_of k [] h = omega arith
highest_most level_of k (f ∷ fs) h = omega (arith, h f.signal, highest_most level_of k fs h)

pub most_under : {level_of : ℕ → ℕ} (fs : List Feed) {most : ℕ} (k : ℕ) → most ≡ highest level_of fs → ((s : ℕ) → level_of s ≤ k) → most ≤ k
most_under {level_of} fs k e h = omega (arith, highest_most level_of k fs h)

above_most : (level_of : ℕ → ℕ) (k : ℕ) (fs : List Feed) → ((s : ℕ) → level_of s ≤ k) → level_above level_of fs ≤ k + 1
unfolding level_above
above_most level_of k [] h = omega arith
above_most level_of k (f ∷ fs) h = omega (arith, highest_most level_of k (f ∷ fs) h)

gate_level_most : (level_of : ℕ → ℕ) (k : ℕ) (g : Gate) → ((s : ℕ) → level_of s ≤ k) → gate_level level_of g ≤ k + 1
unfolding gate_level
gate_level_most level_of k g h = above_most level_of k g.feeds h

-- the level above n feeds, without feeds and with some
module _ (level_of : ℕ → ℕ) (ss : List ℕ) (ws : List ℤ) (p : ℕ) where
  pub above_none : (n : ℕ) → n ≡ 0 → level_above level_of (feeds_from ss ws p n) ≡ 0
  unfolding level_above feeds_from range
  above_none n e = rw e

  pub above_some : (n : ℕ) → 0 < n → level_above level_of (feeds_from ss ws p n) ≡ suc (highest level_of (feeds_from ss ws p n))
  unfolding level_above feeds_from range
  above_some zero h = absurd (omega (arith, h))
  above_some (suc n) h = refl

-- ---- the gates

-- a level put into the array is a level given to a signal
levels_set : (a : List ℕ) (n h : ℕ) → n < length a → levels_in (set a n h) ≡ with_level (levels_in a) n h
unfolding with_level
levels_set a n h k = fun_ext λ s. get_d_set a n h 0 s k

-- the array a has the levels of the inputs and of g gates, most is the highest of these, and the gates from g on are left
pub record LevelsLeft (gate : ℕ → Gate) (inputs gates g most : ℕ) (a : List ℕ) : Type 0 where
  pub long : length a ≡ 256
  pub small : (s : ℕ) → levels_in a s ≤ g
  pub left : max most (levels_from (inputs + g) (map gate (range g (gates - g))) (levels_in a)) ≡ levels_from inputs (tab gates gate) (λ s. 0)

module _ (gate : ℕ → Gate) (level_of : ℕ → ℕ) where
  levels_end : (n g m : ℕ) → m ≡ 0 → levels_from n (map gate (range g m)) level_of ≡ 0
  unfolding levels_from range
  levels_end n g m e = rw e

  levels_step : (n k g h m l : ℕ) → k ≡ n + 1 → h ≡ g + 1 → m ≡ l + 1
      → levels_from n (map gate (range g m)) level_of ≡ max (gate_level level_of (gate g))
      (levels_from k (map gate (range h l)) (with_level level_of n (gate_level level_of (gate g))))
  unfolding levels_from range
  levels_step n k g h m l e d f = simp (e, d, f, add-one)

pub levels_none : (gate : ℕ → Gate) (inputs gates : ℕ) → LevelsLeft gate inputs gates 0 0 (replicate 256 0)
levels_none gate inputs gates = record {
  long = length-replicate {A = ℕ} 256 0;
  small = λ s. omega (arith, get_or_repeated {A = ℕ} 256 s 0);
  left =
      let all = levels_from inputs (tab gates gate) in
      let clear : levels_in (replicate 256 0) ≡ (λ s. 0) = fun_ext λ s. get_or_repeated {A = ℕ} 256 s 0 in
      rw (let e : inputs + 0 ≡ inputs = omega arith in e, let d : gates - 0 ≡ gates = omega arith in d, clear)
      (let s : max 0 (all (λ s. 0)) ≡ all (λ s. 0) = omega arith in s);
}

module _ {gate : ℕ → Gate} {inputs gates g most : ℕ} {a : List ℕ} (h : LevelsLeft gate inputs gates g most a) where
  pub levels_next : (x y : ℕ) → x ≡ gate_level (levels_in a) (gate g) → y ≡ max most x → g < gates → inputs + g < 256
      → LevelsLeft gate inputs gates (g + 1) y (set a (inputs + g) x)
  levels_next x y e d k l = record {
    long = length-set a (inputs + g) x ∙ h.long;
    small = λ s. rw (get_d_set a (inputs + g) x 0 s (omega (arith, h.long)))
        (cond_case (λ n. n ≤ g + 1) (eqb s (inputs + g)) (λ t. omega (arith, e, gate_level_most (levels_in a) g (gate g) h.small))
        (λ t. omega (arith, h.small s)));
    left =
        let rest = levels_from (inputs + (g + 1)) (map gate (range (g + 1) (gates - (g + 1)))) in
        let put : rest (levels_in (set a (inputs + g) x)) ≡ rest (with_level (levels_in a) (inputs + g) (gate_level (levels_in a) (gate g)))
        = ap rest (levels_set a (inputs + g) x (omega (arith, h.long)) ∙ ap (with_level (levels_in a) (inputs + g)) e) in
        omega (
          arith,
          d,
          e,
          put,
          h.left,
          levels_step gate (levels_in a) (inputs + g) (inputs + (g + 1)) g (g + 1) (gates - g) (gates - (g + 1)) (omega arith) refl (omega arith),
        );
  }

  pub levels_all : gates ≤ g → most ≡ levels_from inputs (tab gates gate) (λ s. 0)
  levels_all k = omega (arith, h.left, levels_end gate (levels_in a) (inputs + g) g (gates - g) (omega arith))
