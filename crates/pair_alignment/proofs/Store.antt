-- The weights of a gate stored by signal, the last feed first. Assumes nothing.
use mathlib.Core.Path.{◌≡◌, refl, sym}
use mathlib.Core.List.{List, [], ◌∷◌}
use Prim.Native.Nat.{ℕ, zero, suc, ◌-◌, ◌≤◌, ◌<◌}
use native.Mathlib.Omega.{arith}
use lib.IntN.{ℤ, pos}
use lib.ListN.{get_or, set, replicate}
use Rattle.basics.specs.Lists.{range}
use Rattle.basics.specs.ListLaws.{tab_replicate}
use Rattle.network.specs.Threshold.{Feed}
use Rattle.network.specs.Record.{feeds_from, feed_at}
use Rattle.fold_theory.specs.Merge.{weight_of}
use Rattle.pair_theory.specs.Alignments.{weight_table}
use Rattle.basics.specs.PlaceLaws.{set_tab}

-- no feed, and one feed more in front
table_none : replicate 256 (pos 0) ≡ weight_table []
unfolding weight_table weight_of
table_none = sym (tab_replicate 256 (pos 0))

table_first : (f : Feed) (fs : List Feed) → set (weight_table fs) f.signal f.weight ≡ weight_table (f ∷ fs)
unfolding weight_table weight_of
table_first f fs = set_tab 256 (λ s. weight_of s fs) f.signal f.weight

module _ (signals : List ℕ) (weights : List ℤ) where
  feeds_none : (i : ℕ) → feeds_from signals weights i 0 ≡ []
  unfolding feeds_from range
  feeds_none i = refl

  feeds_first : (i m : ℕ) → feeds_from signals weights i (suc m) ≡ feed_at signals weights i ∷ feeds_from signals weights (suc i) m
  unfolding feeds_from range
  feeds_first i m = refl

  -- no feed is stored
  pub store_none : (n : ℕ) → replicate 256 (pos 0) ≡ weight_table (feeds_from signals weights n (n - n))
  store_none n = rw (let e : n - n ≡ 0 = omega arith in e, feeds_none n) table_none

  -- feed i - 1 is stored after those behind it
  pub store_more : (i n : ℕ) → 0 < i → i ≤ n → set (weight_table (feeds_from signals weights i (n - i))) (get_or signals (i - 1) 0) (get_or weights (i - 1) (pos 0))
      ≡ weight_table (feeds_from signals weights (i - 1) (n - (i - 1)))
  unfolding feed_at
  store_more zero n h k = absurd (omega arith)
  store_more (suc i) n h k = rw (
    let e : suc i - 1 ≡ i = omega arith in e,
    let e : n - i ≡ suc (n - suc i) = omega arith in e,
    feeds_first i (n - suc i),
  ) (table_first (feed_at signals weights i) (feeds_from signals weights (suc i) (n - suc i)))
