-- Laws of the list of sums in a table: a list doubled by a weight, and a table filled weight by weight. Assumes nothing.
use mathlib.Core.Path.{◌≡◌, sym, ap, ap₂, ◌∙◌, subst}
use mathlib.Core.Bool.{Bool, ◌&&◌}
use mathlib.Core.List.{List, [], ◌∷◌}
use Prim.Native.Nat.{ℕ, suc, ◌*◌, ◌-◌, ◌^◌, ◌≤◌, ◌<◌}
use native.Mathlib.Nat.{two-pow-succ}
use native.Mathlib.Omega.{arith}
use lib.Dec.{T}
use lib.IntN.{ℤ, pos, ◌+ℤ◌}
use lib.ListN.{length, get_or, drop, replicate, length-drop, length-replicate, get_or-replicate, drop_of_length-le}
use lib.Pow.{pow_mono}
use lib.Seq.{drop-cons}
use Rattle.basics.specs.Lists.{below}
use Rattle.basics.specs.ListLaws.{below_at, at_below}
use Rattle.basics.specs.TestLaws.{test_same}
use Rattle.basics.specs.SizeLaws.{SizesWithin}
use Rattle.gate_rising.specs.Sums.{every_sum}
use Rattle.gate_rising.specs.SumLaws.{listed_small, drop_small}
use Rattle.gate_rising.specs.Tables.{SumsWithin, Growable, Grown, HoldsSums}

-- no weight has one sum, 0
holds_none : HoldsSums [] 1 (replicate 512 (pos 0))
holds_none = record {
  long = length-replicate 512 (pos 0);
  listed = λ p. unfold every_sum below in ap p (get_or-replicate 512 1 (pos 0) (pos 0) (omega arith));
  rising = λ i j k l. let e : i ≡ j = omega arith in rw e (omega arith);
}

-- one weight more
holds_grown : {ws : List ℤ} {n : ℕ} {before after : List ℤ} (w : ℤ) → HoldsSums ws n before → Grown n w before after → HoldsSums (w ∷ ws) (2 * n) after
unfolding every_sum
holds_grown w s g = record {
  long = g.long;
  listed = λ p. g.doubled p ∙ ap₂ ◌&&◌ (s.listed p) (s.listed (λ z. p (w +ℤ z)));
  rising = g.rising;
}

-- ---- a table filled weight by weight, from the last

-- the weights from i on have their n sums
pub record Filling (weights : List ℤ) (i n : ℕ) (sums : List ℤ) : Type 0 where
  pub left : i ≤ length weights
  pub many : n ≡ 2 ^ (length weights - i)
  pub part : HoldsSums (drop i weights) n sums

pub filling_none : (weights : List ℤ) (i : ℕ) → i ≡ length weights → Filling weights i 1 (replicate 512 (pos 0))
filling_none weights i e = record {
  left = omega arith;
  many = rw (let d : length weights - i ≡ 0 = omega arith in d);
  part = rw (drop_of_length-le weights {i = i} (omega arith)) holds_none;
}

module _ (weights : List ℤ) (i n : ℕ) (sums : List ℤ) (s : Filling weights i n sums) (few : length weights ≤ 8) (small : SizesWithin 1000000 weights) where
  -- the sizes of the sums
  filling_small : SumsWithin (1000000 * (length weights - i)) n sums
  filling_small = rw length-drop at (listed_small (drop i weights) n sums (drop_small i weights small) s.part.listed)

  pub filling_growable : 0 < i → Growable n (get_or weights (i - 1) (pos 0)) sums
  filling_growable h = record {
    long = s.part.long;
    few = let p = pow_mono {i = length weights - i} {j = 7} (omega arith) in omega (arith, s.many);
    weight_small = small (i - 1);
    sums_small = λ j k. omega (arith, filling_small j k);
    rising = s.part.rising;
  }

  pub filling_more : (after : List ℤ) → 0 < i → Grown n (get_or weights (i - 1) (pos 0)) sums after → Filling weights (i - 1) (2 * n) after
  filling_more after h g = record {
    left = omega (arith, s.left);
    many = rw (let e : length weights - (i - 1) ≡ suc (length weights - i) = omega (arith, s.left) in e)
        (omega (arith, two-pow-succ (length weights - i), s.many));
    part = subst (λ (ws : List ℤ). HoldsSums ws (2 * n) after)
        (sym (drop-cons weights (i - 1) (pos 0) (omega (arith, s.left))
        ∙ ap (λ (k : ℕ). get_or weights (i - 1) (pos 0) ∷ drop k weights) (let e : suc (i - 1) ≡ i = omega arith in e)))
        (holds_grown (get_or weights (i - 1) (pos 0)) s.part g);
  }

-- all weights have their sums
pub filling_all : (weights : List ℤ) (n : ℕ) (sums : List ℤ) → Filling weights 0 n sums → HoldsSums weights (2 ^ length weights) sums
filling_all weights n sums s =
    let e : n ≡ 2 ^ length weights = s.many ∙ ap (λ (k : ℕ). 2 ^ k) (let e : length weights - 0 ≡ length weights = omega arith in e) in
    rw e at s.part
