-- Laws of the lists of sums in two tables: two lists added, and the two halves of the weights. Assumes nothing.
use mathlib.Core.Path.{◌≡◌, sym, ap, ap₂, ◌∙◌, fun_ext}
use mathlib.Core.List.{List, [], ◌∷◌, ◌++◌}
use Prim.Native.Nat.{ℕ, zero, suc, ◌-◌, ◌*◌, ◌/◌, ◌^◌, ◌≤◌, ◌<◌}
use native.Mathlib.Omega.{arith}
use lib.IntN.{ℤ, pos, ◌+ℤ◌}
use lib.ListN.{length, get_or, take, drop, length-drop, take-append-drop}
use lib.Pow.{pow_mono}
use lib.Seq.{length-take-le, get_or-take, get_or-drop}
use Rattle.basics.specs.Lists.{below}
use Rattle.basics.specs.ListLaws.{below_same}
use Rattle.basics.specs.SizeLaws.{SizesWithin}
use Rattle.gate_rising.specs.Sums.{every_sum}
use Rattle.gate_rising.specs.SumLaws.{listed_small, drop_small}
use Rattle.gate_rising.specs.Tables.{member, Listed, HoldsSums}
use Rattle.gate_margins.specs.Sums.{apart}
use Rattle.gate_margins.specs.SumLaws.{every_append}
use Rattle.gate_margins.specs.Tables.{Addable, AddableList, apart_all, lists_apart}

-- two lists added
pub apart_listed : (xs ys lows highs : List ℤ) (n m : ℕ) (floor ceiling : ℤ) → Listed xs n lows → Listed ys m highs
    → apart_all lows highs n m floor ceiling ≡ every_sum (apart floor ceiling) (xs ++ ys)
unfolding apart_all
apart_listed xs ys lows highs n m floor ceiling l h =
    ap (below n) (fun_ext λ i. h (λ y. apart floor ceiling (member lows n i +ℤ y)))
    ∙ l (λ x. every_sum (λ y. apart floor ceiling (x +ℤ y)) ys)
    ∙ sym (every_append (apart floor ceiling) xs ys)

-- ---- the two halves of the weights

take_small : (k : ℕ) (weights : List ℤ) → SizesWithin 1000000 weights → SizesWithin 1000000 (take k weights)
take_small zero weights h i = omega arith
take_small (suc k) [] h i = omega arith
take_small (suc k) (w ∷ weights) h zero = h 0
take_small (suc k) (w ∷ weights) h (suc i) = take_small k weights (λ j. h (suc j)) i

-- the weights before the middle, and those from it on
pub record Halves (weights lows highs : List ℤ) : Type 0 where
  pub joined : lows ++ highs ≡ weights
  pub lows_few : length lows ≤ 8
  pub highs_few : length highs ≤ 8
  pub lows_small : SizesWithin 1000000 lows
  pub highs_small : SizesWithin 1000000 highs

pub halves : {weights lows highs : List ℤ} → length weights ≤ 16 → SizesWithin 1000000 weights → lows ≡ take (length weights / 2) weights
    → highs ≡ drop (length weights / 2) weights → Halves weights lows highs
halves {weights} few small l h = rw (l, h) (record {
  joined = take-append-drop (length weights / 2) weights;
  lows_few = omega (arith, length-take-le (length weights / 2) weights (omega arith));
  highs_few = omega (arith, length-drop (length weights / 2) weights);
  lows_small = take_small (length weights / 2) weights small;
  highs_small = drop_small (length weights / 2) weights small;
})

-- a table of at most 8 weights' sums can be added
pub addable : (weights : List ℤ) (n : ℕ) (sums : List ℤ) → length weights ≤ 8 → SizesWithin 1000000 weights → n ≡ 2 ^ length weights
    → HoldsSums weights (2 ^ length weights) sums → Addable n sums
addable weights n sums few small e s = rw e (record {
  few = let p = pow_mono {i = length weights} {j = 8} few in omega arith;
  sums_small = λ i k. omega (arith, listed_small weights (2 ^ length weights) sums small s.listed i k);
  rising = s.rising;
})

pub listed_count : (weights : List ℤ) (n : ℕ) (sums : List ℤ) → n ≡ 2 ^ length weights → HoldsSums weights (2 ^ length weights) sums → Listed weights n sums
listed_count weights n sums e s p = rw e (s.listed p)

-- ---- the sums by themselves, outside their table
module _ (sums : List ℤ) {n : ℕ} (long : length sums ≡ 512) (few : n ≤ 256) where
  abbrev part : List ℤ
  part = take (2 * n - n) (drop n sums)

  part_length : length part ≡ n
  part_length = length-take-le (2 * n - n) (drop n sums) (omega (arith, length-drop n sums)) ∙ omega arith

  part_member : (i : ℕ) → i < n → get_or part i (pos 0) ≡ member sums n i
  part_member i h = get_or-take (2 * n - n) (drop n sums) i (pos 0) (omega arith) ∙ get_or-drop n sums i (pos 0)

pub lone : {n : ℕ} {sums : List ℤ} → length sums ≡ 512 → Addable n sums → AddableList (take (2 * n - n) (drop n sums))
lone {n} {sums} long a =
    let len = part_length sums long a.few in
    record {
      few = omega (arith, a.few);
      sums_small = λ i h. let k : i < n = omega arith in rw (part_member sums long a.few i k) (a.sums_small i k);
      rising = λ i j h k.
          let l : j < n = omega arith in
          rw (part_member sums long a.few i (omega arith), part_member sums long a.few j l) (a.rising i j h l);
    }

pub lone_apart : (lows highs : List ℤ) {n m : ℕ} (floor ceiling : ℤ) → length lows ≡ 512 → n ≤ 256 → length highs ≡ 512 → m ≤ 256
    → lists_apart (take (2 * n - n) (drop n lows)) (take (2 * m - m) (drop m highs)) floor ceiling ≡ apart_all lows highs n m floor ceiling
unfolding lists_apart apart_all
lone_apart lows highs {n} {m} floor ceiling long few long' few' = rw (part_length lows long few, part_length highs long' few')
    (below_same n _ _ λ i h. below_same m _ _ λ j k.
    ap₂ (λ (x y : ℤ). apart floor ceiling (x +ℤ y)) (part_member lows long few i h) (part_member highs long' few' j k))
