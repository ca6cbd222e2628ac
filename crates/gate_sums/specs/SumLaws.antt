-- Laws of the sum on a setting: of one bit more, of low and high bits, of the first weights alone, its size, and its reading from a
-- table. Assumes nothing.
use Rattle.std.specs.Prelude.{◌≡◌, refl, Bool, true, false, cond, List, [], ◌∷◌, ℕ, zero, suc, ◌+◌, ◌-◌, ◌*◌, ◌/◌, ◌%◌, ◌^◌, ◌≤◌, ◌<◌, eqb, ℤ, pos, nat_abs, ◌+ℤ◌, get_or, take, drop, set, replicate}
use Rattle.std.proofs.Common.{sym, ap, ◌∙◌, subst, div-one, add-one, arith, length-set, get_or-drop, get_or-set_same, get_or-set_other, below_more, pow_mono, to_z, of_z, to_z-of_z}
use Rattle.std.proofs.Math.Nat.{two-pow-succ, pow-succ', div-div-eq-div-mul, mod-one}
use Rattle.std.proofs.Math.Decide.{dec_lt}
use Rattle.std.proofs.Math.IntN.{+ℤ_assoc, +ℤ_idl}
use Rattle.std.proofs.lemmas.List.{length-replicate}
use Rattle.std.proofs.Math.ListN.{get_or-eq_default}
use Rattle.std.proofs.Math.Pow.{field, mod-mod-pow}
use Rattle.std.specs.Int.{w32}
use Rattle.basics.specs.IntegerLaws.{#, nat, ◌⊕◌, eq_of}
use Rattle.basics.specs.SizeLaws.{size_add, size_fits, SizesWithin}
use Rattle.gate_sums.specs.Tables.{sum_at, Sums, sum_from}

-- a weight where its bit is 1
abbrev weight_if : ℕ → ℤ → ℤ
weight_if s w = cond (eqb (s % 2) 1) w (pos 0)

-- no feed is 1 on setting 0
sum_at_none : (ws : List ℤ) → sum_at ws 0 ≡ pos 0
unfolding sum_at
sum_at_none [] = refl
sum_at_none (w ∷ ws) = +ℤ_idl (sum_at ws 0) ∙ sum_at_none ws

-- the setting on which bit h is 1 too
sum_double : (ws : List ℤ) (h j : ℕ) → j < 2 ^ h → sum_at ws (2 ^ h + j) ≡ sum_at ws j +ℤ get_or ws h (pos 0)
unfolding sum_at
sum_double [] h j l = refl
sum_double (w ∷ ws) zero j l = let e : j ≡ 0 = omega arith in rw e (eq_of (# w ⊕ # (sum_at ws 0)) ((nat 0 ⊕ # (sum_at ws 0)) ⊕ # w) (omega arith))
sum_double (w ∷ ws) (suc h) j l =
    let p = two-pow-succ h in
    let a : (2 ^ suc h + j) % 2 ≡ j % 2 = omega arith in
    let b : (2 ^ suc h + j) / 2 ≡ 2 ^ h + j / 2 = omega arith in
    rw (a, b, sum_double ws h (j / 2) (omega arith)) (sym (+ℤ_assoc (weight_if j w) (sum_at ws (j / 2)) (get_or ws h (pos 0))))

-- the sum of the low m bits and of the others
sum_at_split : (m : ℕ) (ws : List ℤ) (s : ℕ) → sum_at ws s ≡ sum_at ws (s % 2 ^ m) +ℤ sum_at (drop m ws) (s / 2 ^ m)
unfolding sum_at
sum_at_split zero ws s = rw (mod-one, div-one, sum_at_none) (sym (+ℤ_idl (sum_at ws s)))
sum_at_split (suc m) [] s = refl
sum_at_split (suc m) (w ∷ ws) s =
    let a : s % 2 ^ suc m % 2 ≡ s % 2 = ap (λ (n : ℕ). s % 2 ^ n % 2) (sym (add-one m)) ∙ mod-mod-pow s m 1 in
    let b : s % 2 ^ suc m / 2 ≡ s / 2 % 2 ^ m = ap (λ (n : ℕ). s % 2 ^ n / 2) (sym (add-one m)) ∙ field s m 1 in
    let d : s / 2 ^ suc m ≡ s / 2 / 2 ^ m = ap (λ (n : ℕ). s / n) (pow-succ' 2 m) ∙ sym (div-div-eq-div-mul s 2 (2 ^ m)) in
    rw (a, b, d, sum_at_split m ws (s / 2)) (sym (+ℤ_assoc (weight_if s w) (sum_at ws (s / 2 % 2 ^ m)) (sum_at (drop m ws) (s / 2 / 2 ^ m))))

-- past the bits of a setting nothing is added
sum_take : (n : ℕ) (ws : List ℤ) (s : ℕ) → s < 2 ^ n → sum_at (take n ws) s ≡ sum_at ws s
unfolding sum_at
sum_take zero ws s l = let e : s ≡ 0 = omega arith in rw e (sym (sum_at_none ws))
sum_take (suc n) [] s l = refl
sum_take (suc n) (w ∷ ws) s l = let p = two-pow-succ n in ap (λ (z : ℤ). weight_if s w +ℤ z) (sum_take n ws (s / 2) (omega arith))

size_picked : (b : Bool) (w : ℤ) → nat_abs (cond b w (pos 0)) ≤ nat_abs w
size_picked true w = omega arith
size_picked false w = omega arith

-- at most n weights are added on a setting of n bits
sum_size : (m n : ℕ) (ws : List ℤ) (s : ℕ) → s < 2 ^ n → SizesWithin m ws → nat_abs (sum_at ws s) ≤ m * n
unfolding sum_at
sum_size m zero ws s l h = let e : s ≡ 0 = omega arith in rw (e, sum_at_none) (omega arith)
sum_size m (suc n) [] s l h = omega arith
sum_size m (suc n) (w ∷ ws) s l h =
    let p = two-pow-succ n in
    omega (arith, size_add (weight_if s w) (sum_at ws (s / 2)), size_picked (eqb (s % 2) 1) w, h 0, sum_size m n ws (s / 2) (omega arith) (λ i. h (suc i)))

pub drop_small : (m n : ℕ) (ws : List ℤ) → SizesWithin m ws → SizesWithin m (drop n ws)
drop_small m n ws h i = rw get_or-drop (h (n + i))

-- ---- a table

-- two places of a table sum to the size of a sum of 16 weights
pub from_small : (sums : List ℤ) (setting : ℕ) → SizesWithin 8000000 sums → nat_abs (sum_from sums setting) ≤ 16000000
unfolding sum_from
from_small sums setting small =
    let both = size_add (get_or sums (setting % 256) (pos 0)) (get_or sums (256 + setting / 256) (pos 0)) in
    omega (arith, small (setting % 256), small (256 + setting / 256), both)

-- setting 0 alone
pub sums_one : (weights : List ℤ) → Sums weights 1 (replicate 512 (pos 0))
sums_one weights = record {
  long = length-replicate 512 (pos 0);
  low = λ j h. let e : j ≡ 0 = omega arith in rw e (sym (sum_at_none weights));
  high = λ j h. let e : j ≡ 0 = omega arith in rw e (sym (sum_at_none (drop 8 weights)));
}

-- a setting of at most 16 feeds
pub setting_low : (count setting : ℕ) → count ≤ 16 → setting < 2 ^ count → setting < 65536
setting_low count setting few on = let p = pow_mono {i = count} {j = 16} few in omega arith

-- what the doubling adds up: the sums on setting n + j, where n is 2 to the power of the new weight's number
pub record DoubledSums (weights sums : List ℤ) (bit n j : ℕ) : Type 0 where
  pub low : get_or sums j (pos 0) +ℤ get_or weights bit (pos 0) ≡ sum_at weights (n + j)
  pub high : get_or sums (256 + j) (pos 0) +ℤ get_or weights (8 + bit) (pos 0) ≡ sum_at (drop 8 weights) (n + j)
  pub low_small : nat_abs (get_or sums j (pos 0)) ≤ 8000000
  pub high_small : nat_abs (get_or sums (256 + j) (pos 0)) ≤ 8000000

pub doubled_sums : {weights sums : List ℤ} {n : ℕ} (bit j : ℕ) → n ≡ 2 ^ bit → j < n → j < 256 → SizesWithin 1000000 weights
    → Sums weights (n + j) sums → DoubledSums weights sums bit n j
doubled_sums {weights} {sums} {n} bit j e h k small t = record {
  low = rw (t.low j (omega arith), e) (sym (sum_double weights bit j (omega arith)));
  high = rw (t.high j (omega arith), e, ← get_or-drop) (sym (sum_double (drop 8 weights) bit j (omega arith)));
  low_small = rw (t.low j (omega arith)) (omega (arith, sum_size 1000000 8 weights j k small));
  high_small = rw (t.high j (omega arith)) (omega (arith, sum_size 1000000 8 (drop 8 weights) j k (drop_small 1000000 8 weights small)));
}

-- one setting more
pub sums_more : {weights sums : List ℤ} {n : ℕ} → Sums weights n sums → n < 256 → (x y : ℤ) → x ≡ sum_at weights n
    → y ≡ sum_at (drop 8 weights) n → Sums weights (n + 1) (set (set sums n x) (256 + n) y)
sums_more {weights} {sums} {n} t h x y ex ey =
    record {
      long = length-set (set sums n x) (256 + n) y ∙ length-set sums n x ∙ t.long;
      low = below_more (λ (j : ℕ). get_or (set (set sums n x) (256 + n) y) j (pos 0) ≡ sum_at weights j) n
          (λ j k. get_or-set_other (set sums n x) (256 + n) j y (pos 0) (λ q. absurd (omega arith))
          ∙ get_or-set_other sums n j x (pos 0) (λ q. absurd (omega arith)) ∙ t.low j k)
          (get_or-set_other (set sums n x) (256 + n) n y (pos 0) (λ q. absurd (omega arith)) ∙ get_or-set_same sums n x (pos 0) (omega arith) ∙ ex);
      high = below_more (λ (j : ℕ). get_or (set (set sums n x) (256 + n) y) (256 + j) (pos 0) ≡ sum_at (drop 8 weights) j) n
          (λ j k. get_or-set_other (set sums n x) (256 + n) (256 + j) y (pos 0) (λ q. absurd (omega arith))
          ∙ get_or-set_other sums n (256 + j) x (pos 0) (λ q. absurd (omega arith)) ∙ t.high j k)
          (get_or-set_same (set sums n x) (256 + n) y (pos 0) (omega (arith, length-set sums n x)) ∙ ey);
    }

module _ {weights sums : List ℤ} (t : Sums weights 256 sums) (small : SizesWithin 1000000 weights) where
  -- each place is the sum of 8 weights
  pub sums_small : SizesWithin 8000000 sums
  sums_small i = elim (dec_lt i 256) as (λ d. nat_abs (get_or sums i (pos 0)) ≤ 8000000) [
    | yes h ↦ rw (t.low i h) (omega (arith, sum_size 1000000 8 weights i h small))
    | no h ↦ elim (dec_lt i 512) as (λ d. nat_abs (get_or sums i (pos 0)) ≤ 8000000) [
      | yes k ↦
          let e : i ≡ 256 + (i - 256) = omega arith in
          let size = sum_size 1000000 8 (drop 8 weights) (i - 256) (omega arith) (drop_small 1000000 8 weights small) in
          let p : nat_abs (get_or sums (256 + (i - 256)) (pos 0)) ≤ 8000000 = rw (t.high (i - 256) (omega arith)) (omega (arith, size)) in
          subst (λ (n : ℕ). nat_abs (get_or sums n (pos 0)) ≤ 8000000) (sym e) p
      | no k ↦ rw (get_or-eq_default sums (pos 0) {n = i} (omega (arith, t.long))) (omega arith)
    ]
  ]

  -- the sum on a setting of the first feeds
  pub sum_from_lem : (count setting : ℕ) → count ≤ 16 → setting < 2 ^ count → sum_from sums setting ≡ sum_at (take count weights) setting
  unfolding sum_from
  sum_from_lem count setting few on =
      let inside = setting_low count setting few on in
      rw (t.low (setting % 256) (omega arith), t.high (setting / 256) (omega arith), sum_take count weights setting on) (sym (sum_at_split 8 weights setting))

-- ---- as the machine holds them

-- no sum of 16 weights leaves 32 bits: what is read back is the sum
pub held : (z : ℤ) → nat_abs z ≤ 16000000 → to_z w32 (of_z w32 z) ≡ z
held z h = to_z-of_z (size_fits w32 z (omega arith))

pub place_held : (sums : List ℤ) → SizesWithin 8000000 sums → (i : ℕ) → to_z w32 (of_z w32 (get_or sums i (pos 0))) ≡ get_or sums i (pos 0)
place_held sums small i = held (get_or sums i (pos 0)) (omega (arith, small i))
