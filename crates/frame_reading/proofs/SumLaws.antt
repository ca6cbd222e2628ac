-- The sum of a gate's feeds, feed by feed: what is added so far, how large it is, and what is left. Assumes nothing.
use mathlib.Core.Path.{◌≡◌, sym, ap, ◌∙◌}
use mathlib.Core.Bool.{Bool, true, false, cond}
use mathlib.Core.List.{List}
use Prim.Native.Nat.{ℕ, ◌+◌, ◌-◌, ◌*◌, ◌≤◌, ◌<◌}
use native.Mathlib.Nat.{add-mul, one-mul}
use native.Mathlib.Numerals.{add-one}
use native.Mathlib.Omega.{arith}
use lib.IntN.{ℤ, pos, nat_abs, ◌+ℤ◌, ◌*ℤ◌, +ℤ_assoc, +ℤ_idl, +ℤ_idr, one, *ℤ_comm, *ℤ-one, zero-*ℤ}
use lib.ListN.{get_or}
use mir.Syntax.{w32, w64}
use mir.Val.{SFits, bool_byte, to_z, of_z}
use mir.Facts.{to_z-of_z}
use Rattle.basics.specs.Lists.{range}
use Rattle.basics.specs.SizeLaws.{size_add, size_fits, fits_size}
use Rattle.network.specs.Threshold.{Assignment, sum}
use Rattle.network.specs.Record.{feed_at, feeds_from}
use Rattle.frame_reading.specs.Evaluation.{bits_in}

bit_times : (b : Bool) (w : ℤ) → to_z w64 (bool_byte b) *ℤ w ≡ cond b w (pos 0)
unfolding one
bit_times true w = *ℤ_comm (pos 1) w ∙ *ℤ-one w
bit_times false w = zero-*ℤ w

-- what the feed at a place adds
abbrev pub share : Assignment → List ℕ → List ℤ → ℕ → ℤ
share ρ ss ws p = cond (ρ (get_or ss p 0)) (get_or ws p (pos 0)) (pos 0)

-- the bit at signal s times the weight z, as the code adds a feed
pub share_is : (bs : List Bool) (ss : List ℕ) (ws : List ℤ) (p s : ℕ) (z : ℤ) → s ≡ get_or ss p 0 → z ≡ get_or ws p (pos 0)
    → to_z w64 (bool_byte (get_or bs s false)) *ℤ z ≡ share (bits_in bs) ss ws p
share_is bs ss ws p s z e d = rw (e, d) (bit_times (get_or bs (get_or ss p 0) false) (get_or ws p (pos 0)))

-- i of the count feeds from place base on, whose weights are at most size, are in the sum a
pub record Added (size : ℕ) (ρ : Assignment) (ss : List ℕ) (ws : List ℤ) (base count i : ℕ) (a : ℤ) : Type 0 where
  pub within : i ≤ count
  pub small : nat_abs a ≤ i * size
  pub left : a +ℤ sum ρ (feeds_from ss ws (base + i) (count - i)) ≡ sum ρ (feeds_from ss ws base count)

module _ (ρ : Assignment) (ss : List ℕ) (ws : List ℤ) where
  sum_none : (p n : ℕ) → n ≡ 0 → sum ρ (feeds_from ss ws p n) ≡ pos 0
  unfolding sum feeds_from range
  sum_none p n e = rw e

  -- the sum from place p on is the first feed's share and the sum from q, the next place, on
  sum_next : (p q n m : ℕ) → q ≡ p + 1 → n ≡ m + 1 → sum ρ (feeds_from ss ws p n) ≡ share ρ ss ws p +ℤ sum ρ (feeds_from ss ws q m)
  unfolding sum feeds_from range feed_at
  sum_next p q n m e d = simp (e, d, add-one)

  share_small : (size p : ℕ) → nat_abs (get_or ws p (pos 0)) ≤ size → nat_abs (share ρ ss ws p) ≤ size
  share_small size p h = elim (ρ (get_or ss p 0)) as (λ b. nat_abs (cond b (get_or ws p (pos 0)) (pos 0)) ≤ size) [ true ↦ h | false ↦ omega arith ]

  pub share_fits : (p : ℕ) → nat_abs (get_or ws p (pos 0)) ≤ 2147483648 → SFits w64 (share ρ ss ws p)
  share_fits p h = size_fits w64 (share ρ ss ws p) (omega (arith, share_small 2147483648 p h))

  pub added_none : (size base count : ℕ) → Added size ρ ss ws base count 0 (pos 0)
  added_none size base count = record {
    within = omega arith;
    small = omega arith;
    left = rw (let e : base + 0 ≡ base = omega arith in e, let d : count - 0 ≡ count = omega arith in d) (+ℤ_idl (sum ρ (feeds_from ss ws base count)));
  }

module _ {size : ℕ} {ρ : Assignment} {ss : List ℕ} {ws : List ℤ} {base count i : ℕ} {a : ℤ} (h : Added size ρ ss ws base count i a) where
  abbrev next : ℤ
  next = a +ℤ share ρ ss ws (base + i)

  pub added_next : i < count → nat_abs (get_or ws (base + i) (pos 0)) ≤ size → Added size ρ ss ws base count (i + 1) next
  added_next k s = record {
    within = omega arith;
    small =
        let one_more : (i + 1) * size ≡ i * size + size = add-mul i 1 size ∙ ap (λ (n : ℕ). i * size + n) (one-mul size) in
        omega (arith, size_add a (share ρ ss ws (base + i)), share_small ρ ss ws size (base + i) s, h.small);
    left = +ℤ_assoc a (share ρ ss ws (base + i)) _
        ∙ ap (λ (z : ℤ). a +ℤ z) (sym (sum_next ρ ss ws (base + i) (base + (i + 1)) (count - i) (count - (i + 1)) (omega arith) (omega arith)))
        ∙ h.left;
  }

  pub added_all : count ≤ i → a ≡ sum ρ (feeds_from ss ws base count)
  added_all k = sym (+ℤ_idr a) ∙ ap (λ (z : ℤ). a +ℤ z) (sym (sum_none ρ ss ws (base + i) (count - i) (omega arith))) ∙ h.left

-- a sum of up to 16 weights of 32 bits fits 64
pub added_fits : {ρ : Assignment} {ss : List ℕ} {ws : List ℤ} {base count i : ℕ} {a : ℤ} → Added 2147483648 ρ ss ws base count i a → count ≤ 16
    → SFits w64 a
added_fits {ρ} {ss} {ws} {base} {count} {i} {a} h k = size_fits w64 a (omega (arith, h.small, h.within))

-- a feed more, as the code adds it: a bit as a number times a weight, in 64 bits
pub added_more : {ρ : Assignment} {ss : List ℕ} {ws : List ℤ} {base count i j : ℕ} {a x w : ℤ} {b : Bool}
    → Added 2147483648 ρ ss ws base count i a → count ≤ 16 → i < count → j ≡ i + 1
    → x ≡ pos (bool_byte b) → b ≡ ρ (get_or ss (base + i) 0) → w ≡ get_or ws (base + i) (pos 0) → SFits w32 w
    → Added 2147483648 ρ ss ws base count j (to_z w64 (of_z w64 (a +ℤ to_z w64 (of_z w64 (to_z w64 (of_z w64 x) *ℤ to_z w64 (of_z w64 (to_z w32 (of_z w32 w))))))))
added_more {ρ} {ss} {ws} {base} {count} {i} {j} {a} {x} {w} {b} h few k e p q r f =
    let size = fits_size f in
    let small : nat_abs (get_or ws (base + i) (pos 0)) ≤ 2147483648 = rw r at size in
    let next = added_next h k small in
    rw (p, to_z-of_z f, to_z-of_z (size_fits w64 w (omega arith)), bit_times b w, q, r, to_z-of_z (share_fits ρ ss ws (base + i) small), to_z-of_z (added_fits next few), e)
    next
