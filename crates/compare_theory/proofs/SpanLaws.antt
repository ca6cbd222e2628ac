-- The least and the greatest sum bound the sum of every assignment that extends the bits, and a single feed's share keeps its distance.
-- Assumes nothing.
use Rattle.std.specs.Prelude.{◌≡◌, refl, Bool, true, false, ◌≢◌, List, map, ltb, ℤ, pos, negsuc, nat_abs, ◌+ℤ◌, ◌-ℤ◌}
use Rattle.std.proofs.Common.{sym, ◌∙◌, add-one, lt→ltb, SFits}
use Rattle.std.proofs.Math.Path.{ap}
use Rattle.std.proofs.Math.Bool.{cond}
use Prim.Native.Nat.{ℕ, zero, suc, ◌+◌, ◌-◌, ◌*◌, ◌≤◌, ◌<◌}
use native.Mathlib.Omega.{arith}
use Rattle.std.proofs.Math.IntN.{+ℤ_assoc, +ℤ_idl, +ℤ_idr}
use Rattle.std.specs.Int.Signed.{le_z, non_neg}
use Rattle.basics.specs.Lists.{range}
use Rattle.std.specs.Int.{w32}
use Rattle.basics.specs.IntegerLaws.{hi, lo, add_law}
use Rattle.basics.specs.TestLaws.{is_true, is_false, not_below, eqb_no}
use Rattle.basics.specs.SignLaws.{from_sign}
use Rattle.basics.specs.SizeLaws.{size_add, size_fits}
use Rattle.network.specs.Threshold.{Gate, Assignment, sum, bit}
use Rattle.network.specs.Record.{feed_at, feeds_from}
use Rattle.network_equivalence.specs.Consistent.{BitsFrom}
use Rattle.compare_theory.specs.Joint.{Joint, gate_of, FitsJoint, Allows}
use Rattle.compare_theory.specs.Spans.{AtMost, least, most, total, share_at, forced, room_of, settled}

-- ---- one feed

pub share_least : (v : ℕ) (w : ℤ) (b : Bool) → Allows v b → AtMost (least v w) (cond b w (pos 0))
unfolding least hi lo
share_least zero w b h = rw (h.dark refl) (record { le = omega arith })
share_least (suc zero) w b h = rw (h.lit refl) (record { le = omega arith })
share_least (suc (suc v)) (pos n) true h = record { le = omega arith }
share_least (suc (suc v)) (pos n) false h = record { le = omega arith }
share_least (suc (suc v)) (negsuc n) true h = record { le = omega arith }
share_least (suc (suc v)) (negsuc n) false h = record { le = omega arith }

pub share_most : (v : ℕ) (w : ℤ) (b : Bool) → Allows v b → AtMost (cond b w (pos 0)) (most v w)
unfolding most hi lo
share_most zero w b h = rw (h.dark refl) (record { le = omega arith })
share_most (suc zero) w b h = rw (h.lit refl) (record { le = omega arith })
share_most (suc (suc v)) (pos n) true h = record { le = omega arith }
share_most (suc (suc v)) (pos n) false h = record { le = omega arith }
share_most (suc (suc v)) (negsuc n) true h = record { le = omega arith }
share_most (suc (suc v)) (negsuc n) false h = record { le = omega arith }

-- an open feed, by the sign of its weight
open_sign : (v : ℕ) (w x y : ℤ) (b : Bool) → le_z (pos 0) w ≡ b → cond (non_neg w) x y ≡ cond b x y
open_sign v w x y b e = ap (λ t. cond t x y) (sym (from_sign w) ∙ e)

pub least_open : (v : ℕ) (w : ℤ) (b : Bool) → v ≢ 0 → v ≢ 1 → le_z (pos 0) w ≡ b → least v w ≡ cond b (pos 0) w
unfolding least
least_open zero w b n m e = absurd (n refl)
least_open (suc zero) w b n m e = absurd (m refl)
least_open (suc (suc v)) w b n m e = open_sign v w (pos 0) w b e

pub most_open : (v : ℕ) (w : ℤ) (b : Bool) → v ≢ 0 → v ≢ 1 → le_z (pos 0) w ≡ b → most v w ≡ cond b w (pos 0)
unfolding most
most_open zero w b n m e = absurd (n refl)
most_open (suc zero) w b n m e = absurd (m refl)
most_open (suc (suc v)) w b n m e = open_sign v w w (pos 0) b e

-- a share is no larger than the weight
pub least_small : (v : ℕ) (w : ℤ) (n : ℕ) → nat_abs w ≤ n → nat_abs (least v w) ≤ n
unfolding least
least_small zero w n h = omega arith
least_small (suc zero) w n h = h
least_small (suc (suc v)) (pos k) n h = omega arith
least_small (suc (suc v)) (negsuc k) n h = h

pub most_small : (v : ℕ) (w : ℤ) (n : ℕ) → nat_abs w ≤ n → nat_abs (most v w) ≤ n
unfolding most
most_small zero w n h = omega arith
most_small (suc zero) w n h = h
most_small (suc (suc v)) (pos k) n h = h
most_small (suc (suc v)) (negsuc k) n h = omega arith

-- ---- sums of shares

-- i of the count shares from place 1 on, none larger than a million, are in the sum a
pub record Added (share : ℕ → ℤ) (count i : ℕ) (a : ℤ) : Type 0 where
  pub within : i ≤ count
  pub small : nat_abs a ≤ i * 1000000
  pub left : a +ℤ total share (1 + i) (count - i) ≡ total share 1 count

total_none : (share : ℕ → ℤ) (p n : ℕ) → n ≡ 0 → total share p n ≡ pos 0
unfolding total
total_none share p n e = rw e

total_next : (share : ℕ → ℤ) (p q n m : ℕ) → q ≡ p + 1 → n ≡ m + 1 → total share p n ≡ share p +ℤ total share q m
unfolding total
total_next share p q n m e d = simp (e, d, add-one)

pub added_none : (share : ℕ → ℤ) (count : ℕ) → Added share count 0 (pos 0)
added_none share count = record {
  within = omega arith;
  small = omega arith;
  left = rw (let d : count - 0 ≡ count = omega arith in d) (+ℤ_idl (total share 1 count));
}

module _ {share : ℕ → ℤ} {count i : ℕ} {a : ℤ} (h : Added share count i a) where
  pub added_next : i < count → nat_abs (share (1 + i)) ≤ 1000000 → Added share count (i + 1) (a +ℤ share (1 + i))
  added_next k s = record {
    within = omega arith;
    small = omega (arith, size_add a (share (1 + i)), s, h.small);
    left = +ℤ_assoc a (share (1 + i)) _
        ∙ ap (λ (z : ℤ). a +ℤ z) (sym (total_next share (1 + i) (1 + (i + 1)) (count - i) (count - (i + 1)) (omega arith) (omega arith)))
        ∙ h.left;
  }

  pub added_all : count ≤ i → a ≡ total share 1 count
  added_all k = sym (+ℤ_idr a) ∙ ap (λ (z : ℤ). a +ℤ z) (sym (total_none share (1 + i) (count - i) (omega arith))) ∙ h.left

  pub added_small : count ≤ 16 → nat_abs a ≤ 16000000
  added_small k = omega (arith, h.small, h.within)

  pub added_fits : count ≤ 16 → SFits w32 a
  added_fits k = size_fits w32 a (omega (arith, added_small k))

module _ (s m : ℕ → ℤ) where
  pub total_most : (p n : ℕ) → ((i : ℕ) → i < n → AtMost (s (p + i)) (m (p + i))) → AtMost (total s p n) (total m p n)
  unfolding total
  total_most p zero h = record { le = omega arith }
  total_most p (suc n) h =
      let here : AtMost (s p) (m p) = rw (let e : p ≡ p + 0 = omega arith in e) (h 0 (omega arith)) in
      let rest = total_most (suc p) n (λ i k. rw (let e : suc p + i ≡ p + suc i = omega arith in e) (h (suc i) (omega arith))) in
      record { le = omega (arith, here.le, rest.le, add_law (s p) (total s (suc p) n), add_law (m p) (total m (suc p) n)) }

  -- the distance at one place is at most that of the sums
  pub total_gap : (p n i : ℕ) → i < n → ((i : ℕ) → i < n → AtMost (s (p + i)) (m (p + i)))
      → AtMost (total s p n +ℤ m (p + i)) (total m p n +ℤ s (p + i))
  unfolding total
  total_gap p zero i k h = absurd (omega arith)
  total_gap p (suc n) zero k h =
      let rest = total_most (suc p) n (λ i k. rw (let e : suc p + i ≡ p + suc i = omega arith in e) (h (suc i) (omega arith))) in
      rw (let e : p + 0 ≡ p = omega arith in e) (record {
        le = omega (
          arith,
          rest.le,
          add_law (s p) (total s (suc p) n),
          add_law (m p) (total m (suc p) n),
          add_law (s p +ℤ total s (suc p) n) (m p),
          add_law (m p +ℤ total m (suc p) n) (s p),
        );
      })
  total_gap p (suc n) (suc i) k h =
      let here : AtMost (s p) (m p) = rw (let e : p ≡ p + 0 = omega arith in e) (h 0 (omega arith)) in
      let next : p + suc i ≡ suc p + i = omega arith in
      let rest = total_gap (suc p) n i (omega arith) (λ i k. rw (let e : suc p + i ≡ p + suc i = omega arith in e) (h (suc i) (omega arith))) in
      rw next (record {
        le = omega (
          arith,
          here.le,
          rest.le,
          add_law (s p) (total s (suc p) n),
          add_law (m p) (total m (suc p) n),
          add_law (total s (suc p) n) (m (suc p + i)),
          add_law (total m (suc p) n) (s (suc p + i)),
          add_law (s p +ℤ total s (suc p) n) (m (suc p + i)),
          add_law (m p +ℤ total m (suc p) n) (s (suc p + i)),
        );
      })

-- ---- the definitions at each outcome of their tests
module _ (t l m : ℤ) where
  pub forced_lit : le_z t l ≡ true → forced t l m ≡ 1
  unfolding forced
  forced_lit e = ap (λ b. cond b 1 (cond (le_z t m) 2 0)) e

  pub forced_not : le_z t l ≡ false → forced t l m ≡ cond (le_z t m) 2 0
  unfolding forced
  forced_not e = ap (λ b. cond b 1 (cond (le_z t m) 2 0)) e

  pub room_of_lit : (goal : ℕ) → goal ≡ 1 → room_of goal t l m ≡ m -ℤ t
  unfolding room_of
  room_of_lit goal e = rw e

  pub room_of_dark : (goal : ℕ) → goal ≢ 1 → room_of goal t l m ≡ (t -ℤ pos 1) -ℤ l
  unfolding room_of
  room_of_dark goal d = rw (eqb_no goal 1 d)

module _ (v : ℕ) (w : ℤ) (goal : ℕ) (r : ℤ) where
  pub settled_set : v < 2 → settled v w goal r ≡ v
  unfolding settled
  settled_set h = rw (is_true (ltb v 2) (lt→ltb v 2 h))

  pub settled_heavy : 2 ≤ v → le_z w r ≡ false → settled v w goal r ≡ goal
  unfolding settled
  settled_heavy h e = rw (is_false (ltb v 2) (not_below v 2 h)) (ap (λ b. cond b (cond (le_z (pos 0 -ℤ r) w) v (1 - goal)) goal) e)

  pub settled_light : 2 ≤ v → le_z w r ≡ true → settled v w goal r ≡ cond (le_z (pos 0 -ℤ r) w) v (1 - goal)
  unfolding settled
  settled_light h e = rw (is_false (ltb v 2) (not_below v 2 h)) (ap (λ b. cond b (cond (le_z (pos 0 -ℤ r) w) v (1 - goal)) goal) e)

-- a gate's sum is the total of its shares
pub sum_total : (ρ : Assignment) (wires : List ℕ) (weights : List ℤ) (p n : ℕ) → sum ρ (feeds_from wires weights p n) ≡ total (share_at ρ wires weights) p n
unfolding sum feeds_from feed_at range total
sum_total ρ wires weights p zero = refl
sum_total ρ wires weights p (suc n) = ap (λ z. share_at ρ wires weights p +ℤ z) (sum_total ρ wires weights (suc p) n)

-- ---- a gate's signal has its bit
bits_at : (ρ : Assignment) (gate : ℕ → Gate) (n a k i : ℕ) → BitsFrom ρ n (map (bit ρ) (map gate (range a k))) → i < k → ρ (n + i) ≡ bit ρ (gate (a + i))
unfolding range
bits_at ρ gate n a zero i h l = absurd (omega arith)
bits_at ρ gate n a (suc k) zero h l = ap ρ (omega arith) ∙ h.0 ∙ ap (λ x. bit ρ (gate x)) (omega arith)
bits_at ρ gate n a (suc k) (suc i) h l =
    ap ρ (let e : n + suc i ≡ suc n + i = omega arith in e) ∙ bits_at ρ gate (suc n) (suc a) k i h.1 (omega arith)
    ∙ ap (λ x. bit ρ (gate x)) (let e : suc a + i ≡ a + suc i = omega arith in e)

pub gate_bit : (J : Joint) (ρ : Assignment) → FitsJoint J ρ → (g : ℕ) → g < J.gates → ρ (J.inputs + g) ≡ bit ρ (gate_of J g)
gate_bit J ρ h g k = bits_at ρ (gate_of J) J.inputs 0 J.gates g h.gate_bits k ∙ ap (λ x. bit ρ (gate_of J x)) (omega arith)
