-- The cost of a gate's weights and of all gates, one by one: what is added so far, how large it is, and what is left. Assumes nothing.
use mathlib.Core.Path.{◌≡◌, ap, ◌∙◌}
use mathlib.Core.List.{List, map}
use Prim.Native.Nat.{ℕ, ◌+◌, ◌-◌, ◌*◌, ◌≤◌, ◌<◌}
use native.Mathlib.Numerals.{add-one}
use native.Mathlib.Omega.{arith}
use lib.IntN.{ℤ, pos, nat_abs}
use lib.ListN.{length, get_or, take, drop}
use mir.Syntax.{w32}
use mir.Val.{SFits, to_z, of_z}
use mir.Facts.{to_z-of_z}
use Rattle.basics.specs.Lists.{range, tab}
use Rattle.basics.specs.SizeLaws.{fits_size}
use Rattle.network.specs.Threshold.{Gate}
use Rattle.network.specs.Record.{feed_at, feeds_from, gate_from}
use Rattle.network.specs.PlaceLaws.{length_part, feeds_part}
use Rattle.network_report.specs.Size.{weights_cost, gate_cost, cost}
use Rattle.network_report.specs.Arrays.{CostOfWeights, CostOfGate}

-- x is the size of z, a number of 32 bits
pub record SizeOf (z : ℤ) (x : ℕ) : Type 0 where
  pub is : x ≡ nat_abs z
  pub small : x ≤ 2147483648

-- the size, made from the number's bits
pub size_made : {z : ℤ} {x : ℕ} → SFits w32 z → x ≡ nat_abs (to_z w32 (of_z w32 z)) → SizeOf z x
size_made {z} {x} f e =
    let d : x ≡ nat_abs z = e ∙ ap nat_abs (to_z-of_z f) in
    record { is = d; small = omega (arith, fits_size f) }

-- ---- the weights of a gate

-- i of the weights are in the sum a
pub record WeightsAdded (ws : List ℤ) (i a : ℕ) : Type 0 where
  pub small : a ≤ i * 2147483648
  pub left : (ss : List ℕ) → a + weights_cost (feeds_from ss ws i (length ws - i)) ≡ weights_cost (feeds_from ss ws 0 (length ws))

module _ (ss : List ℕ) (ws : List ℤ) where
  weights_end : (p n : ℕ) → n ≡ 0 → weights_cost (feeds_from ss ws p n) ≡ 0
  unfolding weights_cost feeds_from range
  weights_end p n e = rw e

  weights_step : (p n m : ℕ) → n ≡ m + 1 → weights_cost (feeds_from ss ws p n) ≡ nat_abs (get_or ws p (pos 0)) + weights_cost (feeds_from ss ws (p + 1) m)
  unfolding weights_cost feeds_from range feed_at
  weights_step p n m e = simp (e, add-one)

pub weights_none : (ws : List ℤ) → WeightsAdded ws 0 0
weights_none ws = record {
  small = omega arith;
  left = λ ss. rw (let d : length ws - 0 ≡ length ws = omega arith in d)
      (let s : 0 + weights_cost (feeds_from ss ws 0 (length ws)) ≡ weights_cost (feeds_from ss ws 0 (length ws)) = omega arith in s);
}

module _ {ws : List ℤ} {i a : ℕ} (h : WeightsAdded ws i a) where
  pub weights_next : {x : ℕ} → SizeOf (get_or ws i (pos 0)) x → i < length ws → WeightsAdded ws (i + 1) (a + x)
  weights_next {x} s k = record {
    small = omega (arith, h.small, s.small);
    left = λ ss. omega (arith, s.is, h.left ss, weights_step ss ws i (length ws - i) (length ws - (i + 1)) (omega arith));
  }

  pub weights_all : i ≡ length ws → CostOfWeights ws 0 (length ws) a
  weights_all k = record {
    is = λ ss. omega (arith, h.left ss, weights_end ss ws i (length ws - i) (omega arith));
    small = omega (arith, h.small);
  }

-- ---- the gates

-- the size of the threshold and the cost of the weights, a part of the places, are the gate's cost
pub gate_made : {fs : List ℕ} {ts ws : List ℤ} {g x y : ℕ} (n k : ℕ) → SizeOf (get_or ts g (pos 0)) x → n ≡ get_or fs g 0 → n ≤ 16 → k ≡ n
    → 16 * g + n ≤ length ws → CostOfWeights (take k (drop (16 * g) ws)) 0 (length (take k (drop (16 * g) ws))) y → CostOfGate fs ts ws g (x + y)
unfolding gate_cost gate_from
gate_made {fs} {ts} {ws} {g} n k s count few same room o =
    let long = length_part ws (16 * g) n k room same in
    record {
      is = λ ss. omega (
        arith,
        s.is,
        rw (long, feeds_part ss ws (16 * g) n k same) at (o.is (take k (drop (16 * g) ss))),
        ap (λ (m : ℕ). weights_cost (feeds_from ss ws (16 * g) m)) count,
      );
      small = omega (arith, s.small, o.small);
    }

-- g of the gates are in the sum a
pub record GatesAdded (gate : ℕ → Gate) (gates g a : ℕ) : Type 0 where
  pub small : a ≤ g * (17 * 2147483648)
  pub left : a + cost (map gate (range g (gates - g))) ≡ cost (tab gates gate)

module _ (gate : ℕ → Gate) where
  cost_end : (g n : ℕ) → n ≡ 0 → cost (map gate (range g n)) ≡ 0
  unfolding cost range
  cost_end g n e = rw e

  cost_step : (g h n m : ℕ) → h ≡ g + 1 → n ≡ m + 1 → cost (map gate (range g n)) ≡ gate_cost (gate g) + cost (map gate (range h m))
  unfolding cost range
  cost_step g h n m e d = simp (e, d, add-one)

pub gates_none : (gate : ℕ → Gate) (gates : ℕ) → GatesAdded gate gates 0 0
gates_none gate gates = record {
  small = omega arith;
  left = rw (let d : gates - 0 ≡ gates = omega arith in d) (let s : 0 + cost (tab gates gate) ≡ cost (tab gates gate) = omega arith in s);
}

module _ {gate : ℕ → Gate} {gates g a : ℕ} (h : GatesAdded gate gates g a) where
  pub gates_next : {x : ℕ} → x ≡ gate_cost (gate g) → x ≤ 17 * 2147483648 → g < gates → GatesAdded gate gates (g + 1) (a + x)
  gates_next {x} e few k = record {
    small = omega (arith, h.small);
    left = omega (arith, h.left, cost_step gate g (g + 1) (gates - g) (gates - (g + 1)) (omega arith) (omega arith));
  }

  pub gates_all : gates ≤ g → a ≡ cost (tab gates gate)
  gates_all k = omega (arith, h.left, cost_end gate g (gates - g) (omega arith))
