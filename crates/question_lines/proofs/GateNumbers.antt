-- The numbers of a gate's two lines as the code makes them, in 32 bits. Assumes nothing.
use mathlib.Core.Path.{◌≡◌}
use Prim.Native.Nat.{◌≤◌}
use native.Mathlib.Omega.{arith}
use lib.IntN.{ℤ, pos, nat_abs, ◌+ℤ◌, ◌-ℤ◌}
use mir.Syntax.{w32}
use mir.Facts.{to_z-of_z}
use mir.Val.{SFits, to_z, of_z}
use Rattle.basics.specs.SizeLaws.{size_add, size_sub, size_fits}
use Rattle.network.specs.Record.{gate_in}
use Rattle.network.specs.declared.GateRecord.{GateRecord}
use Rattle.question_theory.specs.Question.{most, least}
use Rattle.question_theory.proofs.SizeLaws.{most_size, least_size}
use Rattle.question_terms.specs.Terms.{InLimits}
use Rattle.network.specs.PlaceLaws.{length_gate_in}
use Rattle.question_terms.specs.SumLaws.{small_back}

module _ (gate : GateRecord) (s : InLimits gate) where
  -- T, M and m
  abbrev T : ℤ
  T = gate.threshold

  abbrev M : ℤ
  M = most (gate_in gate).feeds

  abbrev m : ℤ
  m = least (gate_in gate).feeds

  back : to_z w32 (of_z w32 T) ≡ T
  back = small_back T s.threshold_small

  -- ---- 1 - T
  side_fits : SFits w32 (pos 1 -ℤ T)
  side_fits = size_fits w32 (pos 1 -ℤ T) (omega (arith, s.threshold_small, size_sub (pos 1) T))

  pub upper_side_fits : SFits w32 (pos 1 -ℤ to_z w32 (of_z w32 T))
  upper_side_fits = rw back side_fits

  pub upper_side : to_z w32 (of_z w32 (pos 1 -ℤ to_z w32 (of_z w32 T))) ≡ pos 1 -ℤ T
  upper_side = rw back (to_z-of_z side_fits)

  -- ---- M - T + 1
  module _ (z : ℤ) (e : to_z w32 (of_z w32 z) ≡ M) where
    most_small : nat_abs (M -ℤ T) ≤ 17000000
    most_small = omega (arith, s.threshold_small, s.few, length_gate_in gate, most_size (gate_in gate).feeds s.sizes, size_sub M T)

    less_fits : SFits w32 (M -ℤ T)
    less_fits = size_fits w32 (M -ℤ T) (omega (arith, most_small))

    more_fits : SFits w32 (M -ℤ T +ℤ pos 1)
    more_fits = size_fits w32 (M -ℤ T +ℤ pos 1) (omega (arith, most_small, size_add (M -ℤ T) (pos 1)))

    pub upper_less_fits : SFits w32 (to_z w32 (of_z w32 z) -ℤ to_z w32 (of_z w32 T))
    upper_less_fits = rw (e, back) less_fits

    pub upper_more_fits : SFits w32 (to_z w32 (of_z w32 (to_z w32 (of_z w32 z) -ℤ to_z w32 (of_z w32 T))) +ℤ pos 1)
    upper_more_fits = rw (e, back, to_z-of_z less_fits) more_fits

    pub upper_own : to_z w32 (of_z w32 (to_z w32 (of_z w32 (to_z w32 (of_z w32 z) -ℤ to_z w32 (of_z w32 T))) +ℤ pos 1)) ≡ M -ℤ T +ℤ pos 1
    upper_own = rw (e, back, to_z-of_z less_fits) (to_z-of_z more_fits)

  -- ---- m - T
  module _ (z : ℤ) (e : to_z w32 (of_z w32 z) ≡ m) where
    own_fits : SFits w32 (m -ℤ T)
    own_fits = size_fits w32 (m -ℤ T) (omega (arith, s.threshold_small, s.few, length_gate_in gate, least_size (gate_in gate).feeds s.sizes, size_sub m T))

    pub lower_own_fits : SFits w32 (to_z w32 (of_z w32 z) -ℤ to_z w32 (of_z w32 T))
    lower_own_fits = rw (e, back) own_fits

    pub lower_own : to_z w32 (of_z w32 (to_z w32 (of_z w32 z) -ℤ to_z w32 (of_z w32 T))) ≡ m -ℤ T
    lower_own = rw (e, back) (to_z-of_z own_fits)
