-- Internal: what the test of a setting asks of the tables of sums, the thresholds of one half, and the test with its bounds. Nothing is proved
-- here.
use Rattle.std.specs.Prelude.{Bool, cond, List, ℤ, ◌-ℤ◌}
use Rattle.std.specs.Int.Signed.{le_z}
use Rattle.basics.specs.SizeLaws.{SizesWithin}
use Rattle.fold_theory.specs.Aligned.{composed_bit}
use Rattle.fold_theory.specs.declared.Thresholds.{Thresholds}

-- no sum of 8 weights in the two tables is above eight million in size
pub record SumTables (sums_u sums_v : List ℤ) : Type 0 where
  pub u_small : SizesWithin 8000000 sums_u
  pub v_small : SizesWithin 8000000 sums_v

-- what the sums of the low half must reach where those of the high half are su and sv
unfoldable pub reduced : Thresholds → ℤ → ℤ → Thresholds
reduced t su sv = record { own = t.own -ℤ su; on = t.on -ℤ sv; off = t.off -ℤ sv; board = t.board }

-- a merged sum is at least `upper` where the composed pair is 1, and at most `lower` where it is 0
unfoldable pub clears_between : Thresholds → ℤ → ℤ → ℤ → ℤ → ℤ → Bool
clears_between t upper lower su sv sum = cond (composed_bit t su sv) (le_z upper sum) (le_z sum lower)
