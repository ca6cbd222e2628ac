-- `agreement::unchecked::low_thresholds` meets its contract: the two sums of the high half are read from the tables. Assumes nothing.
use mathlib.Core.Path.{◌≡◌}
use Prim.Native.Nat.{ℕ, ◌+◌}
use lib.IntN.{pos}
use lib.ListN.{get_or}
use mir.Syntax.{w32}
use mir.Val.{to_z, of_z}
use Rattle.gate_sums.specs.SumLaws.{place_held}
use borrow.Author.Rules.{rules}
use Rattle.pair_clearing.proofs.unchecked.low_thresholds.Statement.{statement}
use Rattle.pair_clearing.proofs.unchecked.low_thresholds.Tie as tie

-- the two sums, as the machine reads them back
module _ (c : tie.Start) where
  abbrev at : ℕ
  at = 256 + c.args.high

  u_is : to_z w32 (of_z w32 (get_or c.args.sums_u.now at (pos 0))) ≡ get_or c.args.sums_u.now at (pos 0)
  u_is = place_held c.args.sums_u.now c.requires.0.u_small at

  v_is : to_z w32 (of_z w32 (get_or c.args.sums_v.now at (pos 0))) ≡ get_or c.args.sums_v.now at (pos 0)
  v_is = place_held c.args.sums_v.now c.requires.0.v_small at

less_high_half_requires : tie.Need-less_high_half-requires
less_high_half_requires c κs = let s = c.before.before in rw (u_is s, v_is s) (s.requires.1.0, (s.requires.0.u_small (at s), s.requires.0.v_small (at s)))

returns : tie.Need-returns
returns c = let s = c.before.before.before in rw (u_is s, v_is s) at c.less_high_half.ensures

pub low_thresholds_spec : {M : Type 1} → statement M
low_thresholds_spec =
    tie.close
    (tie.spec
    (λ c. search rules)
    (λ c. search rules)
    (λ c. search rules)
    (λ c. search rules)
    (λ c. search rules)
    (λ c. search rules)
    less_high_half_requires
    returns)
