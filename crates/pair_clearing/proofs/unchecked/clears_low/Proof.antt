-- The two sums of the low half are read from the tables. Assumes nothing.
use mathlib.Core.Path.{◌≡◌}
use Prim.Native.Nat.{ℕ}
use native.Mathlib.Omega.{arith}
use lib.IntN.{pos}
use lib.ListN.{get_or}
use mir.Syntax.{w32}
use mir.Val.{to_z, of_z}
use Rattle.gate_sums.specs.SumLaws.{place_held}
use borrow.Author.Rules.{rules}
use Rattle.pair_clearing.proofs.unchecked.clears_low.Statement.{statement}
use Rattle.pair_clearing.proofs.unchecked.clears_low.Tie as tie

-- the two sums, as the machine reads them back
module _ (c : tie.Start) where
  abbrev at : ℕ
  at = c.args.low

  u_is : to_z w32 (of_z w32 (get_or c.args.sums_u.now at (pos 0))) ≡ get_or c.args.sums_u.now at (pos 0)
  u_is = place_held c.args.sums_u.now c.requires.0.u_small at

  v_is : to_z w32 (of_z w32 (get_or c.args.sums_v.now at (pos 0))) ≡ get_or c.args.sums_v.now at (pos 0)
  v_is = place_held c.args.sums_v.now c.requires.0.v_small at

clears_requires : tie.Need-clears-requires
clears_requires c κs =
    let s = c.before.before in
    let u = s.requires.0.u_small (at s) in
    let v = s.requires.0.v_small (at s) in
    rw (u_is s, v_is s) (s.requires.1.0, record { dial = s.requires.1.1.0; x_small = omega (arith, u); y_small = omega (arith, v) })

returns : tie.Need-returns
returns c = let s = c.before.before.before in rw (u_is s, v_is s) at c.clears.ensures

pub clears_low_spec : {M : Type 1} → statement M
clears_low_spec =
    tie.close
    (tie.spec
    (λ c. search rules)
    (λ c. search rules)
    (λ c. search rules)
    (λ c. search rules)
    clears_requires
    returns)
