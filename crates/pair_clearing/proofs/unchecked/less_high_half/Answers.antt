-- A threshold less a sum of 8 weights fits.
use Rattle.std.proofs.Common.{◌≡◌, ap₂, ◌∙◌, ◌≤◌, ℤ, nat_abs, ◌-ℤ◌, arith, rules, w32, SFits, to_z, of_z, to_z-of_z}
use Rattle.basics.specs.SizeLaws.{size_sub, size_fits}
use Rattle.pair_clearing.specs.Clearing.{reduced}
use Rattle.pair_clearing.proofs.unchecked.less_high_half.Goals as goal

less : (t s : ℤ) → nat_abs t ≤ 2000000 → nat_abs s ≤ 8000000 → SFits w32 t → SFits w32 s
    → to_z w32 (of_z w32 (to_z w32 (of_z w32 t) -ℤ to_z w32 (of_z w32 s))) ≡ t -ℤ s
less t s h k f g = ap₂ (λ (x y : ℤ). to_z w32 (of_z w32 (x -ℤ y))) (to_z-of_z f) (to_z-of_z g) ∙ to_z-of_z (size_fits w32 (t -ℤ s) (omega (arith, size_sub t s)))

pub returns : goal.returns
unfolding reduced
returns c =
    let t = c.args.thresholds in
    let r = c.requires.thresholds_within in
    let own = less t.own c.args.su r.own_small c.requires.su_bound (search rules) c.ranges.su in
    let on = less t.on c.args.sv r.on_small c.requires.sv_bound (search rules) c.ranges.sv in
    let off = less t.off c.args.sv r.off_small c.requires.sv_bound (search rules) c.ranges.sv in
    λ j. record { own = own j; on = on j; off = off j; board = t.board }
