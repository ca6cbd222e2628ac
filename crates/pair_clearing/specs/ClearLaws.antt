-- Laws of a setting of two gates: the size of the merged threshold, and that what the tables of sums say of a setting, whole or by its two
-- halves, is the definition's answer. Assumes nothing.
use Rattle.std.specs.Prelude.{◌≡◌, Bool, List, ℕ, ◌+◌, ◌*◌, ◌^◌, ◌≤◌, ◌<◌, ℤ, pos, nat_abs, ◌*ℤ◌, get_or}
use Rattle.std.proofs.Math.Path.{sym}
use Rattle.std.proofs.Common.{ap₂, ◌∙◌, mul-le-mul, arith}
use Rattle.basics.specs.SizeLaws.{size_add, size_mul}
use Rattle.fold_theory.specs.Aligned.{mixed_threshold, clears, clears_on}
use Rattle.fold_theory.specs.declared.Thresholds.{Thresholds}
use Rattle.pair_theory.specs.declared.Alignment.{Alignment}
use Rattle.pair_theory.specs.Alignments.{aligned_in, ThresholdsWithin, Searchable, DialLimits}
use Rattle.gate_sums.specs.Tables.{Sums, sum_from}
use Rattle.gate_sums.specs.SumLaws.{sums_small, sum_from_lem}
use Rattle.pair_clearing.specs.Clearing.{SumTables, reduced}
use Rattle.pair_clearing.specs.HalfLaws.{SettingHalves, sum_halves, clears_reduced}

-- the merged threshold's size
pub mixed_threshold_small : (t : Thresholds) (k l : ℕ) → ThresholdsWithin 10000000 t → DialLimits k l → nat_abs (mixed_threshold t k l) ≤ 640000000
unfolding mixed_threshold
mixed_threshold_small t k l n d =
    let x : nat_abs (pos k *ℤ t.own) ≤ 320000000 = rw size_mul (mul-le-mul d.k_high n.own_small) in
    let y : nat_abs (pos l *ℤ t.on) ≤ 320000000 = rw size_mul (mul-le-mul d.l_high n.on_small) in
    omega (arith, size_add (pos k *ℤ t.own) (pos l *ℤ t.on))

module _ {a : Alignment} {tu tv : List ℤ} (f : Searchable a) (u : Sums a.us 256 tu) (v : Sums a.vs 256 tv) where
  -- the tables
  pub tables_small : SumTables tu tv
  tables_small = record { u_small = sums_small u f.fair.us_small; v_small = sums_small v f.fair.vs_small }

  -- a whole setting
  pub tested : (k l s : ℕ) {b : Bool} → s < 2 ^ a.count → b ≡ clears a.thresholds k l (sum_from tu s) (sum_from tv s) → b ≡ clears_on (aligned_in a) k l s
  unfolding clears_on aligned_in
  tested k l s h t = t ∙ sym (rw (sum_from_lem u f.fair.us_small a.count s f.few h, sum_from_lem v f.fair.vs_small a.count s f.few h))

  -- its two halves
  pub tested_low : (k l lows high low : ℕ) {b : Bool} → SettingHalves a.count lows high low
      → b ≡ clears (reduced a.thresholds (get_or tu (256 + high) (pos 0)) (get_or tv (256 + high) (pos 0))) k l (get_or tu low (pos 0)) (get_or tv low (pos 0))
      → b ≡ clears_on (aligned_in a) k l (high * lows + low)
  tested_low k l lows high low h t =
      tested k l (high * lows + low) h.inside
      (t
      ∙ clears_reduced a.thresholds k l (get_or tu (256 + high) (pos 0)) (get_or tv (256 + high) (pos 0)) (get_or tu low (pos 0)) (get_or tv low (pos 0))
      ∙ sym (ap₂ (clears a.thresholds k l) (sum_halves tu a.count lows high low h) (sum_halves tv a.count lows high low h)))
