-- The threshold and a margin fit.
use Rattle.std.proofs.Common.{ap₂, sym, subst, ◌∙◌, ◌<◌, ℤ, pos, ◌-ℤ◌, arith, rules, w32, SFits, to_z, of_z, to_z-of_z}
use Rattle.basics.specs.SizeLaws.{size_sub, size_fits}
use Rattle.fold_theory.specs.Aligned.{mixed_threshold}
use Rattle.fold_theory.specs.declared.Thresholds.{Thresholds}
use Rattle.pair_theory.specs.Alignments.{ThresholdsWithin, DialLimits}
use Rattle.pair_clearing.specs.ClearLaws.{mixed_threshold_small}
use Rattle.pair_clearing.proofs.unchecked.lower_threshold.Goals as goal

within : (t : Thresholds) (k l m : _) → ThresholdsWithin 10000000 t → DialLimits k l → m < 256 → SFits w32 (mixed_threshold t k l -ℤ pos m)
within t k l m h d low = size_fits w32 _ (omega (arith, mixed_threshold_small t k l h d, size_sub (mixed_threshold t k l) (pos m)))

pub overflow_sub-result : goal.overflow_sub-result
overflow_sub-result c =
    let t = c.args.thresholds in
    let t_fits : SFits w32 c.merged_threshold.result = search rules in
    let m_fits : SFits w32 c.from.result = search rules in
    let low : t.board.off < 256 = search rules in
    subst (SFits w32) (sym (ap₂ ◌-ℤ◌ (to_z-of_z t_fits ∙ c.merged_threshold.ensures) (to_z-of_z m_fits ∙ c.from.ensures)))
    (within t c.args.k c.args.l t.board.off c.requires.thresholds_within c.requires.dial_limits low)

pub returns : goal.returns
returns c =
    let t = c.args.thresholds in
    let t_fits : SFits w32 c.merged_threshold.result = search rules in
    let m_fits : SFits w32 c.from.result = search rules in
    let low : t.board.off < 256 = search rules in
    ap₂ (λ (x y : ℤ). to_z w32 (of_z w32 (x -ℤ y))) (to_z-of_z t_fits ∙ c.merged_threshold.ensures) (to_z-of_z m_fits ∙ c.from.ensures)
    ∙ to_z-of_z (within t c.args.k c.args.l t.board.off c.requires.thresholds_within c.requires.dial_limits low)
