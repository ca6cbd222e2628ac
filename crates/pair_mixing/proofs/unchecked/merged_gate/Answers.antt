-- Of the first i distinct feeds those with a sum other than 0 are listed.
use Rattle.std.proofs.Common.{eq-eqb, ne_eqb, ◌≡◌, sym, ◌∙◌, pos, get_or, arith, rules, w32, SFits, to_z, of_z, to_z-of_z}
use Rattle.basics.specs.SizeLaws.{size_fits}
use Rattle.network.specs.Limits.{is_zero}
use Rattle.fold_theory.specs.Aligned.{mixed_threshold, mixed_weight}
use Rattle.pair_theory.specs.Alignments.{aligned_in}
use Rattle.basics.specs.ZeroLaws.{zero_held}
use Rattle.pair_mixing.proofs.Combine.{mix_at, weight_mixable, combined_none, combined_few, combined_drop, combined_store, combined_all}
use Rattle.pair_mixing.proofs.unchecked.merged_gate.Goals as goal
use Rattle.pair_mixing.proofs.unchecked.merged_gate.Goals.{then-w-ne0, else-w-ne0}

pub loop-i-init : goal.loop-i-init
loop-i-init c = combined_none c.args.a c.args.k c.args.l

pub bounds-signals-fanin : goal.bounds-signals-fanin
bounds-signals-fanin c = omega (arith, combined_few c.args.a c.args.k c.args.l _ _ _ _ c.loop-i.invariant, c.requires.searchable.few)

pub offset_bounds-weights-fanin : goal.offset_bounds-weights-fanin
offset_bounds-weights-fanin c =
    record { fits = omega (arith, combined_few c.args.a c.args.k c.args.l _ _ _ _ c.loop-i.invariant, c.requires.searchable.few) }

pub bounds-weights-fanin : goal.bounds-weights-fanin
bounds-weights-fanin c = omega (arith, combined_few c.args.a c.args.k c.args.l _ _ _ _ c.loop-i.invariant, c.requires.searchable.few)

pub overflow_add-fanin : goal.overflow_add-fanin
overflow_add-fanin c =
    record { fits = omega (arith, combined_few c.args.a c.args.k c.args.l _ _ _ _ c.loop-i.invariant, c.requires.searchable.few) }

pub loop-i-preserved : goal.loop-i-preserved
unfolding is_zero
loop-i-preserved c =
    let a = c.args.a in
    let l = c.loop-i in
    let m = weight_mixable a c.args.k c.args.l c.requires l.i in
    let x = get_or a.us l.i (pos 0) in
    let y = get_or a.vs l.i (pos 0) in
    let x_fits : SFits w32 x = size_fits w32 x (omega (arith, m.x_small)) in
    let y_fits : SFits w32 y = size_fits w32 y (omega (arith, m.y_small)) in
    let w_fits : SFits w32 c.mixed-w.result = search rules in
    let mix = rw (to_z-of_z x_fits, to_z-of_z y_fits) at c.mixed-w.ensures in
    let w_is : to_z w32 (of_z w32 c.mixed-w.result) ≡ mixed_weight (aligned_in a) c.args.k c.args.l l.i
    = to_z-of_z w_fits ∙ mix ∙ sym (mix_at a c.args.k c.args.l l.i c.loop-i-test.true) in
    elim c.if-w-ne0.branch [
      | then-w-ne0 w ↦ rw (w.fanin-is, w.signals-is, w.weights-is)
          (combined_store a c.args.k c.args.l l.i l.fanin l.signals l.weights l.invariant _ w_is (rw (to_z-of_z w_fits) (sym (zero_held c.mixed-w.result w_fits) ∙ ne_eqb _ 0 w.if-w-ne0.true)))
      | else-w-ne0 w ↦ rw (w.fanin-is, w.signals-is, w.weights-is)
          (combined_drop a c.args.k c.args.l l.i l.fanin l.signals l.weights l.invariant _ w_is (rw (to_z-of_z w_fits) (sym (zero_held c.mixed-w.result w_fits) ∙ eq-eqb _ 0 w.if-w-ne0.false)))
    ]

pub overflow_cast-result : goal.overflow_cast-result
overflow_cast-result c =
    record { fits = omega (arith, combined_few c.args.a c.args.k c.args.l _ _ _ _ c.loop-i.invariant, c.requires.searchable.few) }

pub returns : goal.returns
unfolding mixed_threshold
returns c =
    let a = c.args.a in
    let l = c.loop-i in
    let own_fits : SFits w32 a.thresholds.own = search rules in
    let on_fits : SFits w32 a.thresholds.on = search rules in
    let t_fits : SFits w32 c.mixed-threshold.result = search rules in
    let end : l.i ≡ a.count = omega arith in
    let t = to_z-of_z t_fits ∙ (rw (to_z-of_z own_fits, to_z-of_z on_fits) at c.mixed-threshold.ensures) in
    (λ j. record { fanin = l.fanin; threshold = t j; signals = l.signals; weights = l.weights })
    ∙ combined_all a c.args.k c.args.l l.fanin l.signals l.weights (rw end at l.invariant)
