-- 1 less a threshold on the scale fits, and each number is as the machine reads it back.
use Rattle.std.proofs.Common.{◌≡◌, ◌∙◌, ap, ℤ, pos, ◌-ℤ◌, w32, SFits, to_z, of_z, to_z-of_z, arith, rules}
use Rattle.basics.specs.SizeLaws.{size_sub, size_fits}
use Rattle.pair_theory.specs.Alignments.{complement_in}
use Rattle.pair_complement.proofs.unchecked.complemented.Goals as goal

pub returns : goal.returns
unfolding complement_in
returns c =
    let t = c.args.a.thresholds in
    let own_is : to_z w32 (of_z w32 t.own) ≡ t.own = search rules in
    let on_is : to_z w32 (of_z w32 t.on) ≡ t.on = search rules in
    let off_is : to_z w32 (of_z w32 t.off) ≡ t.off = search rules in
    let fits : SFits w32 (pos 1 -ℤ t.own) = size_fits w32 _ (omega (arith, size_sub (pos 1) t.own, c.requires.near.own_small)) in
    let other = ap (λ (z : ℤ). to_z w32 (of_z w32 (pos 1 -ℤ z))) own_is ∙ to_z-of_z fits in
    λ j. record {
      count = c.args.a.count;
      signals = c.args.a.signals;
      us = c.negated.ensures j;
      vs = c.args.a.vs;
      thresholds = record { own = other j; on = off_is j; off = on_is j; board = t.board };
    }
