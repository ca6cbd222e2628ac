-- The thresholds are read back as they are. Assumes nothing.
use Rattle.std.proofs.Common.{◌≡◌, w32, to_z, of_z, rules}
use Rattle.fold_theory.specs.Aligned.{without_margins}
use Rattle.pair_agreement.specs.Agreement.{plainly}
use Rattle.pair_agreement.proofs.unchecked.without_margins.Goals as goal

pub returns : goal.returns
unfolding plainly without_margins
returns c =
    let a = c.args.a in
    let own_is : to_z w32 (of_z w32 a.thresholds.own) ≡ a.thresholds.own = search rules in
    let on_is : to_z w32 (of_z w32 a.thresholds.on) ≡ a.thresholds.on = search rules in
    let off_is : to_z w32 (of_z w32 a.thresholds.off) ≡ a.thresholds.off = search rules in
    λ j. record {
      count = a.count;
      signals = a.signals;
      us = a.us;
      vs = a.vs;
      thresholds = record { own = own_is j; on = on_is j; off = off_is j; board = record { version = 1; on = 0; off = 1 } };
    }
