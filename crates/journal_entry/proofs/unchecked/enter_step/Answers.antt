-- Each array has the step's values before the others. Assumes nothing.
use Rattle.std.proofs.Common.{w32, rules, ◌≡◌, refl, ap, ◌∙◌, ◌∷◌, ◌++◌, take, []}
use Rattle.std.specs.Prelude.{ℤ}
use mir.Val.{to_z, of_z}
use Rattle.basics.specs.SizeLaws.{read_back}
use Rattle.journal.specs.Journals.{with_step}
use Rattle.journal_entry.proofs.EnteringLaws.{as_many}
use Rattle.journal_entry.proofs.unchecked.enter_step.Goals as goal

pub returns : goal.returns
unfolding with_step
returns c =
    let a = c.args in
    let j = a.journal.now in
    let kinds_are : c.put_before.new.places ≡ take 64 (a.kind ∷ j.kinds) =
    as_many 64 (a.kind ∷ []) j.kinds (search rules) c.put_before.ensures in
    let signals_are : c.put_before-2.new.places ≡ take 64 (a.signal ∷ j.signals) =
    as_many 64 (a.signal ∷ []) j.signals (search rules) c.put_before-2.ensures in
    let fanins_are : c.put_before-3.new.places ≡ take 64 (a.gate.fanin ∷ j.fanins) =
    as_many 64 (a.gate.fanin ∷ []) j.fanins (search rules) c.put_before-3.ensures in
    let thresholds_are : c.put_before-4.new.places ≡ take 64 (a.gate.threshold ∷ j.thresholds) =
    as_many 64 (to_z w32 (of_z w32 a.gate.threshold) ∷ []) j.thresholds (search rules) c.put_before-4.ensures
    ∙ ap (λ (z : ℤ). take 64 (z ∷ j.thresholds)) (read_back w32 {r = a.gate.threshold} (search rules) refl) in
    let feeds_are : c.put_before-5.new.places ≡ take 1024 (a.gate.signals ++ j.feeds) =
    as_many 1024 a.gate.signals j.feeds (search rules) c.put_before-5.ensures in
    let weights_are : c.put_before-6.new.places ≡ take 1024 (a.gate.weights ++ j.weights) =
    as_many 1024 a.gate.weights j.weights (search rules) c.put_before-6.ensures in
    λ x. record {
      count = c.one_more-journal.ensures x;
      kinds = kinds_are x;
      signals = signals_are x;
      fanins = fanins_are x;
      thresholds = thresholds_are x;
      feeds = feeds_are x;
      weights = weights_are x;
    }
