-- The collapse of a gate of a sound record, refusal by refusal in their order, and by the pairs of its readers. Assumes nothing.
use Rattle.std.specs.Prelude.{◌≡◌, refl, true, false, ℕ, Result, Ok, Err, MatchResult}
use Rattle.std.proofs.Common.{◌∙◌}
use Rattle.std.proofs.Math.Path.{ap}
use Rattle.std.proofs.Math.Bool.{not}
use Rattle.basics.specs.Refusals.{refused, checks}
use Rattle.network.specs.Limits.{gate_signal}
use Rattle.network.specs.Record.{net_of, sound_record}
use Rattle.network.specs.RecordLaws.{gate_signal_lem}
use Rattle.network.specs.Places.{SoundGate}
use Rattle.network.specs.declared.Network.{Network}
use Rattle.fold_theory.specs.Collapse.{collapsed, collapse}
use Rattle.fold_readers.specs.Readers.{occurs}
use Rattle.refusals.specs.Numbers.{number_of}
use Rattle.refusals.specs.declared.Refusal.{Refusal}
use Rattle.refusals.specs.declared.Refusal.TheVariants.{NoSuchGate, StillRead}
use Rattle.fold_reader_pairs.specs.declared.Pairs.{Pairs}
use Rattle.fold_reader_pairs.specs.declared.FirstRefuser.{FirstRefuser}
use Rattle.fold_reader_pairs.specs.Collapsing.{ReaderPairs, PairsTried}
use Rattle.fold_reader_pairs.specs.CollapsingLaws.{pairs_all, pairs_first, collapsed_pairs, collapsed_first}
use Rattle.fold_readers.specs.RecordLaws.{net_test, output_test, sound_gate}

module _ (r : Network) (s : ℕ) (whole : sound_record r ≡ true) where
  -- a refusal
  tried_refused : {m : Result Pairs Refusal} {e : Refusal} → m ≡ Err e → collapse (net_of r) s ≡ refused (number_of e) → PairsTried r s m
  tried_refused {m} {e} q h = record {
    refuses = λ d p. h ∙ ap (λ (x : Refusal). refused (number_of x)) (let same : e ≡ d = cc in same);
    accepts = λ t p. let no : ⊥ = cc in absurd no;
    folds = λ t p. let no : ⊥ = cc in absurd no;
  }

  -- ---- 11
  collapse_stranger : gate_signal r.inputs r.gates s ≡ false → collapse (net_of r) s ≡ refused 11
  unfolding checks collapse
  collapse_stranger e = rw (net_test r s whole, gate_signal_lem r s ∙ e)

  pub tried_stranger : gate_signal r.inputs r.gates s ≡ false → PairsTried r s (Err NoSuchGate)
  unfolding number_of
  tried_stranger e = tried_refused refl (collapse_stranger e)

  module _ (gate : gate_signal r.inputs r.gates s ≡ true) where
    own : SoundGate r s
    own = sound_gate r s whole gate

    -- ---- 17
    pub collapse_output : occurs r.drivers 0 r.outputs s ≡ true → collapse (net_of r) s ≡ refused 17
    unfolding checks collapse
    collapse_output e = rw (net_test r s whole, gate_signal_lem r s ∙ gate, output_test r s whole ∙ ap not e)

    pub tried_output : occurs r.drivers 0 r.outputs s ≡ true → PairsTried r s (Err StillRead)
    unfolding number_of
    tried_output e = tried_refused refl (collapse_output e)

    -- ---- the readers
    module _ (inner : occurs r.drivers 0 r.outputs s ≡ false) where
      pub collapse_collapsed : collapse (net_of r) s ≡ collapsed (net_of r) s
      unfolding checks collapse
      collapse_collapsed = rw (net_test r s whole, gate_signal_lem r s ∙ gate, output_test r s whole ∙ ap not inner)

      -- by the pairs of all readers
      pub tried_pairs : (m : Result Pairs FirstRefuser) {m' : Result Pairs Refusal} → ReaderPairs r s m
          → MatchResult m (λ p. m' ≡ Ok p) (λ x. m' ≡ Err x.refuser.refusal) → PairsTried r s m'
      tried_pairs (Ok p) {m'} h q = record {
        refuses = λ d e. let no : ⊥ = cc in absurd no;
        accepts = λ t e. let same : p ≡ t = cc in collapse_collapsed ∙ collapsed_pairs r s own t (pairs_all _ _ _ h t (ap Ok same));
        folds = λ t e. let same : p ≡ t = cc in record { own = own; pairs = pairs_all _ _ _ h t (ap Ok same) };
      }
      tried_pairs (Err x) h q =
          tried_refused q (collapse_collapsed ∙ collapsed_first r s own _ (pairs_first _ _ _ _ _ x.refuser (h.refuses x refl) (h.first x refl)))
