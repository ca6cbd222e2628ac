-- What a call gives and leaves, as an answer. Assumes nothing.
use Rattle.std.specs.Prelude.{◌≡◌, ℕ, Result, Ok, Err}
use Rattle.std.proofs.Common.{ap, ◌∙◌}
use Rattle.refusals.specs.Numbers.{number_of}
use Rattle.refusals.specs.declared.Refusal.{Refusal}
use Rattle.network.specs.declared.Network.{Network}
use Rattle.call_theory.specs.declared.Figures.{Figures}
use Rattle.journal.specs.Parts.{counted, left_by, refusing, answered}
use Rattle.journal.specs.declared.Journal.{Journal}
use Rattle.journal.specs.declared.Record.{Record}

module _ {m : Result Figures Refusal} {r : Record} where
  -- a refusal
  pub left_refused : {e : Refusal} → m ≡ Err e → left_by m r ≡ refusing (number_of e) r
  left_refused h = ap (λ (x : Result Figures Refusal). left_by x r) h

  -- an accepted call leaving a network and a journal
  pub left_answered : {collapses : ℕ} {n : Network} {j : Journal} → m ≡ Ok (counted collapses) → r.network ≡ n → r.journal ≡ j
      → left_by m r ≡ answered n j collapses
  left_answered {collapses} h en ej = ap (λ (x : Result Figures Refusal). left_by x r) h ∙ (λ x. answered (en x) (ej x) collapses)
