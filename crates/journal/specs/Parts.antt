-- Internal: what a call of a list on a record that is lent answers and leaves. Nothing is proved here.
use Rattle.std.specs.Prelude.{◌≡◌, true, ℕ, Result, Ok, Err}
use Rattle.refusals.specs.Numbers.{number_of}
use Rattle.refusals.specs.declared.Refusal.{Refusal}
use Rattle.network.specs.RecordLaws.{ArrayLengths}
use Rattle.network.specs.declared.Network.{Network}
use Rattle.call_theory.specs.declared.Figures.{Figures}
use Rattle.journal.specs.Records.{sound_whole}
use Rattle.journal.specs.declared.CallAnswer.{CallAnswer}
use Rattle.journal.specs.declared.Journal.{Journal}
use Rattle.journal.specs.declared.Record.{Record}
use Rattle.journal.specs.declared.StepKind.{StepKind}
use Rattle.journal.specs.declared.StepKind.TheVariants as kinds

-- the number of a kind in a journal
abbrev pub kind_number : StepKind → ℕ
kind_number kinds.Merge = 0
kind_number kinds.Drop = 1

-- the number of collapses of a sweep, and 0 and 0
abbrev pub counted : ℕ → Figures
counted collapses = record { first = collapses; second = 0; third = 0 }

-- the code of what a call gives, and its three numbers; 0 on refusal
abbrev pub code_given : Result Figures Refusal → ℕ
code_given (Ok f) = 0
code_given (Err e) = number_of e

abbrev pub figures_given : Result Figures Refusal → Figures
figures_given (Ok f) = f
figures_given (Err e) = counted 0

-- what a call gives, and the record that it leaves, as an answer
abbrev pub left_by : Result Figures Refusal → Record → CallAnswer
left_by m r = record { code = code_given m; after = r; figures = figures_given m }

-- a refusal: the record stays
abbrev pub refusing : ℕ → Record → CallAnswer
refusing code r = record { code = code; after = r; figures = counted 0 }

-- the network and the journal that an accepted call leaves, and the number of collapses of a sweep
abbrev pub answered : Network → Journal → ℕ → CallAnswer
answered n j collapses = record { code = 0; after = record { network = n; journal = j }; figures = counted collapses }

-- a sound record, whose network's arrays have their lengths
pub record SoundHeld (r : Record) : Type 0 where
  pub shape : ArrayLengths r.network
  pub whole : sound_whole r ≡ true
