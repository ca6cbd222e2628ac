-- What is claimed of every record, made by hand or not, and of its journal. Nothing is proved here.
use Rattle.std.specs.Prelude.{◌≡◌, ◌≢◌, true, false, List, [], ◌∷◌, ℕ, ◌≤◌, length, take}
use Rattle.basics.specs.Refusals.{accepted}
use Rattle.call_theory.specs.Steps.{Step, State}
use Rattle.call_theory.specs.Calls.{Given, no_figures, steps_of, answer}
use Rattle.call_theory.specs.declared.Call.{Call}
use Rattle.call_theory.specs.declared.Call.TheVariants.{Merge, Drop, Collapse, Sweep, Preview, Undo}
use Rattle.journal.specs.Records.{sound_whole}
use Rattle.journal.specs.Answers.{applied}
use Rattle.journal.specs.declared.Record.{Record}

-- ---- any record and any call: "Every call given a record tests this first": 20 exactly if it is not sound, and it is handed back; "A refusal
-- hands the record back unchanged"; and a sound record stays sound, whatever its journal says
pub record RecordClaim (r : Record) (c : Call) : Type 0 where
  pub unsound : sound_whole r ≡ false → applied r c ≡ record { code = 20; after = r; figures = no_figures }
  pub only_then : (applied r c).code ≡ 20 → sound_whole r ≡ false
  pub unchanged : (applied r c).code ≢ 0 → (applied r c).after ≡ r
  pub no_figures_lem : (applied r c).code ≢ 0 → (applied r c).figures ≡ no_figures
  pub stays_sound : sound_whole r ≡ true → sound_whole (applied r c).after ≡ true

-- ---- the journal: "the last 64 accepted merges and drops", also if one call makes more

-- steps put one after another before those that were there, so that the newest is first
abbrev pub newest_first : List Step → List Step → List Step
newest_first [] ss = ss
newest_first (s ∷ new) ss = newest_first new (s ∷ ss)

-- a call that is no undo
abbrev pub Enters : Call → Type 0
Enters (Merge u v k l) = Unit {0}
Enters (Drop s) = Unit {0}
Enters (Collapse s) = Unit {0}
Enters (Sweep b) = Unit {0}
Enters (Preview s) = Unit {0}
Enters Undo = ⊥

-- after an accepted call the journal is the newest 64 of its steps and those before
abbrev pub JournalClaim : State → Call → Type 0
JournalClaim q c = Enters c → length q.steps ≤ 64 → (g : Given) → answer q c ≡ accepted g
    → g.state.steps ≡ take 64 (newest_first (steps_of q.net c) q.steps)
