-- What the functions on whole files answer is what the calls on the record that was read answer: pair, preview and witness. So what is claimed of
-- records holds of files too. Nothing is proved here.
use Rattle.std.specs.Prelude.{◌≡◌, ◌≢◌, List, [], ◌∷◌, ℕ, zero, suc, ◌≤◌, length, get_or}
use Rattle.basics.specs.Refusals.{Answer, accepted, refused}
use Rattle.pmn_reader.specs.Answers.{loaded}
use Rattle.pmn_opening.specs.Files.{open_net}
use Rattle.fold_pair.specs.Files.{pair_places}
use Rattle.fold_preview.specs.Files.{preview_places}
use Rattle.fold_witness.specs.Files.{WitnessLeft}
use Rattle.journal.specs.Records.{just_read}
use Rattle.journal.specs.declared.Record.{Record}
use Rattle.journal_calls.specs.Answers.{pair_on, preview_on, merge_number, WitnessOn}
use Rattle.guarantees.specs.Files.{Accepted}

-- the record that a read of the file gives
abbrev pub record_in : List ℕ → Record
record_in file = just_read (loaded file).network

-- numbers with 0, and none with a refusal
abbrev pub numbered : ℕ → List ℕ → Answer (List ℕ)
numbered zero numbers = accepted numbers
numbered (suc k) numbers = refused (suc k)

-- with enough places lent. A witness has its setting in place 0, and other merges leave the places as they were
pub record AnswersAsRecord (file : List ℕ) : Type 0 where
  pub pairs : (u v : ℕ) (answer : List ℕ) → 2 ≤ length answer
      → pair_places file u v answer ≡ numbered (pair_on (record_in file) u v).code ((pair_on (record_in file) u v).k ∷ (pair_on (record_in file) u v).l ∷ [])
  pub previews : (s : ℕ) (answer : List ℕ) → 3 ≤ length answer → let p = preview_on (record_in file) s in
      preview_places file s answer ≡ numbered p.code (p.gates ∷ p.cost ∷ p.levels ∷ [])
  pub witnesses : (u v k l : ℕ) (before after : List ℕ) (number : ℕ) → 1 ≤ length before
      → WitnessLeft (open_net file (length before) 1) u v k l before after number → number ≡ 15
      → WitnessOn (record_in file) u v k l (record { code = number; setting = get_or after 0 0 })
  pub no_witness_lem : (u v k l : ℕ) (before after : List ℕ) (number : ℕ) → 1 ≤ length before
      → WitnessLeft (open_net file (length before) 1) u v k l before after number → number ≢ 15
      → (number ≡ merge_number (record_in file) u v k l) × (after ≡ before)

abbrev pub FilesAsRecords : List ℕ → Type 0
FilesAsRecords file = Accepted file → AnswersAsRecord file
