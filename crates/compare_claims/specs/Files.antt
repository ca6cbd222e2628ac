-- What is claimed of comparing two whole files: it starts from the records that a read gives, and answers as the comparison of records does. Nothing
-- is proved here.
use Rattle.std.specs.Prelude.{◌≡◌, ◌≢◌, true, false, List, [], ◌∷◌, ℕ, ◌≤◌, ◌<◌, length, get_or, drop}
use Rattle.network.specs.Record.{net_of}
use Rattle.pmn_reader.specs.Answers.{loaded}
use Rattle.pmn_claims.specs.Answers.{record_in}
use Rattle.question_theory.specs.Question.{alike}
use Rattle.journal_calls.specs.Answers.{CompareOn}
use Rattle.guarantees.specs.Files.{Accepted}
use Rattle.compare_networks.specs.Files.{compared_files, CompareLeft}

-- before and after: the lent numbers; number: the answer
pub record FilesClaim (first second : List ℕ) (budget : ℕ) (before after : List ℕ) (number : ℕ) : Type 0 where
  pub first_refused : (loaded first).code ≢ 0 → (number ≡ (loaded first).code) × (after ≡ before)
  pub second_refused : Accepted first → (loaded second).code ≢ 0 → (number ≡ (loaded second).code) × (after ≡ before)
  pub few_places : Accepted first → Accepted second → length before < 3 → (number ≡ 18) × (after ≡ before)
  pub unlike : Accepted first → Accepted second → 3 ≤ length before
      → alike (net_of (loaded first).network) (net_of (loaded second).network) ≡ false → (number ≡ 19) × (after ≡ before)
  pub compared : Accepted first → Accepted second → 3 ≤ length before
      → alike (net_of (loaded first).network) (net_of (loaded second).network) ≡ true
      → (number ≡ 0)
      × (after ≡ get_or after 0 0 ∷ get_or after 1 0 ∷ get_or after 2 0 ∷ drop 3 before)
      × CompareOn (record_in first) (record_in second) budget (record { code = 0; verdict = get_or after 0 0; frame = get_or after 1 0; steps = get_or after 2 0 })

abbrev pub FilesCompared : List ℕ → List ℕ → Type 0
FilesCompared first second = (budget number : ℕ) (before after : List ℕ)
    → CompareLeft (compared_files first second (length before)) budget before after number → FilesClaim first second budget before after number
