-- "Scores before and after folding are equal for every game": the claim, over every list of calls. Nothing is proved here.
use Rattle.std.specs.Prelude.{◌≡◌, List, ℕ}
use Rattle.call_theory.specs.declared.Call.{Call}
use Rattle.journal.specs.declared.Record.{Record}
use Rattle.guarantees.specs.Lists.{calls_on}
use Rattle.scorer.specs.Answers.{scoring}

-- after a list of calls on a record, undo and previews among them, every game has the sheet that it had before
pub record SameScores (r : Record) (calls : List Call) : Type 0 where
  pub sheets : (frames : List ℕ) → scoring (calls_on r calls) frames ≡ scoring r frames
