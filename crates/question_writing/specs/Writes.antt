-- Internal: what the writers of the question ask for. Nothing is proved here.
use Rattle.std.specs.Prelude.{List, ℕ, ◌≤◌, length}
use Rattle.basics.specs.Lists.{Each}
use Rattle.network.specs.Threshold.{Feed}
use Rattle.question_theory.specs.Text.{terms_text}
use Rattle.question_theory.proofs.TextLaws.{TermDigits}
use Rattle.question_theory.proofs.SizeLaws.{ShortLine}
use Rattle.question_terms.specs.declared.LineRecord.{LineRecord}
use Rattle.question_terms.specs.Terms.{line_in}

-- terms with numbers small enough, whose text has room
pub record Printable (terms : List Feed) (room : ℕ) : Type 0 where
  pub numbers : Each (TermDigits 8 3) terms
  pub short : length (terms_text terms) ≤ room

-- a line's record whose line has small numbers and a short text
pub record PrintableLine (line : LineRecord) : Type 0 where
  pub few : line.count ≤ 17
  pub narrow : ShortLine (line_in line)
