-- What is claimed of the question of two networks: it has a 0/1 solution exactly when some frame makes their outputs differ, and what
-- its solutions are. Nothing is proved here.
use Rattle.std.specs.Prelude.{◌≡◌, Bool, false, not, List, ◌≢◌, ◌↔◌, ℕ, suc, ◌^◌, ◌<◌, T, length, get_or}
use Rattle.basics.specs.Library.{Bool·beq, some}
use Rattle.basics.specs.Lists.{Each}
use Rattle.network.specs.Threshold.{Net, Assignment, frame, output_bits}
use Rattle.question_theory.specs.Question.{Line, holds, Solves, question}
use Rattle.question_theory.specs.Text.{question_text}
use Rattle.question_theory.specs.Meaning.{line_of}

-- "the pseudo-Boolean question of two networks has a 0/1 solution"
abbrev pub HasSolution : Net → Net → Type 0
HasSolution N M = (ρ : Assignment) × Solves ρ (question N M)

-- "some frame makes their outputs differ"
abbrev pub Differ : Net → Net → Type 0
Differ N M = (x : ℕ) × (x < 2 ^ N.inputs) × (output_bits N (frame x) ≢ output_bits M (frame x))

-- output j has different bits, given the inputs' bits f
unfoldable pub differs : Net → Net → Assignment → ℕ → Bool
differs N M f j = not (Bool·beq (get_or (output_bits N f) j false) (get_or (output_bits M f) j false))

-- the one exactly when the other
abbrev pub Decides : Net → Net → Type 0
Decides N M = HasSolution N M ↔ Differ N M

-- ---- the question as it is written

-- a text says a line, and the line holds
abbrev pub HoldsAsWritten : Assignment → List ℕ → Type 0
HoldsAsWritten ρ text = (line : Line) × (line_of text ≡ some line) × T (holds ρ line)

-- "A 0/1 solution sets every variable to 0 or 1 so that all lines after the header hold": the texts 1, 2, .., as many as the header says
abbrev pub SolvesWritten : Assignment → Net → Net → Type 0
SolvesWritten ρ N M = (n : ℕ) → n < length (question N M) → HoldsAsWritten ρ (question_text N M (suc n))

-- what is written has a 0/1 solution exactly when some frame makes their outputs differ
abbrev pub DecidesWritten : Net → Net → Type 0
DecidesWritten N M = ((ρ : Assignment) × SolvesWritten ρ N M) ↔ Differ N M

-- every term's variable is one of the first n
abbrev pub Named : ℕ → Line → Type 0
Named n line = Each (λ t. t.signal < n) line.terms
