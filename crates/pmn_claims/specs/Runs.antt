-- Demand 3 from bytes to bytes: what `pmn_run` leaves in its lent places, for every file, every list of numbers and any lent lengths. Nothing is
-- proved here.
use Rattle.std.specs.Prelude.{◌≡◌, true, List, [], ◌∷◌, ◌++◌, ◌≢◌, ℕ, ◌+◌, ◌*◌, ◌≤◌, length, get_or, take, drop}
use Rattle.basics.specs.Refusals.{code_of, stored}
use Rattle.network.specs.Threshold.{Assignment, frame, fits_frame, output_bits}
use Rattle.network.specs.Record.{net_of}
use Rattle.network.specs.declared.Network.{Network}
use Rattle.frame_reading.specs.Reading.{reading}
use Rattle.question_theory.specs.Question.{Solves, question, alike}
use Rattle.question_theory.specs.Demand.{SolvesWritten}
use Rattle.pmn_reader.specs.Answers.{loaded}
use Rattle.call_theory.specs.declared.Call.{Call}
use Rattle.call_numbers.specs.Numbers.{calls_in, four_of}
use Rattle.call_runs.specs.Files.{run_answer, ran_file, ran_numbers}
use Rattle.journal.specs.Records.{just_read}
use Rattle.journal.specs.Answers.{applied}
use Rattle.journal.specs.declared.Record.{Record}
use Rattle.guarantees.specs.Files.{Accepted}
use Rattle.guarantees.specs.Lists.{calls_on}
use Rattle.guarantees.specs.Questions.{QuestionClaim}

-- ---- two networks that no output tells apart: "on every frame the outputs of the network after the list are those of the network before it", by
-- the threshold rule and by a reading; the same inputs, board and number of outputs; the question written for the two has no 0/1 solution
pub record ReadsAlike (before after : Network) : Type 0 where
  pub same_board : after.board ≡ before.board
  pub same_inputs : after.inputs ≡ before.inputs
  pub same_bits : (x : ℕ) → fits_frame before.inputs x ≡ true → output_bits (net_of after) (frame x) ≡ output_bits (net_of before) (frame x)
  pub same_readings : (x : ℕ) → reading after x ≡ reading before x
  pub same_counts : alike (net_of before) (net_of after) ≡ true
  pub asked : QuestionClaim before after
  pub no_solution : (ρ : Assignment) → Solves ρ (question (net_of before) (net_of after)) → ⊥
  pub none_written : (ρ : Assignment) → SolvesWritten ρ (net_of before) (net_of after) → ⊥

-- ---- what stands in the lent places after a run
abbrev pub answers_after : List ℕ → List ℕ → List ℕ → List ℕ → List ℕ
answers_after file numbers answers out = stored (ran_numbers (run_answer file numbers answers out)) answers

abbrev pub out_after : List ℕ → List ℕ → List ℕ → List ℕ → List ℕ
out_after file numbers answers out = stored (ran_file (run_answer file numbers answers out)) out

-- "the first `answers[0]` bytes of `out`"
abbrev pub file_put : List ℕ → List ℕ → List ℕ → List ℕ → List ℕ
file_put file numbers answers out = take (get_or (answers_after file numbers answers out) 0 0) (out_after file numbers answers out)

-- "four numbers for each call", each at the record that the call before it returned: what the calls on records answer
unfoldable pub fours_on : Record → List Call → List ℕ
fours_on r [] = []
fours_on r (c ∷ cs) = four_of (applied r c).code (applied r c).figures ++ fours_on (applied r c).after cs

-- ---- a run that answers 0: the file is one that a read accepts, and so is what is put out, of answers[0] bytes, which lie within `out`; its
-- record is the one that the calls leave, one after another; no output tells the two apart; the bytes behind it stay; the places from 1 on hold
-- the four numbers of each call, and the places behind them stay
pub record Ran (file numbers answers out : List ℕ) : Type 0 where
  pub read : Accepted file
  pub put : Accepted (file_put file numbers answers out)
  pub within : get_or (answers_after file numbers answers out) 0 0 ≤ length out
  pub left : (loaded (file_put file numbers answers out)).network ≡ (calls_on (just_read (loaded file).network) (calls_in numbers)).network
  pub alike_read : ReadsAlike (loaded file).network (loaded (file_put file numbers answers out)).network
  pub behind : drop (get_or (answers_after file numbers answers out) 0 0) (out_after file numbers answers out)
      ≡ drop (get_or (answers_after file numbers answers out) 0 0) out
  pub fours : answers_after file numbers answers out
      ≡ get_or (answers_after file numbers answers out) 0 0
      ∷ (fours_on (just_read (loaded file).network) (calls_in numbers) ++ drop (1 + 4 * length (calls_in numbers)) answers)

-- a run that answers another number leaves every lent place as it was
pub record NotRun (file numbers answers out : List ℕ) : Type 0 where
  pub same_answers : answers_after file numbers answers out ≡ answers
  pub same_out : out_after file numbers answers out ≡ out

pub record RunClaim (file numbers answers out : List ℕ) : Type 0 where
  pub ran_whole : code_of (run_answer file numbers answers out) ≡ 0 → Ran file numbers answers out
  pub refused_whole : code_of (run_answer file numbers answers out) ≢ 0 → NotRun file numbers answers out
