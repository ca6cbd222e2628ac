-- Demand 3, on records: what is claimed of every list of calls from the record of any file that a read accepts. Document 01, "A list of
-- calls", and document 02, No. 1: "A list of calls may hold previews and still agrees with the network read", and No. 5: "Undo joins the calls in
-- the list that no output may notice". Nothing is proved here.
use Rattle.std.specs.Prelude.{◌≡◌, true, cond, List, [], ◌∷◌, ◌≢◌, ℕ, zero, suc, ◌≤◌, eqb}
use Rattle.network.specs.Threshold.{Assignment, frame, fits_frame, output_bits}
use Rattle.network.specs.Record.{net_of}
use Rattle.frame_reading.specs.Reading.{reading}
use Rattle.call_theory.specs.Calls.{answer, calls, steps_accepted}
use Rattle.call_theory.specs.Guarantee.{Claim}
use Rattle.call_theory.specs.declared.Call.{Call}
use Rattle.call_theory.specs.declared.Call.TheVariants.{Undo}
use Rattle.journal.specs.Records.{state_of, sound_whole, record_of}
use Rattle.journal.specs.Answers.{as_call_answer, applied}
use Rattle.journal.specs.declared.CallAnswer.{CallAnswer}
use Rattle.journal.specs.declared.Record.{Record}
use Rattle.question_theory.specs.Question.{Solves, question, alike}
use Rattle.question_theory.specs.Demand.{SolvesWritten}
use Rattle.guarantees.specs.Questions.{QuestionClaim}

-- the record after a list: "each later one the network that the call before it returned"
unfoldable pub calls_on : Record → List Call → Record
calls_on r [] = r
calls_on r (c ∷ cs) = calls_on (applied r c).after cs

-- ---- undo repeated

-- the last record, and the number of the refusal, 0 if there was none
pub record UndoEnd : Type 0 where
  pub last : Record
  pub code : ℕ

-- an undo is accepted and another follows, or it is the last
unfoldable pub onward : CallAnswer → (Record → UndoEnd) → UndoEnd
onward o next = cond (eqb o.code 0) (next o.after) (record { last = o.after; code = o.code })

-- "repeating undo until it is refused", at most n times
unfoldable pub undoing_on : ℕ → Record → UndoEnd
undoing_on zero r = record { last = r; code = 0 }
undoing_on (suc n) r = onward (applied r Undo) (undoing_on n)

-- ---- the claim

-- one call on a record: it leaves exactly the network and the journal and gives exactly the answer that the definitions give for its numbers and
-- the record that it got; a merge within the limits is accepted exactly when merged gate and composed pair have the same bit on every
-- setting and the merged gate keeps the margins; a collapse is accepted exactly when its gate is no output and has a qualifying pair
-- for every reader; after an accepted sweep no gate within its reader limit, outputs aside, has a qualifying pair for every gate that reads it;
-- the steps that a merge, a drop, a collapse or a sweep enters are accepted merges and drops, one after another, and as many undos give back the
-- network before it; a preview leaves the record as it was, and its figures are those of the report of the network that a collapse would have
-- left there, or it has the collapse's refusal; an undo is refused with 22 where the journal is empty, and else takes the latest step back
pub record CallClaim (r : Record) (c : Call) : Type 0 where
  pub exact : applied r c ≡ as_call_answer r c (answer (state_of r) c)
  pub claim : Claim (state_of r) c

-- each call of a list, at the record that it gets
abbrev pub CallClaims : Record → List Call → Type 0
CallClaims r [] = Unit {0}
CallClaims r (c ∷ cs) = CallClaim r c × CallClaims (applied r c).after cs

-- a list of calls from a record on: the record after it is sound, has the version and the margins of the one before ("a file is written in
-- the version it was read in"), and is that of the network and the steps of the definitions, spare places 0; on every frame that 10
-- does not refuse every output has the same bit by the threshold rule, and a reading gives the same answer; the two have equal input and
-- output counts, so that 19 does not apply to the question written for them, which is as claimed of every such pair and has no 0/1
-- solution; 23 is a number "which no record that came from a read and these calls can show"; "If at most 64 steps were accepted since the read,
-- repeating undo until it is refused with 22 gives the network read", and the whole record; and each call is as claimed
pub record ListClaim (r : Record) (cs : List Call) : Type 0 where
  pub sound_after : sound_whole (calls_on r cs) ≡ true
  pub same_board : (calls_on r cs).network.board ≡ r.network.board
  pub state_after : state_of (calls_on r cs) ≡ calls (state_of r) cs
  pub record_after : calls_on r cs ≡ record_of (calls (state_of r) cs)
  pub same_bits : (x : ℕ) → fits_frame r.network.inputs x ≡ true
      → output_bits (net_of (calls_on r cs).network) (frame x) ≡ output_bits (net_of r.network) (frame x)
  pub same_readings : (x : ℕ) → reading (calls_on r cs).network x ≡ reading r.network x
  pub same_counts : alike (net_of r.network) (net_of (calls_on r cs).network) ≡ true
  pub asked : QuestionClaim r.network (calls_on r cs).network
  pub no_solution : (ρ : Assignment) → Solves ρ (question (net_of r.network) (net_of (calls_on r cs).network)) → ⊥
  pub none_written : (ρ : Assignment) → SolvesWritten ρ (net_of r.network) (net_of (calls_on r cs).network) → ⊥
  pub never_23 : (applied (calls_on r cs) Undo).code ≢ 23
  pub taken_back : steps_accepted (state_of r) cs ≤ 64 → undoing_on 65 (calls_on r cs) ≡ record { last = r; code = 22 }
  pub each_call : CallClaims r cs
