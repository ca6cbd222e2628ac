-- No call on a record answers 13. Assumes nothing.
use Rattle.std.specs.Prelude.{[], ◌∷◌, ◌≢◌, leb}
use Rattle.std.proofs.Common.{arith}
use Rattle.basics.specs.Refusals.{Answer, accepted, refused, ◌else◌, code_of}
use Rattle.network.specs.Threshold.{Net}
use Rattle.network.specs.Record.{net_of, sound_record}
use Rattle.network.specs.declared.Network.{Network}
use Rattle.fold_theory.specs.Pair.{Pair}
use Rattle.fold_theory.proofs.RefusalLaws.{NeverSays, checks_never}
use Rattle.fold_theory.proofs.NumberLaws.{merge_never, pair_never, collapse_never}
use Rattle.call_theory.specs.Calls.{Given, answer}
use Rattle.call_theory.proofs.NumberLaws.{answer_never}
use Rattle.call_theory.specs.declared.Call.{Call}
use Rattle.journal.specs.Records.{state_of, sound_whole, tested}
use Rattle.journal.specs.Answers.{as_call_answer, applied}
use Rattle.journal.specs.declared.Record.{Record}
use Rattle.fold_merge.specs.Answers.{on_record}
use Rattle.fold_pair.specs.Answers.{as_pair}
use Rattle.network_report.specs.Size.{report_of}
use Rattle.journal_calls.specs.Answers.{pair_on, preview_on, merge_number}
use Rattle.guarantees.specs.Thirteen.{NeverThirteen}

-- the record's own refusal is another
record_never : {A : Type 0} (r : Network) (call : Net → Answer A) → NeverSays 13 (call (net_of r)) → NeverSays 13 (on_record r call)
unfolding on_record
record_never r call h = checks_never 13 ((sound_record r else 20) ∷ []) (call (net_of r)) (omega arith, tt) h

-- and so is the journal's
tested_never : {A : Type 0} (r : Record) (a : Answer A) → NeverSays 13 a → NeverSays 13 (tested r a)
unfolding tested
tested_never r a h = checks_never 13 ((leb r.journal.count 64 else 20) ∷ []) a (omega arith, tt) h

-- the code that a call gives
never_code : (a : Answer Net) → NeverSays 13 a → code_of a ≢ 13
unfolding code_of
never_code (accepted M) h = omega arith
never_code (refused c) h = h

found_never : (a : Answer Pair) → NeverSays 13 a → (as_pair a).code ≢ 13
unfolding as_pair
found_never (accepted p) h = omega arith
found_never (refused c) h = h

report_never : (a : Answer Net) → NeverSays 13 a → (report_of a).code ≢ 13
unfolding report_of
report_never (accepted M) h = omega arith
report_never (refused c) h = h

answered_never : (r : Record) (c : Call) (a : Answer Given) → NeverSays 13 a → (as_call_answer r c a).code ≢ 13
unfolding as_call_answer
answered_never r c (accepted g) h = omega arith
answered_never r c (refused k) h = h

pub never_thirteen : (r : Record) → NeverThirteen r
unfolding merge_number pair_on preview_on applied
never_thirteen r =
    let n = r.network in
    record {
      witnesses = λ u v k l. never_code _ (tested_never r _ (record_never n _ (merge_never (net_of n) u v k l)));
      pairs = λ u v. found_never _ (tested_never r _ (record_never n _ (pair_never (net_of n) u v)));
      previews = λ s. report_never _ (tested_never r _ (record_never n _ (collapse_never (net_of n) s)));
      calls = λ c. answered_never r c _ (checks_never 13 ((sound_whole r else 20) ∷ []) (answer (state_of r) c) (omega arith, tt) (answer_never (state_of r) c));
    }
