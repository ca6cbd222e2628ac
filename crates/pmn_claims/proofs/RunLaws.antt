-- A run from bytes to bytes is as claimed. Assumes nothing.
use Rattle.std.specs.Prelude.{◌≡◌, Bool, true, false, ◌&&◌, ◌≢◌, T, leb, take}
use Rattle.std.proofs.Math.Path.{refl, sym, ap, subst}
use Rattle.std.proofs.Common.{◌∙◌, leb→le}
use mathlib.Core.List.{List, [], ◌∷◌, ◌++◌}
use Prim.Native.Nat.{ℕ, suc, ◌+◌, ◌*◌, ◌≤◌, ◌<◌}
use native.Mathlib.Omega.{arith}
use Rattle.std.proofs.Math.ListN.{length, get_or, drop}
use Rattle.std.proofs.Math.Seq.{take_at, drop_at}
use Rattle.basics.specs.Refusals.{Answer, accepted, refused, Test, ◌else◌, checks, bind, code_of, stored}
use Rattle.basics.specs.TestLaws.{T_is, T_and}
use Rattle.network.specs.Threshold.{Net, Assignment, frame, output_bits}
use Rattle.network.specs.Sound.{Sound}
use Rattle.network.specs.Record.{net_of, layout}
use Rattle.network.specs.RecordLaws.{net_of_layout, holds_layout}
use Rattle.network.specs.Places.{HoldsSound}
use Rattle.network.specs.declared.Network.{Network}
use Rattle.frame_reading.specs.Reading.{reading}
use Rattle.question_theory.specs.Question.{Solves, question, alike}
use Rattle.question_theory.specs.Demand.{SolvesWritten}
use Rattle.question_theory.proofs.AlikeLaws.{alike_inputs}
use Rattle.pmn_format.specs.Format.{Read, done, Bytes, file_bytes, parse_file}
use Rattle.pmn_format.proofs.WriteReadLaws.{file_read}
use Rattle.pmn_format.proofs.CodeLaws.{refused_positive}
use Rattle.pmn_reader.specs.Answers.{as_loaded, loaded}
use Rattle.pmn_reader.specs.OpenLaws.{FileAccepted, loaded_net, opened_sound}
use Rattle.pmn_reader.specs.declared.Loaded.{Loaded}
use Rattle.pmn_opening.specs.Files.{as_answer, read_net, room}
use Rattle.call_theory.specs.Steps.{State, just_opened}
use Rattle.call_theory.specs.Calls.{Given, answer, leaves, calls}
use Rattle.call_theory.proofs.TraceLaws.{Traced}
use Rattle.call_theory.proofs.GuaranteeLaws.{opened_traced, call_traced, calls_traced}
use Rattle.call_theory.specs.declared.Call.{Call}
use Rattle.call_numbers.specs.Numbers.{well_formed, calls_in, four_of}
use Rattle.call_runs.specs.Runs.{figures_in, answers_of, net_after, ListRan, ran}
use Rattle.call_runs.proofs.RunLaws.{answers_length, just_state}
use Rattle.call_runs.specs.Files.{run_answer, ran_file, ran_numbers}
use Rattle.journal.proofs.JournalLaws.{empty_journal_lem}
use Rattle.journal.specs.Records.{state_of, record_of, just_read}
use Rattle.journal.specs.Answers.{applied}
use Rattle.journal.specs.declared.CallAnswer.{CallAnswer}
use Rattle.journal.specs.declared.Record.{Record}
use Rattle.journal_states.specs.Answers.{answer_on}
use Rattle.journal_states.proofs.StateLaws.{state_record, applied_record, record_left}
use Rattle.guarantees.specs.Files.{Accepted}
use Rattle.guarantees.specs.Lists.{calls_on, ListClaim}
use Rattle.guarantees.proofs.ListLaws.{accepted_claim, inputs_of}
use Rattle.guarantees.specs.Questions.{QuestionClaim}
use Rattle.pmn_claims.specs.Runs.{ReadsAlike, answers_after, out_after, file_put, fours_on, Ran, NotRun, RunClaim}

-- ---- a run that answers 0
record Opened (file ns answers out : List ℕ) : Type 0 where
  opened : FileAccepted file
  is : run_answer file ns answers out ≡ accepted (ran opened.net (calls_in ns))
  few : 1 + 4 * length (calls_in ns) ≤ length answers
  short : length (file_bytes (net_after opened.net (calls_in ns))) ≤ length out

two_tests : {A : Type 0} (a b : Bool) (r : A) → code_of (checks ((a else 14) ∷ (b else 18) ∷ []) (accepted r)) ≡ 0
    → (checks ((a else 14) ∷ (b else 18) ∷ []) (accepted r) ≡ accepted r) × T b
unfolding code_of checks
two_tests true true r h = (refl, tt)
two_tests true false r h = absurd (omega arith)
two_tests false b r h = absurd (omega arith)

run_opened : (file ns answers out : List ℕ) → code_of (run_answer file ns answers out) ≡ 0 → Opened file ns answers out
unfolding run_answer read_net as_answer bind code_of room
run_opened file ns answers out h = go (parse_file file) refl h
  where
    f : Net → Answer ListRan
    f N = checks
        ((well_formed ns else 14)
        ∷ (leb (1 + 4 * length (calls_in ns)) (length answers) && leb (length (file_bytes (net_after N (calls_in ns)))) (length out) else 18) ∷ [])
        (accepted (ran N (calls_in ns)))

    go : (r : Read Net) → parse_file file ≡ r → code_of (bind (as_answer r) f) ≡ 0 → Opened file ns answers out
    go (Read.refused k) p h = let q = refused_positive file k p in absurd (omega arith)
    go (done N l) p h =
        let a = leb (1 + 4 * length (calls_in ns)) (length answers) in
        let b = leb (length (file_bytes (net_after N (calls_in ns)))) (length out) in
        let t = two_tests (well_formed ns) (a && b) (ran N (calls_in ns)) h in
        let u = T_and a b t.1 in
        record {
          opened = record { net = N; rest = l; reads = p };
          is = ap (λ (r : Read Net). bind (as_answer r) f) p ∙ t.0;
          few = leb→le (1 + 4 * length (calls_in ns)) (length answers) u.0;
          short = leb→le (length (file_bytes (net_after N (calls_in ns)))) (length out) u.1;
        }

-- ---- the four numbers of each call
one_four : (q : State) (a : Answer Given) → four_of (answer_on q a).code (answer_on q a).figures ≡ four_of (code_of a) (figures_in a)
unfolding answer_on code_of figures_in
one_four q (accepted g) = refl
one_four q (refused k) = refl

fours_are : (R : Net) (q : State) (cs : List Call) → Traced R q → fours_on (record_of q) cs ≡ answers_of q cs
unfolding fours_on answers_of
fours_are R q [] t = refl
fours_are R q (c ∷ cs) t =
    let here = ap (λ (o : CallAnswer). four_of o.code o.figures) (applied_record R q t c) ∙ one_four q (answer q c) in
    let next = ap (λ (x : Record). fours_on x cs) (record_left R q t c) ∙ fours_are R (leaves q (answer q c)) cs (call_traced R q c t) in
    λ x. here x ++ next x

-- ---- what stands in the places
module _ (b : List ℕ) (out : List ℕ) where
  put_file : take (length b) (stored (accepted b) out) ≡ b
  unfolding stored
  put_file = take_at b (drop (length b) out) (length b) refl

  put_behind : drop (length b) (stored (accepted b) out) ≡ drop (length b) out
  unfolding stored
  put_behind = drop_at b (drop (length b) out) (length b) refl

-- two networks of which one is another of which the same is known
alike_by : (r : Record) (cs : List Call) (n : Network) → n ≡ (calls_on r cs).network → ListClaim r cs → ReadsAlike r.network n
alike_by r cs n e c = subst (ReadsAlike r.network) (sym e) (record {
  same_board = c.same_board;
  same_inputs = inputs c.same_counts;
  same_bits = c.same_bits;
  same_readings = c.same_readings;
  same_counts = c.same_counts;
  asked = c.asked;
  no_solution = c.no_solution;
  none_written = c.none_written;
})
  where
    inputs : alike (net_of r.network) (net_of (calls_on r cs).network) ≡ true → (calls_on r cs).network.inputs ≡ r.network.inputs
    inputs h = sym (inputs_of (calls_on r cs).network) ∙ sym (alike_inputs (net_of r.network) (net_of (calls_on r cs).network) h) ∙ inputs_of r.network

-- ---- the claim
module _ (file ns answers out : List ℕ) (bs : Bytes file) (o : Opened file ns answers out) where
  abbrev N : Net
  N = o.opened.net

  abbrev cs : List Call
  cs = calls_in ns

  abbrev M : Net
  M = net_after N cs

  abbrev b : List ℕ
  b = file_bytes M

  N_sound : Sound N
  N_sound = opened_sound file bs o.opened

  traced : Traced N (just_opened N)
  traced = opened_traced N N_sound

  M_sound : Sound M
  M_sound = (calls_traced N (just_opened N) cs traced).kept.sound

  was : loaded file ≡ record { code = 0; network = layout N }
  was = loaded_net file o.opened

  net_was : (loaded file).network ≡ layout N
  net_was = ap (λ (x : Loaded). x.network) was

  read_was : just_read (loaded file).network ≡ record_of (just_opened N)
  unfolding just_read record_of just_opened
  read_was = λ x. record { network = net_was x; journal = empty_journal_lem x }

  accepted_was : Accepted file
  accepted_was = ap (λ (x : Loaded). x.code) was

  claim : ListClaim (just_read (loaded file).network) cs
  claim = accepted_claim file bs accepted_was cs

  is_now : loaded b ≡ record { code = 0; network = layout M }
  unfolding loaded as_loaded
  is_now = ap as_loaded (file_read M M_sound)

  -- the calls leave the record of M
  calls_leave : (calls_on (just_read (loaded file).network) cs).network ≡ layout M
  unfolding record_of
  calls_leave = ap (λ (x : Record). x.network) claim.record_after
      ∙ ap (λ (q : State). layout (calls q cs).net) (ap state_of read_was ∙ state_of_lem)
    where
      state_of_lem : state_of (record_of (just_opened N)) ≡ just_opened N
      state_of_lem = state_record N (just_opened N) traced

  out_is : out_after file ns answers out ≡ stored (accepted b) out
  unfolding ran_file ran
  out_is = ap (λ (x : Answer ListRan). stored (ran_file x) out) o.is

  answers_are : answers_after file ns answers out ≡ stored (accepted (length b ∷ answers_of (just_opened N) cs)) answers
  unfolding ran_numbers ran
  answers_are = ap (λ (x : Answer ListRan). stored (ran_numbers x) answers) o.is

  place_0 : get_or (answers_after file ns answers out) 0 0 ≡ length b
  unfolding stored
  place_0 = ap (λ (l : List ℕ). get_or l 0 0) answers_are

  put_is : file_put file ns answers out ≡ b
  put_is = (λ x. take (place_0 x) (out_is x)) ∙ put_file b out

  fours_now : fours_on (just_read (loaded file).network) cs ≡ answers_of (just_opened N) cs
  fours_now = ap (λ (r : Record). fours_on r cs) read_was ∙ fours_are N (just_opened N) cs traced

  whole : Ran file ns answers out
  unfolding stored just_read
  whole =
      let now = ap (λ (l : List ℕ). loaded l) put_is ∙ is_now in
      let left = ap (λ (x : Loaded). x.network) now ∙ sym calls_leave in
      record {
        read = accepted_was;
        put = ap (λ (x : Loaded). x.code) now;
        within = subst (λ (n : ℕ). n ≤ length out) (sym place_0) o.short;
        left = left;
        alike_read = alike_read left;
        behind = (λ x. drop (place_0 x) (out_is x)) ∙ put_behind b out ∙ ap (λ (n : ℕ). drop n out) (sym place_0);
        fours = answers_are ∙ (λ x. sym place_0 x ∷ (sym fours_now x ++ drop (count x) answers));
      }
    where
      count : suc (length (answers_of (just_opened N) cs)) ≡ 1 + 4 * length cs
      count = let e = answers_length (just_opened N) cs in omega arith

      alike_read : (loaded (file_put file ns answers out)).network ≡ (calls_on (just_read (loaded file).network) cs).network
          → ReadsAlike (loaded file).network (loaded (file_put file ns answers out)).network
      alike_read e = alike_by (just_read (loaded file).network) cs (loaded (file_put file ns answers out)).network e claim

-- a run that answers another number
not_run : (answers out : List ℕ) (a : Answer ListRan) → code_of a ≢ 0 → (stored (ran_numbers a) answers ≡ answers) × (stored (ran_file a) out ≡ out)
unfolding code_of stored ran_numbers ran_file
not_run answers out (accepted r) h = absurd (h refl)
not_run answers out (refused k) h = (refl, refl)

pub run_claim : (file ns answers out : List ℕ) → Bytes file → RunClaim file ns answers out
run_claim file ns answers out bs = record {
  ran_whole = λ h. whole file ns answers out bs (run_opened file ns answers out h);
  refused_whole = λ h. let n = not_run answers out (run_answer file ns answers out) h in record { same_answers = n.0; same_out = n.1 };
}
