-- The claim of lists of calls holds. Assumes nothing.
use Rattle.std.specs.Prelude.{◌≡◌, refl, true, List, [], ◌∷◌, ◌≢◌, ℕ, zero, suc, ◌≤◌, length}
use Rattle.std.proofs.Common.{sym, ap, ◌∙◌, subst, arith}
use Rattle.basics.specs.Refusals.{Answer, checks}
use Rattle.network.specs.Threshold.{Net, Assignment, frame, output_bits}
use Rattle.network.specs.Record.{net_of, layout, sound_record}
use Rattle.network.specs.Sound.{Sound}
use Rattle.network.specs.LimitLaws.{of_sound}
use Rattle.network.specs.RecordLaws.{net_of_layout, holds_layout, holds_sound}
use Rattle.network.specs.declared.Network.{Network}
use Rattle.frame_reading.specs.Reading.{frame_answer, reading}
use Rattle.call_theory.specs.Steps.{Step, undo_of, State, just_opened}
use Rattle.call_theory.specs.Calls.{Given, without_figures, answer, leaves, calls, steps_accepted}
use Rattle.call_theory.specs.Preserved.{Ended, end_of, undoing}
use Rattle.call_theory.specs.Guarantee.{Claim}
use Rattle.call_theory.proofs.TraceLaws.{Traced, traced_none, traced_some, undo_traced}
use Rattle.call_theory.proofs.GuaranteeLaws.{opened_traced, call_traced, calls_traced, claim, traced_agree, list_kept}
use Rattle.call_theory.specs.declared.Call.{Call}
use Rattle.call_theory.specs.declared.Call.TheVariants.{Undo}
use Rattle.journal.proofs.JournalLaws.{empty_journal_lem}
use Rattle.journal.specs.Records.{state_of, sound_whole, record_of, just_read}
use Rattle.journal.specs.Answers.{applied}
use Rattle.journal.proofs.AnswerLaws.{applied_exact}
use Rattle.journal.specs.declared.CallAnswer.{CallAnswer}
use Rattle.journal.specs.declared.Record.{Record}
use Rattle.question_theory.specs.Question.{Solves, question, alike}
use Rattle.question_theory.proofs.AlikeLaws.{alike_of}
use Rattle.question_theory.specs.Demand.{Differ, SolvesWritten}
use Rattle.journal_states.specs.Answers.{answer_on}
use Rattle.journal_states.proofs.StateLaws.{state_record, record_sound, applied_record, record_left}
use Rattle.pmn_format.specs.Format.{Bytes}
use Rattle.pmn_reader.specs.Answers.{loaded}
use Rattle.pmn_reader.specs.OpenLaws as files
use Rattle.pmn_reader.specs.declared.Loaded.{Loaded}
use Rattle.guarantees.specs.Files.{Accepted}
use Rattle.guarantees.specs.Questions.{QuestionClaim}
use Rattle.guarantees.specs.Lists.{calls_on, onward, undoing_on, CallClaim, CallClaims, ListClaim}
use Rattle.guarantees.proofs.QuestionLaws.{questions}

-- ---- every list

-- what a list leaves is the record of the state of the definitions
pub list_record : (R : Net) (q : State) (cs : List Call) → Traced R q → calls_on (record_of q) cs ≡ record_of (calls q cs)
unfolding calls_on calls
list_record R q [] t = refl
list_record R q (c ∷ cs) t =
    ap (λ (x : Record). calls_on x cs) (record_left R q t c) ∙ list_record R (leaves q (answer q c)) cs (call_traced R q c t)

call_claim : (R : Net) (q : State) (c : Call) → Traced R q → CallClaim (record_of q) c
call_claim R q c t = record {
  exact = applied_exact (record_of q) c (record_sound R q t);
  claim = subst (λ (p : State). Claim p c) (sym (state_record R q t)) (claim R q c t);
}

call_claims : (R : Net) (q : State) (cs : List Call) → Traced R q → CallClaims (record_of q) cs
call_claims R q [] t = tt
call_claims R q (c ∷ cs) t = (
  call_claim R q c t,
  subst (λ (x : Record). CallClaims x cs) (sym (record_left R q t c)) (call_claims R (leaves q (answer q c)) cs (call_traced R q c t)),
)

-- ---- undo repeated

undo_end : (R N : Net) (ss : List Step) (n : ℕ) → Traced R (record { net = N; steps = ss })
    → undoing_on n (record_of (record { net = N; steps = ss }))
    ≡ record { last = record_of (undoing n (record { net = N; steps = ss })).state; code = (undoing n (record { net = N; steps = ss })).code }
unfolding undoing_on undoing onward end_of answer_on without_figures
undo_end R N ss zero t = refl
undo_end R N [] (suc n) t =
    let q : State = record { net = N; steps = [] } in
    ap (λ (o : CallAnswer). onward o (undoing_on n)) (applied_record R q t Undo ∙ ap (answer_on q) (traced_none R N t))
    ∙ sym (ap (λ (a : Answer Given). record { last = record_of (end_of q a (undoing n)).state; code = (end_of q a (undoing n)).code }) (traced_none R N t))
undo_end R N (s ∷ ss) (suc n) t =
    let q : State = record { net = N; steps = s ∷ ss } in
    ap (λ (o : CallAnswer). onward o (undoing_on n)) (applied_record R q t Undo ∙ ap (answer_on q) (traced_some R N s ss t))
    ∙ undo_end R (undo_of N s) ss n (undo_traced R N s ss t)
    ∙ sym (ap (λ (a : Answer Given). record { last = record_of (end_of q a (undoing n)).state; code = (end_of q a (undoing n)).code }) (traced_some R N s ss t))

-- 23 is never given
undo_code : (R N : Net) (ss : List Step) → Traced R (record { net = N; steps = ss }) → (applied (record_of (record { net = N; steps = ss })) Undo).code ≢ 23
unfolding answer_on
undo_code R N [] t =
    let q : State = record { net = N; steps = [] } in
    let e = ap (λ (o : CallAnswer). o.code) (applied_record R q t Undo ∙ ap (answer_on q) (traced_none R N t)) in
    omega (arith, e)
undo_code R N (s ∷ ss) t =
    let q : State = record { net = N; steps = s ∷ ss } in
    let e = ap (λ (o : CallAnswer). o.code) (applied_record R q t Undo ∙ ap (answer_on q) (traced_some R N s ss t)) in
    omega (arith, e)

-- ---- the networks before and after

-- two sound networks with as many inputs and the same output bits are read alike
read_alike : (r q : Network) (x : ℕ) → sound_record r ≡ true → sound_record q ≡ true → q.inputs ≡ r.inputs
    → output_bits (net_of q) (frame x) ≡ output_bits (net_of r) (frame x) → reading q x ≡ reading r x
unfolding reading frame_answer checks
read_alike r q x s t e h = rw (s, t, h, e)

pub inputs_of : (r : Network) → (net_of r).inputs ≡ r.inputs
unfolding net_of
inputs_of r = refl

net_of_board : (r : Network) → (net_of r).board ≡ r.board
unfolding net_of
net_of_board r = refl

-- the claim, of the record of a sound network just read, by what the list leaves
list_claim : (N : Net) (cs : List Call) → Sound N → ListClaim (record_of (just_opened N)) cs
unfolding record_of just_opened
list_claim N cs n =
    let q₀ = just_opened N in
    let o = opened_traced N n in
    let q = calls q₀ cs in
    let t = calls_traced N q₀ cs o in
    let M = q.net in
    let e = list_record N q₀ cs o in
    let start = state_record N q₀ o in
    let from : calls (state_of (record_of q₀)) cs ≡ q = ap (λ (p : State). calls p cs) start in
    let k = list_kept N (of_sound N n) cs in
    let before = holds_layout N n in
    let after = holds_layout M t.kept.sound in
    let n₀ = net_of_layout N n in
    let m₀ = net_of_layout M t.kept.sound in
    let bits : (ρ : Assignment) → output_bits (net_of (layout M)) ρ ≡ output_bits (net_of (layout N)) ρ =
    λ ρ. ap (λ (x : Net). output_bits x ρ) m₀ ∙ traced_agree N q n t ρ ∙ sym (ap (λ (x : Net). output_bits x ρ) n₀) in
    let inputs : (net_of (layout M)).inputs ≡ (net_of (layout N)).inputs =
    ap (λ (x : Net). x.inputs) m₀ ∙ k.same_inputs ∙ sym (ap (λ (x : Net). x.inputs) n₀) in
    let outputs : length (net_of (layout M)).outputs ≡ length (net_of (layout N)).outputs =
    ap (λ (x : Net). length x.outputs) m₀ ∙ k.same_outputs ∙ sym (ap (λ (x : Net). length x.outputs) n₀) in
    let counts = alike_of (net_of (layout N)) (net_of (layout M)) (sym inputs) (sym outputs) in
    let asked = questions (layout N) (layout M) (holds_sound (layout N) before) (holds_sound (layout M) after) counts in
    let same : Differ (net_of (layout N)) (net_of (layout M)) → ⊥ = λ d. d.2 (sym (bits (frame d.0))) in
    let r₀ = record_of q₀ in
    let net : (calls_on r₀ cs).network ≡ layout M = ap (λ (x : Record). x.network) e in
    record {
      sound_after = ap sound_whole e ∙ record_sound N q t;
      same_board = ap (λ (x : Network). x.board) net ∙ sym (net_of_board (layout M)) ∙ ap (λ (x : Net). x.board) m₀ ∙ k.same_board
          ∙ sym (ap (λ (x : Net). x.board) n₀) ∙ net_of_board (layout N);
      state_after = ap state_of e ∙ state_record N q t ∙ sym from;
      record_after = e ∙ sym (ap record_of from);
      same_bits = λ x h. ap (λ (z : Network). output_bits (net_of z) (frame x)) net ∙ bits (frame x);
      same_readings = λ x. ap (λ (z : Network). reading z x) net
          ∙ read_alike (layout N) (layout M) x (holds_sound (layout N) before) (holds_sound (layout M) after)
          (sym (inputs_of (layout M)) ∙ inputs ∙ inputs_of (layout N)) (bits (frame x));
      same_counts = ap (λ (z : Network). alike (net_of (layout N)) (net_of z)) net ∙ counts;
      asked = subst (QuestionClaim (layout N)) (sym net) asked;
      no_solution = λ ρ h. same (asked.decides.0 (ρ, subst (λ (z : Network). Solves ρ (question (net_of (layout N)) (net_of z))) net h));
      none_written = λ ρ h. same (asked.decides_written.0 (ρ, subst (λ (z : Network). SolvesWritten ρ (net_of (layout N)) (net_of z)) net h));
      never_23 = subst (λ (x : Record). (applied x Undo).code ≢ 23) (sym e) (undo_code N M q.steps t);
      taken_back = λ h. ap (undoing_on 65) e ∙ undo_end N M q.steps 65 t
          ∙ ap (λ (x : Ended). record { last = record_of x.state; code = x.code }) (k.taken_back (subst (λ (p : State). steps_accepted p cs ≤ 64) start h));
      each_call = call_claims N q₀ cs o;
    }

-- from the record of any file that a read accepts
pub accepted_claim : (file : List ℕ) → Bytes file → Accepted file → (cs : List Call) → ListClaim (just_read (loaded file).network) cs
unfolding just_read record_of just_opened
accepted_claim file bs e cs =
    let o = files.read_opened file e in
    let n = ap (λ (x : Loaded). x.network) (files.loaded_net file o) in
    let r : just_read (loaded file).network ≡ record_of (just_opened o.net) = λ x. record { network = n x; journal = empty_journal_lem x } in
    subst (λ (x : Record). ListClaim x cs) (sym r) (list_claim o.net cs (files.opened_sound file bs o))
