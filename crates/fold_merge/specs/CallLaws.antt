-- Laws of a merge, and of any call on two gates, on a record: the answer by the number of the first test that fails. Assumes nothing.
use Rattle.std.specs.Prelude.{◌≡◌, refl, true, false, ℕ, T, Result, Ok, Err, IsErrAnd}
use Rattle.std.proofs.Common.{sym, ◌∙◌, subst}
use Rattle.std.proofs.Math.Path.{ap}
use Rattle.std.proofs.lemmas.Result.{err_from_is_err_and}
use native.Mathlib.Omega.{arith}
use Rattle.basics.specs.Refusals.{Answer, accepted, refused, checks, code_of, Passed}
use Rattle.basics.specs.RefusalLaws.{passed_checks}
use Rattle.basics.specs.TestLaws.{is_true, T_is, T_and, and_left}
use Rattle.network.specs.Threshold.{Gate}
use Rattle.network.specs.Limits.{scale_ok, sound, is_gate}
use Rattle.network.specs.Changes.{with_gate}
use Rattle.network.specs.Record.{net_of, sound_record, spare_clear, gate_in, gate_record}
use Rattle.network.specs.Places.{SoundGate}
use Rattle.network.specs.SoundLaws.{sound_board}
use Rattle.network.specs.PlaceLaws.{gate_in_gate_record}
use Rattle.network.specs.declared.Network.{Network}
use Rattle.network.specs.declared.GateRecord.{GateRecord}
use Rattle.fold_theory.specs.Merge.{Edge, edge, merged, agrees, merge_keeps, on_dial, feed_tests, limits, merge}
use Rattle.fold_theory.proofs.LimitLaws.{PairSearched, narrow_few}
use Rattle.fold_theory.proofs.PairLaws.{dial_of}
use Rattle.fold_theory.proofs.SoundLaws.{merged_ok}
use Rattle.fold_theory.proofs.AlignedLaws.{EdgeOk}
use Rattle.pair_theory.specs.Alignments.{alignment_of, merged_of, AlignmentOnScale, Mergeable}
use Rattle.pair_theory.specs.declared.Alignment.{Alignment}
use Rattle.pair_theory.proofs.AlignmentLaws.{aligned_fair, merged_is, mergeable}
use Rattle.fold_readers.specs.Arrays.{SoundGates}
use Rattle.fold_readers.specs.ArrayLaws.{lent_of}
use Rattle.fold_edges.specs.Edges.{edge_in, edge_at, GateReads, ReadsIn}
use Rattle.fold_edges.specs.Codes.{first_failing, edge_tests, edge_tests_in, edge_tests_at}
use Rattle.fold_edges.specs.CodeLaws.{code_passed, code_refused, code_checks}
use Rattle.fold_edges.specs.EdgeLaws.{joined_of, joined_ok, edge_is, tests_are}
use Rattle.fold_merge.specs.Answers.{on_record, merge_code}
use Rattle.fold_merge.specs.Codes.{MergesTo, TriedMerge, merge_tests}
use Rattle.refusals.specs.Numbers.{number_of}
use Rattle.refusals.specs.declared.Refusal.{Refusal}

-- a call on two gates of a record, of which u feeds v
abbrev pub on_gates : {A : Type 0} → (Edge → Answer A) → Network → ℕ → ℕ → Answer A
on_gates call r u v = on_record r (λ N. checks (feed_tests N u v) (call (edge N u v)))

-- ---- a record that is not sound
module _ (r : Network) (s : sound_record r ≡ false) where
  pub call_broken : {A : Type 0} (call : Edge → Answer A) (u v : ℕ) → on_gates call r u v ≡ refused 20
  unfolding on_record checks
  call_broken call u v = rw s

  pub merge_broken : (u v k l : ℕ) → merge_code r u v k l ≡ 20
  unfolding merge_code on_record checks code_of
  merge_broken u v k l = rw s

-- ---- a sound record
module _ (r : Network) (s : sound_record r ≡ true) (u v : ℕ) where
  sound_is : sound (net_of r) ≡ true
  unfolding sound_record
  sound_is = and_left (sound (net_of r)) (spare_clear r) s

  call_sound : {A : Type 0} (call : Edge → Answer A) → on_gates call r u v ≡ checks (edge_tests (net_of r) u v) (call (edge (net_of r) u v))
  unfolding on_record feed_tests edge_tests checks
  call_sound call = rw (s, sound_is)

  merge_sound : (k l : ℕ) → merge (net_of r) u v k l
      ≡ checks (edge_tests (net_of r) u v) (checks (merge_tests (edge (net_of r) u v) k l) (accepted (with_gate (net_of r) v (merged (edge (net_of r) u v) k l))))
  unfolding merge limits edge_tests merge_tests checks
  merge_sound k l = rw sound_is

  -- the merge's own number
  code_sound : (k l : ℕ) → merge_code r u v k l ≡ code_of (merge (net_of r) u v k l)
  unfolding merge_code on_record checks
  code_sound k l = rw s

  -- the number of the first test of u and v that fails
  module _ (n : ℕ) (same : n ≡ first_failing (edge_tests_in r.fanins r.thresholds r.signals r.weights r.inputs r.gates u v)) where
    number_is : n ≡ first_failing (edge_tests (net_of r) u v)
    number_is = same ∙ tests_are r u v

    -- 11 or 12
    module _ (other : n ≡ 0 → ⊥) where
      pub call_apart : {A : Type 0} (call : Edge → Answer A) → on_gates call r u v ≡ refused n
      call_apart call =
          call_sound call ∙ code_refused (edge_tests (net_of r) u v) (call (edge (net_of r) u v)) (λ e. other (number_is ∙ e)) ∙ ap refused (sym number_is)

      pub merge_apart : (k l : ℕ) → merge (net_of r) u v k l ≡ refused n
      merge_apart k l = merge_sound k l ∙ code_refused (edge_tests (net_of r) u v) _ (λ e. other (number_is ∙ e)) ∙ ap refused (sym number_is)

      pub code_apart : (k l : ℕ) → merge_code r u v k l ≡ n
      unfolding code_of
      code_apart k l = code_sound k l ∙ ap code_of (merge_apart k l)

    -- u feeds v
    module _ (none : n ≡ 0) where
      pub apart_none : GateReads r.fanins r.thresholds r.signals r.weights r.inputs r.gates u v
      unfolding edge_tests_in
      apart_none = joined_of r.fanins r.thresholds r.signals r.weights r.inputs r.gates u v
          (code_passed (edge_tests_in r.fanins r.thresholds r.signals r.weights r.inputs r.gates u v) (omega arith, (omega arith, tt))
          (sym same ∙ none))

      feeds : Passed (edge_tests (net_of r) u v)
      unfolding edge_tests
      feeds = code_passed (edge_tests (net_of r) u v) (omega arith, (omega arith, tt)) (sym number_is ∙ none)

      pub apart_gate : SoundGate r v
      unfolding edge_tests
      apart_gate = record { sound = s; gate = is_true (is_gate (net_of r) v) (T_and (is_gate (net_of r) u) (is_gate (net_of r) v) feeds.0).1 }

      abbrev here : Edge
      here = edge_in r.board r.fanins r.thresholds r.signals r.weights r.inputs u v

      pub here_is : here ≡ edge (net_of r) u v
      here_is = edge_is r u v apart_none.u_gate apart_none.v_gate

      pub call_joined : {A : Type 0} (call : Edge → Answer A) → on_gates call r u v ≡ call here
      call_joined call = call_sound call ∙ passed_checks (edge_tests (net_of r) u v) (call (edge (net_of r) u v)) feeds ∙ ap call (sym here_is)

      merge_joined : (k l : ℕ) → merge (net_of r) u v k l ≡ checks (merge_tests here k l) (accepted (with_gate (net_of r) v (merged here k l)))
      merge_joined k l = merge_sound k l ∙ passed_checks (edge_tests (net_of r) u v) _ feeds
          ∙ ap (λ (e : Edge). checks (merge_tests e k l) (accepted (with_gate (net_of r) v (merged e k l)))) (sym here_is)

      -- the merge's number is that of its first test that fails
      pub merge_number_lem : (k l : ℕ) → merge_code r u v k l ≡ first_failing (merge_tests here k l)
      merge_number_lem k l = code_sound k l ∙ ap code_of (merge_joined k l) ∙ code_checks (merge_tests here k l) (with_gate (net_of r) v (merged here k l))

      -- 14, 7, 6, 24 or 15
      pub merge_refused : (k l m : ℕ) → m ≡ first_failing (merge_tests here k l) → (m ≡ 0 → ⊥) → merge (net_of r) u v k l ≡ refused m
      merge_refused k l m e h = merge_joined k l ∙ code_refused (merge_tests here k l) _ (λ z. h (e ∙ z)) ∙ ap refused (sym e)

      pub merge_accepted : (k l : ℕ) → Passed (merge_tests here k l) → merge (net_of r) u v k l ≡ accepted (with_gate (net_of r) v (merged here k l))
      merge_accepted k l p = merge_joined k l ∙ passed_checks (merge_tests here k l) _ p

-- ---- a sound record, whose tests of u and v hold
module _ (r : Network) (s : sound_record r ≡ true) where
  pub sound_gates : SoundGates r
  sound_gates = lent_of r (T_is _ s)

  module _ (u v : ℕ) (passes : 0 ≡ first_failing (edge_tests_at r u v)) where
    pub reads_in : ReadsIn r u v
    reads_in = apart_none r s u v 0 passes refl

    pub edge_fits : EdgeOk (edge_at r u v)
    edge_fits = joined_ok sound_gates reads_in (sound_board r s)

    -- the two gates by their distinct feeds
    pub edge_fair : {a : Alignment} → a ≡ alignment_of (edge_at r u v) → AlignmentOnScale a
    edge_fair e = subst AlignmentOnScale (sym e) (aligned_fair (edge_at r u v) edge_fits)

-- ---- where the tests of a merge hold
pub merge_passed : (e : Edge) (k l m : ℕ) → m ≡ first_failing (merge_tests e k l) → m ≡ 0 → Passed (merge_tests e k l)
unfolding merge_tests
merge_passed e k l m same none = code_passed (merge_tests e k l) (omega arith, (omega arith, (omega arith, (omega arith, (omega arith, tt))))) (sym same ∙ none)

-- the tests as facts, each by its name
pub record MergeFits (e : Edge) (k l : ℕ) : Type 0 where
  pub searched : PairSearched e
  pub k_dial : T (on_dial k)
  pub l_dial : T (on_dial l)
  pub scaled : T (scale_ok (merged e k l))
  pub kept : T (merge_keeps e k l)
  pub agreed : T (agrees e k l)

pub merge_fits : (e : Edge) (k l : ℕ) → Passed (merge_tests e k l) → MergeFits e k l
unfolding merge_tests
merge_fits e k l p = let d = T_and (on_dial k) (on_dial l) p.0 in record {
  searched = record { is_narrow = p.1.0 };
  k_dial = d.0;
  l_dial = d.1;
  scaled = p.1.1.0;
  kept = p.1.1.1.0;
  agreed = p.1.1.1.1.0;
}

module _ (e : Edge) (k l : ℕ) (f : MergeFits e k l) where
  -- the merged gate can be made
  pub fits_mergeable : EdgeOk e → Mergeable (alignment_of e) k l
  fits_mergeable ok = mergeable e k l ok (narrow_few e f.searched.is_narrow) (dial_of k f.k_dial).1 (dial_of l f.l_dial).1

  -- it is made of the aligned gates, and its places stand for it
  pub fits_gate : (g : GateRecord) → g ≡ gate_record (merged_of (alignment_of e) k l) → (g ≡ gate_record (merged e k l)) × (gate_in g ≡ merged e k l)
  fits_gate g same =
      let few = narrow_few e f.searched.is_narrow in
      let is = same ∙ ap gate_record (merged_is e k l few) in
      (is, ap gate_in is ∙ gate_in_gate_record (merged e k l) (merged_ok e k l few f.scaled).few)

-- ---- what a merge would put in the place of v
module _ (r : Network) (u v k l : ℕ) where
  pub tried_refused : (m : Result GateRecord Refusal) (e : Refusal) → m ≡ Err e → merge (net_of r) u v k l ≡ refused (number_of e) → TriedMerge r u v k l m
  tried_refused m e q h = record {
    refuses = λ d p. h ∙ ap (λ (x : Refusal). refused (number_of x)) (let same : e ≡ d = cc in same);
    merges = λ gate p. let no : ⊥ = cc in absurd no;
  }

  pub tried_gate : (g : GateRecord) (x : Gate) → g ≡ gate_record x → gate_in g ≡ x → SoundGate r v → merge (net_of r) u v k l ≡ accepted (with_gate (net_of r) v x)
      → TriedMerge r u v k l (Ok g)
  tried_gate g x e i own h = record {
    refuses = λ d p. let no : ⊥ = cc in absurd no;
    merges = λ gate p. let same : g ≡ gate = cc in subst (MergesTo r u v k l) same (record {
      accepts = h ∙ ap (λ (y : Gate). accepted (with_gate (net_of r) v y)) (sym i);
      own = own;
      packed = e ∙ ap gate_record (sym i);
    });
  }
