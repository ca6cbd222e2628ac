-- The claims on records hold. Of lists of calls only what `guarantees` claims of them is used. Assumes nothing.
use Rattle.std.specs.Prelude.{◌≡◌, Bool, true, false, List, ℕ, ◌^◌, ◌<◌, length, get_or, take}
use Rattle.std.proofs.Math.Path.{sym}
use Rattle.std.proofs.Common.{ap, ◌∙◌}
use Rattle.basics.specs.TestLaws.{T_is, is_true, refuted}
use Rattle.network.specs.Threshold.{Net, frame, fits_frame, output_bits, digit}
use Rattle.network.specs.Record.{net_of, sound_record}
use Rattle.network.specs.RecordLaws.{sound_net}
use Rattle.network.specs.declared.Network.{Network}
use Rattle.call_theory.specs.declared.Call.{Call}
use Rattle.journal.proofs.AnswerLaws.{whole_network}
use Rattle.journal.specs.Records.{just_read}
use Rattle.journal.specs.declared.Record.{Record}
use Rattle.question_theory.specs.Question.{alike}
use Rattle.question_theory.specs.Demand.{differs}
use Rattle.question_theory.proofs.FrameLaws.{fits_below}
use Rattle.question_theory.proofs.AlikeLaws.{alike_inputs, alike_outputs, alike_of}
use Rattle.question_theory.proofs.SolutionLaws.{differs_one}
use Rattle.pmn_format.specs.Format.{Bytes}
use Rattle.pmn_reader.specs.Answers.{loaded}
use Rattle.guarantees.specs.Files.{Accepted}
use Rattle.guarantees.specs.Lists.{calls_on, ListClaim}
use Rattle.guarantees.proofs.ListLaws.{inputs_of, accepted_claim}
use Rattle.question_count.proofs.SumLaws.{sum_below_none}
use Rattle.question_count.specs.Counting.{differences, ways, CountClaim}
use Rattle.question_count.proofs.OnceLaws.{count_claim}
use Rattle.question_count.specs.Claims.{SolutionsCounted, MomentClaim}

-- ---- any two records with equal counts
pub counts : (a b : Network) → SolutionsCounted a b
counts a b ea eb e = count_claim (net_of a) (net_of b) (sound_net a (T_is (sound_record a) ea)) (sound_net b (T_is (sound_record b) eb))
    (alike_inputs (net_of a) (net_of b) e) (alike_outputs (net_of a) (net_of b) e)

-- ---- networks whose outputs never differ
no_difference : (N M : Net) (x : ℕ) → output_bits N (frame x) ≡ output_bits M (frame x) → differences N M x ≡ 0
unfolding differences differs
no_difference N M x e = sum_below_none (length N.outputs) _ λ j h.
    ap digit (refuted (differs N M (frame x) j) λ t. (differs_one _ _).0 t (ap (λ (bs : List Bool). get_or bs j false) e))

pub no_ways : (N M : Net) → ((x : ℕ) → x < 2 ^ N.inputs → output_bits N (frame x) ≡ output_bits M (frame x)) → ways N M ≡ 0
unfolding ways
no_ways N M e = sum_below_none (2 ^ N.inputs) _ λ x h. rw (no_difference N M x (e x h))

-- ---- two moments of one list of calls
module _ (r : Record) (cs ds : List Call) (p : ListClaim r cs) (q : ListClaim r ds) where
  first : Net
  first = net_of (calls_on r cs).network

  second : Net
  second = net_of (calls_on r ds).network

  counts_kept : alike first second ≡ true
  unfolding first second
  counts_kept = alike_of first second
      (sym (alike_inputs (net_of r.network) first p.same_counts) ∙ alike_inputs (net_of r.network) second q.same_counts)
      (sym (alike_outputs (net_of r.network) first p.same_counts) ∙ alike_outputs (net_of r.network) second q.same_counts)

  -- every frame of the first is one of r's
  fits : (x : ℕ) → x < 2 ^ first.inputs → fits_frame r.network.inputs x ≡ true
  unfolding first
  fits x h = is_true (fits_frame r.network.inputs x) ((fits_below r.network.inputs x).1 (rw inputs at h))
    where
      inputs : (net_of (calls_on r cs).network).inputs ≡ r.network.inputs
      inputs = sym (alike_inputs (net_of r.network) (net_of (calls_on r cs).network) p.same_counts) ∙ inputs_of r.network

  kept_claim : CountClaim first second
  unfolding first second
  kept_claim = counts (calls_on r cs).network (calls_on r ds).network
      (whole_network (calls_on r cs) p.sound_after) (whole_network (calls_on r ds) q.sound_after) counts_kept

  kept_ways : ways first second ≡ 0
  unfolding first second
  kept_ways = no_ways first second λ x h. p.same_bits x (fits x h) ∙ sym (q.same_bits x (fits x h))

pub moment_claim : (file : List ℕ) → Bytes file → Accepted file → (cs : List Call) (k l : ℕ) → MomentClaim (just_read (loaded file).network) cs k l
unfolding first second
moment_claim file bs e cs k l =
    let r = just_read (loaded file).network in
    let p = accepted_claim file bs e (take k cs) in
    let q = accepted_claim file bs e (take l cs) in
    let claim = kept_claim r (take k cs) (take l cs) p q in
    let no_way = kept_ways r (take k cs) (take l cs) p q in
    record { same_counts = counts_kept r (take k cs) (take l cs) p q; claim = claim; no_way = no_way; no_solution = claim.counted ∙ no_way }
