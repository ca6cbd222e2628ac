-- The claims on records hold of every answer that meets the promise. Assumes nothing.
use Rattle.std.specs.Prelude.{◌≡◌, refl, Bool, true, cond, ◌&&◌, ◌≢◌, ◌↔◌, [], ◌∷◌, ℕ, zero, suc, ◌^◌, ◌≤◌, ◌<◌, T, leb}
use Rattle.std.proofs.Common.{sym, ap, ◌∙◌, subst, arith}
use Rattle.std.proofs.Math.Bool.{false}
use Rattle.basics.specs.Refusals.{Answer, accepted, refused, ◌else◌, checks}
use Rattle.basics.specs.TestLaws.{T_is, is_true, and_left, and_right, test_case, is_false}
use Rattle.network.specs.Threshold.{Net, frame, fits_frame, output_bits}
use Rattle.network.specs.Record.{net_of, sound_record}
use Rattle.network.specs.RecordLaws.{sound_net}
use Rattle.network.specs.declared.Network.{Network}
use Rattle.frame_reading.specs.Reading.{frame_answer, as_reading, reading}
use Rattle.question_theory.specs.Question.{alike}
use Rattle.question_theory.specs.Demand.{Decides, DecidesWritten, Differ}
use Rattle.question_theory.proofs.AlikeLaws.{alike_inputs, alike_outputs}
use Rattle.question_theory.proofs.FrameLaws.{fits_below}
use Rattle.question_theory.proofs.SolutionLaws.{question_decides}
use Rattle.question_theory.proofs.MeaningLaws.{decides_written}
use Rattle.question_count.specs.Counting.{ways}
use Rattle.question_count.proofs.ClaimLaws.{counts, no_ways}
use Rattle.journal.specs.Records.{tested, sound_whole}
use Rattle.journal.specs.declared.Record.{Record}
use Rattle.journal_calls.specs.Answers.{compared_on, CompareOn}
use Rattle.compare_theory.specs.Verdicts.{Verdict, Pair, pair_of, comparable}
use Rattle.compare_networks.specs.Answers.{compare_answer, ComparedAs}
use Rattle.compare_networks.specs.AnswerLaws.{compared_unlike, compared_like}
use Rattle.compare_networks.specs.declared.Compared.{Compared}
use Rattle.compare_claims.specs.Claims.{QuestionAnswered, VerdictClaim, CompareClaim}

-- ---- the tests of both records
tests : (s t p q : Bool) (x : Answer Pair) → checks ((p else 20) ∷ []) (checks ((q else 20) ∷ []) (checks ((s && t else 20) ∷ []) x))
    ≡ cond ((s && p) && (t && q)) x (refused 20)
unfolding checks
tests true true true true x = refl
tests true true true false x = refl
tests true true false q x = refl
tests true false true true x = refl
tests true false true false x = refl
tests true false false q x = refl
tests false t true true x = refl
tests false t true false x = refl
tests false t false q x = refl

pub compared_is : (a b : Record) → compared_on a b ≡ cond (sound_whole a && sound_whole b) (comparable (net_of a.network) (net_of b.network)) (refused 20)
unfolding compared_on tested compare_answer sound_whole
compared_is a b = tests (sound_record a.network) (sound_record b.network) (leb a.journal.count 64) (leb b.journal.count 64) _

-- ---- two readings of one number
module _ (a b : Network) (first : sound_record a ≡ true) (second : sound_record b ≡ true) (inputs : a.inputs ≡ b.inputs) (x : ℕ) where
  read_same : output_bits (net_of a) (frame x) ≡ output_bits (net_of b) (frame x) → reading a x ≡ reading b x
  unfolding reading frame_answer checks
  read_same e = rw (first, second, e, inputs)

  read_refused : fits_frame a.inputs x ≡ false → reading a x ≡ reading b x
  unfolding reading frame_answer checks
  read_refused e = let f : fits_frame b.inputs x ≡ false = rw inputs at e in rw (first, second, e, f)

-- ---- a verdict in the words of the question
module _ (a b : Network) (first : sound_record a ≡ true) (second : sound_record b ≡ true) (like : alike (net_of a) (net_of b) ≡ true) where
  abbrev N : Net
  N = net_of a

  abbrev M : Net
  M = net_of b

  inputs : N.inputs ≡ M.inputs
  inputs = alike_inputs N M like

  decides : Decides N M
  decides = question_decides N M (sound_net a (T_is (sound_record a) first)) (sound_net b (T_is (sound_record b) second)) inputs (alike_outputs N M like)

  written : DecidesWritten N M
  written = decides_written N M (sound_net a (T_is (sound_record a) first)) (sound_net b (T_is (sound_record b) second)) inputs decides

  module _ {budget verdict x steps : ℕ} (v : Verdict N M budget verdict x steps) where
    never : verdict ≡ 0 → Differ N M → ⊥
    never e d = d.2 (v.alike e d.0 (is_true _ ((fits_below N.inputs d.0).1 d.1)))

    some_frame : verdict ≡ 1 → Differ N M
    some_frame e = let p = v.apart e in (x, (fits_below N.inputs x).0 (T_is _ p.fits), p.differ)

    -- 0 or 1
    cases : (P : Type 0) → N.inputs ≤ 20 → (verdict ≡ 0 → P) → (verdict ≡ 1 → P) → P
    cases P few f g = pick verdict refl v.one_of_three (v.decided few)
      where
        pick : (n : ℕ) → verdict ≡ n → n ≤ 2 → n ≢ 2 → P
        pick zero e l d = f e
        pick (suc zero) e l d = g e
        pick (suc (suc zero)) e l d = absurd (d refl)
        pick (suc (suc (suc n))) e l d = absurd (omega arith)

    question_answered : QuestionAnswered N M verdict
    question_answered = record {
      unsolved = λ e s. never e (decides.0 s);
      unsolved_written = λ e ρ s. never e (written.0 (ρ, s));
      no_way = no_way;
      no_solution = λ e. (counts a b first second like).counted ∙ no_way e;
      solved = λ e. decides.1 (some_frame e);
      solved_written = λ e. written.1 (some_frame e);
      apart_exactly = λ few. (some_frame, λ d. cases (verdict ≡ 1) few (λ e. absurd (never e d)) (λ e. e));
      alike_exactly = λ few. (never, λ n. cases (verdict ≡ 0) few (λ e. e) (λ e. absurd (n (some_frame e))));
    }
      where
        no_way : verdict ≡ 0 → ways N M ≡ 0
        no_way e = no_ways N M λ y l. v.alike e y (is_true _ ((fits_below N.inputs y).1 l))

  -- ---- the answer
  own_inputs : a.inputs ≡ b.inputs
  unfolding net_of
  own_inputs = inputs

  -- the same bits are read as the same answer, and a frame that does not fit is refused by both
  readings : ((x : ℕ) → fits_frame a.inputs x ≡ true → output_bits N (frame x) ≡ output_bits M (frame x)) → (x : ℕ) → reading a x ≡ reading b x
  readings h x = test_case (fits_frame a.inputs x) (λ t. fitting (is_true _ t)) (λ t. too_long (is_false _ t))
    where
      fitting : fits_frame a.inputs x ≡ true → reading a x ≡ reading b x
      fitting e = read_same a b first second own_inputs x (h x e)

      too_long : fits_frame a.inputs x ≡ false → reading a x ≡ reading b x
      too_long e = read_refused a b first second own_inputs x e

  pub verdict_claim : {budget : ℕ} {r : Compared} → (r.code ≡ 0) × Verdict N M budget r.verdict r.frame r.steps → VerdictClaim a b budget r
  unfolding net_of
  verdict_claim h = let v = h.1 in record {
    code = h.0;
    same_bits = v.alike;
    same_readings = λ e. readings (v.alike e);
    fits = λ e. (v.apart e).fits;
    differ = λ e. (v.apart e).differ;
    decided = v.decided;
    few_steps = v.few_steps;
    question = question_answered v;
  }

-- ---- the claim
module _ (a b : Record) (budget : ℕ) (r : Compared) (h : CompareOn a b budget r) where
  abbrev both : Bool
  both = sound_whole a && sound_whole b

  -- the answer where both are sound, or where one is not
  when : (s : Bool) → both ≡ s → ComparedAs (cond s (comparable (net_of a.network) (net_of b.network)) (refused 20)) budget r
  when s e = subst (λ (x : Answer Pair). ComparedAs x budget r)
      (compared_is a b ∙ ap (λ (t : Bool). cond t (comparable (net_of a.network) (net_of b.network)) (refused 20)) e) h

  sound_first : both ≡ true → sound_record a.network ≡ true
  unfolding sound_whole
  sound_first e = and_left (sound_record a.network) _ (and_left (sound_whole a) (sound_whole b) e)

  sound_second : both ≡ true → sound_record b.network ≡ true
  unfolding sound_whole
  sound_second e = and_left (sound_record b.network) _ (and_right (sound_whole a) (sound_whole b) e)

  pub compare_claim : CompareClaim a b budget r
  compare_claim = record {
    broken = when false;
    unlike = λ s l. subst (λ (x : Answer Pair). ComparedAs x budget r) (unlike_is l) (when true s);
    verdict = λ s l. verdict_claim a.network b.network (sound_first s) (sound_second s) l
        (subst (λ (x : Answer Pair). ComparedAs x budget r) (like_is l) (when true s));
  }
    where
      unlike_is : alike (net_of a.network) (net_of b.network) ≡ false → comparable (net_of a.network) (net_of b.network) ≡ refused 19
      unlike_is l = compared_unlike (net_of a.network) (net_of b.network) l

      like_is : alike (net_of a.network) (net_of b.network) ≡ true
          → comparable (net_of a.network) (net_of b.network) ≡ accepted (pair_of (net_of a.network) (net_of b.network))
      like_is l = compared_like (net_of a.network) (net_of b.network) l
