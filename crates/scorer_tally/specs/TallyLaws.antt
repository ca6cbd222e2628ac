-- Laws of the tally: a frame's count by its first three balls, and the frames in their order. Assumes nothing.
use Rattle.std.specs.Prelude.{◌≡◌, refl, List, [], ◌∷◌, ◌++◌, ◌≢◌, ℕ, suc, ◌+◌, ◌-◌, ◌≤◌, ◌<◌, length, get_or, set, take, drop, replicate}
use Rattle.std.proofs.Common.{sym, ap, ◌∙◌, append_assoc, append-nil, arith, length-append, length-drop, drop-drop}
use Rattle.std.proofs.Math.Decide.{dec_lt}
use Rattle.std.proofs.Math.ListN.{get_or-append, get_or-eq_default, length-replicate}
use Rattle.std.proofs.Math.Seq.{get_or-append_right, get_or-drop}
use Rattle.basics.specs.Lists.{places}
use Rattle.basics.specs.ListLaws.{tab_of, get_or_spare}
use Rattle.basics.specs.PlaceLaws.{places_none, places_last}
use Rattle.scorer_theory.specs.Scores.{counted_balls, total, frame_score, scores_from, running_scores}
use Rattle.scorer_theory.proofs.ScoreLaws.{FrameTakes, takes_strike, takes_spare, takes_open, scores_known, scores_unknown}
use Rattle.basics.specs.Refusals.{accepted}
use Rattle.scorer_tally.specs.Sheets.{as_sheet}
use Rattle.scorer_tally.specs.Tally.{as_scored, FrameCounted, Tallied, Scoring}
use Rattle.scorer_tally.specs.declared.Scored.{Scored}
use Rattle.scorer_tally.specs.declared.FrameCount.{FrameCount}

-- ---- one frame
-- the pins of the first two balls, and of the first three
total_two : (bs : List ℕ) → 2 ≤ length bs → total (take 2 bs) ≡ get_or bs 0 0 + get_or bs 1 0
unfolding total
total_two [] h = absurd (omega arith)
total_two (a ∷ []) h = absurd (omega arith)
total_two (a ∷ b ∷ bs) h = omega arith

total_three : (bs : List ℕ) → 3 ≤ length bs → total (take 3 bs) ≡ get_or bs 0 0 + get_or bs 1 0 + get_or bs 2 0
unfolding total
total_three [] h = absurd (omega arith)
total_three (a ∷ []) h = absurd (omega arith)
total_three (a ∷ b ∷ []) h = absurd (omega arith)
total_three (a ∷ b ∷ c ∷ bs) h = omega arith

-- the first balls of a list
pub record FirstBalls (balls : List ℕ) (first second third : ℕ) : Type 0 where
  pub one : (first ≡ get_or balls 0 0) × (first < 256)
  pub two : (second ≡ get_or balls 1 0) × (second < 256)
  pub three : (third ≡ get_or balls 2 0) × (third < 256)

module _ {bs : List ℕ} {a b c : ℕ} (o : FirstBalls bs a b c) where
  -- a frame that takes three balls, and one that takes two
  count_three : {own : ℕ} → FrameTakes bs own 3 → FrameCounted bs (record { own = own; counted = 3; score = a + b + c })
  unfolding frame_score
  count_three t = record {
    own = t.own;
    all = t.all;
    score = rw (← t.all) λ h. rw (o.one.0, o.two.0, o.three.0) (sym (total_three bs h));
    few = omega arith;
    small = omega arith;
  }

  count_two : FrameTakes bs 2 2 → FrameCounted bs (record { own = 2; counted = 2; score = a + b })
  unfolding frame_score
  count_two t = record {
    own = t.own;
    all = t.all;
    score = rw (← t.all) λ h. rw (o.one.0, o.two.0) (sym (total_two bs h));
    few = omega arith;
    small = omega arith;
  }

  pub count_strike : a ≡ 10 → FrameCounted bs (record { own = 1; counted = 3; score = a + b + c })
  count_strike e = count_three (takes_strike bs (sym o.one.0 ∙ e))

  pub count_spare : a ≢ 10 → a + b ≡ 10 → FrameCounted bs (record { own = 2; counted = 3; score = a + b + c })
  count_spare n e = count_three (takes_spare bs (λ q. n (o.one.0 ∙ q)) (omega (arith, o.one.0, o.two.0)))

  pub count_open : a ≢ 10 → a + b ≢ 10 → FrameCounted bs (record { own = 2; counted = 2; score = a + b })
  count_open n m = count_two (takes_open bs (λ q. n (o.one.0 ∙ q)) (λ q. m (omega (arith, o.one.0, o.two.0))))

-- ---- the frames in their order

scores_none : (n so_far : ℕ) (bs : List ℕ) → n ≡ 0 → scores_from n so_far bs ≡ []
unfolding scores_from
scores_none n so_far bs e = rw e

pub tallied_none : (balls : List ℕ) → Tallied balls [] balls 0
unfolding running_scores
tallied_none balls = record { small = omega arith; left = refl }

module _ {balls done rest : List ℕ} {so_far : ℕ} (t : Tallied balls done rest so_far) where
  -- no score is left: the scores are whole
  scores_whole : scores_from (10 - length done) so_far rest ≡ [] → done ≡ running_scores balls
  scores_whole none = sym (append-nil done) ∙ ap (λ (l : List ℕ). done ++ l) (sym none) ∙ t.left

  module _ {r : FrameCount} (c : FrameCounted rest r) (more : length done < 10) where
    pub tallied_next : r.counted ≤ length rest → Tallied balls (done ++ ((so_far + r.score) ∷ [])) (drop r.own rest) (so_far + r.score)
    tallied_next h =
        let all = done ++ ((so_far + r.score) ∷ []) in
        let many : length all ≡ length done + 1 = length-append done ((so_far + r.score) ∷ []) in
        let long : counted_balls rest ≤ length rest = omega (arith, c.all) in
        let turn : scores_from (10 - length done) so_far rest ≡ (so_far + r.score) ∷ scores_from (10 - length all) (so_far + r.score) (drop r.own rest) =
        ap (λ (k : ℕ). scores_from k so_far rest) (let e : 10 - length done ≡ suc (10 - length all) = omega (arith, many) in e)
        ∙ scores_known (10 - length all) so_far rest long
        ∙ rw (c.score long, c.own) in
        record {
          small = omega (arith, many, t.small, c.small);
          left = append_assoc done ((so_far + r.score) ∷ []) _ ∙ ap (λ (l : List ℕ). done ++ l) (sym turn) ∙ t.left;
        }

    -- the next frame is not known: the scores are whole
    pub tallied_stop : length rest < r.counted → done ≡ running_scores balls
    tallied_stop h =
        let short : length rest < counted_balls rest = omega (arith, c.all) in
        let none : scores_from (10 - length done) so_far rest ≡ [] =
        ap (λ (k : ℕ). scores_from k so_far rest) (let e : 10 - length done ≡ suc (9 - length done) = omega arith in e)
        ∙ scores_unknown (9 - length done) so_far rest short in
        scores_whole none

  -- ten frames are scored
  pub tallied_end : 10 ≤ length done → done ≡ running_scores balls
  tallied_end h = scores_whole (scores_none (10 - length done) so_far rest (omega arith))

-- ---- their scores in ten places

-- so many scores in ten places are the scores as the sheet gives them
pub stored_scores : (done : List ℕ) {scores : List ℕ} {frames : ℕ} → frames ≡ length done → scores ≡ places 10 0 done
    → record { frames = frames; scores = scores } ≡ as_scored done
unfolding as_scored
stored_scores done many stored = rw (many, stored)

pub scoring_none : (balls : List ℕ) → Scoring balls (replicate 10 0) balls 0 0
scoring_none balls =
    let t = tallied_none balls in
    record {
      done = [];
      many = refl;
      within = omega arith;
      at = 0;
      thrown = omega arith;
      next = refl;
      small = t.small;
      stored = places_none 10 0;
      left = t.left;
    }

module _ {balls scores rest : List ℕ} {frames so_far : ℕ} (s : Scoring balls scores rest frames so_far) where
  pub scoring_tallied : Tallied balls s.done rest so_far
  scoring_tallied = record { small = rw (← s.many) s.small; left = rw (← s.many) s.left }

  pub scoring_answer : s.done ≡ running_scores balls → record { frames = frames; scores = scores } ≡ as_scored (running_scores balls)
  scoring_answer e = stored_scores s.done s.many s.stored ∙ ap as_scored e

  module _ {r : FrameCount} (c : FrameCounted rest r) (more : frames < 10) where
    under_ten : length s.done < 10
    under_ten = omega (arith, more, s.many)

    pub scoring_next : r.counted ≤ length rest
        → Scoring balls (set scores frames (so_far + r.score)) (drop r.own rest) (frames + 1) (so_far + r.score)
    scoring_next h =
        let t = tallied_next scoring_tallied c under_ten h in
        let many : frames + 1 ≡ length (s.done ++ ((so_far + r.score) ∷ [])) = omega (arith, s.many, length-append s.done ((so_far + r.score) ∷ [])) in
        record {
          done = s.done ++ ((so_far + r.score) ∷ []);
          many = many;
          within = omega arith;
          at = s.at + r.own;
          thrown = omega (arith, s.thrown, c.own, c.all, ap length s.next, length-drop s.at balls);
          next = ap (drop r.own) s.next ∙ drop-drop r.own s.at balls;
          small = rw many t.small;
          stored = rw (s.stored, s.many) (places_last 10 0 s.done (so_far + r.score));
          left = rw many t.left;
        }

    -- the next frame is not known: the scores are whole
    pub scoring_stop : length rest < r.counted → s.done ≡ running_scores balls
    scoring_stop h = tallied_stop scoring_tallied c under_ten h

    pub scoring_stopped : length rest < r.counted → record { frames = frames; scores = scores } ≡ as_scored (running_scores balls)
    scoring_stopped h = scoring_answer (scoring_stop h)

  -- ten frames are scored
  pub scoring_end : 10 ≤ frames → s.done ≡ running_scores balls
  scoring_end h = tallied_end scoring_tallied (omega (arith, s.many))

pub scoring_ended : {balls scores rest : List ℕ} {frames so_far : ℕ} → Scoring balls scores rest frames so_far → frames ≡ 10
    → record { frames = 10; scores = scores } ≡ as_scored (running_scores balls)
scoring_ended s e = rw (sym e) (scoring_answer s (scoring_end s (omega arith)))

-- ---- the sheet

-- balls at the front of places that hold 0
pub places_copied : (n : ℕ) (xs : List ℕ) → length xs ≤ n → xs ++ drop (length xs) (replicate n 0) ≡ places n 0 xs
unfolding places
places_copied n xs h =
    let all = xs ++ drop (length xs) (replicate n 0) in
    let many : n ≡ length all = simp (length-append, length-drop, length-replicate) (omega arith) in
    sym (tab_of 0 n (λ i. get_or xs i 0) all many (λ i l. elim (dec_lt i (length xs)) as (λ _. get_or xs i 0 ≡ get_or all i 0) [
      | yes k ↦ sym (get_or-append xs _ 0 i k)
      | no k ↦
          sym (get_or-append_right xs (drop (length xs) (replicate n 0)) i 0 (omega arith)
          ∙ get_or-drop (length xs) (replicate n 0) (i - length xs) 0 ∙ get_or_spare n (length xs + (i - length xs)) 0
          ∙ sym (get_or-eq_default xs 0 {n = i} (omega arith)))
    ]))

-- the sheet of balls that are copied to the front, with their scores
pub sheet_made : (balls : List ℕ) {s : Scored} → length balls ≤ 21 → s ≡ as_scored (running_scores balls)
    → record {
      code = 0;
      balls = length balls;
      felled = balls ++ drop (length balls) (replicate 21 0);
      scored = s.frames;
      scores = s.scores;
    } ≡ as_sheet (accepted balls)
unfolding as_sheet as_scored
sheet_made balls h e = rw (places_copied 21 balls h, e)
