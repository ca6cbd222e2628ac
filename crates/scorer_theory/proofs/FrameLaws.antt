-- Scores go to finished frames only, and to all ten once the game is over. Assumes nothing.
use Rattle.std.specs.Prelude.{◌≡◌, refl, List, [], ◌∷◌, ◌≢◌, ℕ, suc, ◌+◌, ◌-◌, ◌≤◌, ◌<◌, length, drop}
use Rattle.std.proofs.Common.{ap, arith, length-drop}
use Rattle.std.proofs.Math.Decide.{dec_lt, ℕ_discrete}
use Rattle.scorer_theory.specs.Scores.{frame_score, scores_from}
use Rattle.scorer_theory.specs.Frames.{TenthGoing, after_strike, after_strike_ball, after_spare, TenthDone, open_frame, spare_ball}
use Rattle.scorer_theory.specs.Frames.{strike_balls, Frames, no_ball, one_ball_lem, strike, two_balls_lem, tenth_going, tenth_done}
use Rattle.scorer_theory.proofs.ScoreLaws.{scores_known, scores_unknown, FrameTakes, takes_strike, takes_spare, takes_open}

-- the frames k to 10 of a list of balls that runs up to frame e: no score goes to a frame that is not finished, and all have theirs at
-- the game's end, which takes two balls or more
pub record ScoredTo (k e s : ℕ) (balls : List ℕ) : Type 0 where
  pub only : k + length (scores_from (11 - k) s balls) ≤ e
  pub all : e ≡ 11 → k + length (scores_from (11 - k) s balls) ≡ 11
  pub thrown : e ≡ 11 → 2 ≤ length balls

module _ {bs : List ℕ} {own all : ℕ} (t : FrameTakes bs own all) where
  -- one frame's score, or none
  many_known : (n s : ℕ) → all ≤ length bs → length (scores_from (suc n) s bs) ≡ suc (length (scores_from n (s + frame_score bs) (drop own bs)))
  many_known n s h = rw t.own (ap length (scores_known n s bs (omega (arith, t.all))))

  many_unknown : (n s : ℕ) → length bs < all → length (scores_from (suc n) s bs) ≡ 0
  many_unknown n s h = ap length (scores_unknown n s bs (omega (arith, t.all)))

  -- a frame that is not finished has no score
  scored_none : (k s : ℕ) → k ≤ 10 → length bs < all → ScoredTo k k s bs
  scored_none k s h l =
      let z : length (scores_from (11 - k) s bs) ≡ 0 = rw (let e : 11 - k ≡ suc (10 - k) = omega arith in e) (many_unknown (10 - k) s l) in
      record { only = omega arith; all = λ e. absurd (omega arith); thrown = λ e. absurd (omega arith) }

  -- a finished frame before the others; its bonus is at most two balls
  scored_more : (k e s : ℕ) → k < 10 → all ≤ own + 2 → own ≤ length bs → ((s' : ℕ) → ScoredTo (suc k) e s' (drop own bs)) → ScoredTo k e s bs
  scored_more k e s h b o next =
      let eleven : 11 - k ≡ suc (11 - suc k) = omega arith in
      let long = length-drop own bs in
      elim (dec_lt (length bs) all) as (λ d. ScoredTo k e s bs) [
        | yes l ↦
            let n = next s in
            let z : length (scores_from (11 - k) s bs) ≡ 0 = rw eleven (many_unknown (11 - suc k) s l) in
            record { only = omega (arith, n.only); all = λ q. let w = n.thrown q in absurd (omega arith); thrown = λ q. let w = n.thrown q in omega arith }
        | no l ↦
            let n = next (s + frame_score bs) in
            let z : length (scores_from (11 - k) s bs) ≡ suc (length (scores_from (11 - suc k) (s + frame_score bs) (drop own bs))) =
            rw eleven (many_known (11 - suc k) s (omega arith)) in
            record { only = omega (arith, n.only); all = λ q. let w = n.all q in omega arith; thrown = λ q. let w = n.thrown q in omega arith }
      ]

-- the tenth frame once all its balls are thrown
scored_last : (bs : List ℕ) {own all : ℕ} → FrameTakes bs own all → (k s : ℕ) → k ≡ 10 → 2 ≤ all → all ≤ length bs → ScoredTo k 11 s bs
unfolding scores_from
scored_last bs t k s e b h =
    let one : 11 - k ≡ suc 0 = omega arith in
    let z : length (scores_from (11 - k) s bs) ≡ 1 = rw one (many_known t 0 s h) in
    record { only = omega arith; all = λ q. omega arith; thrown = λ q. omega arith }

not_ten : (a : ℕ) → a < 10 → a ≢ 10
not_ten a h e = omega arith

scored_one : (k s a : ℕ) → k ≤ 10 → a < 10 → ScoredTo k k s (a ∷ [])
scored_one k s a h l = elim (ℕ_discrete (a + 0) 10) as (λ d. ScoredTo k k s (a ∷ [])) [
  | yes q ↦ scored_none (takes_spare (a ∷ []) (not_ten a l) q) k s h (omega arith)
  | no q ↦ scored_none (takes_open (a ∷ []) (not_ten a l) q) k s h (omega arith)
]

scored_two : (k e s a b : ℕ) (bs : List ℕ) → k < 10 → a < 10 → ((s' : ℕ) → ScoredTo (suc k) e s' bs) → ScoredTo k e s (a ∷ b ∷ bs)
scored_two k e s a b bs h l next = elim (ℕ_discrete (a + b) 10) as (λ d. ScoredTo k e s (a ∷ b ∷ bs)) [
  | yes q ↦ scored_more (takes_spare (a ∷ b ∷ bs) (not_ten a l) q) k e s h (omega arith) (omega arith) next
  | no q ↦ scored_more (takes_open (a ∷ b ∷ bs) (not_ten a l) q) k e s h (omega arith) (omega arith) next
]

scored_going : (k s : ℕ) (bs : List ℕ) → k ≤ 10 → TenthGoing bs → ScoredTo k k s bs
scored_going k s bs h after_strike = scored_none (takes_strike (10 ∷ []) refl) k s h (omega arith)
scored_going k s bs h (after_strike_ball {b} l) = scored_none (takes_strike (10 ∷ b ∷ []) refl) k s h (omega arith)
scored_going k s bs h (after_spare {a} {b} l e) = scored_none (takes_spare (a ∷ b ∷ []) (not_ten a l) e) k s h (omega arith)

scored_done : (k s : ℕ) (bs : List ℕ) → k ≡ 10 → TenthDone bs → ScoredTo k 11 s bs
scored_done k s bs q (open_frame {a} {b} l) =
    scored_last (a ∷ b ∷ []) (takes_open (a ∷ b ∷ []) (λ e. omega arith) (λ e. omega arith)) k s q (omega arith) (omega arith)
scored_done k s bs q (spare_ball {a} {b} {c} l e m) =
    scored_last (a ∷ b ∷ c ∷ []) (takes_spare (a ∷ b ∷ c ∷ []) (not_ten a l) e) k s q (omega arith) (omega arith)
scored_done k s bs q (strike_balls {b} {c} o) =
    scored_last (10 ∷ b ∷ c ∷ []) (takes_strike (10 ∷ b ∷ c ∷ []) refl) k s q (omega arith) (omega arith)

pub frames_scored : {k e : ℕ} {bs : List ℕ} → Frames k bs e → k ≤ 10 → (s : ℕ) → ScoredTo k e s bs
frames_scored {k} no_ball h s = scored_none (takes_open [] (λ e. omega arith) (λ e. omega arith)) k s h (omega arith)
frames_scored {k} (one_ball_lem {a = a} l) h s = scored_one k s a h l
frames_scored {k} {e} (strike {balls = bs} l f) h s = scored_more (takes_strike (10 ∷ bs) refl) k e s l (omega arith) (omega arith) (frames_scored f l)
frames_scored {k} {e} (two_balls_lem {a = a} {b = b} {balls = bs} l m n f) h s = scored_two k e s a b bs l m (frames_scored f l)
frames_scored {k} {bs = bs} (tenth_going q t) h s = rw q (scored_going 10 s bs (omega arith) t)
frames_scored {k} {bs = bs} (tenth_done q t) h s = scored_done k s bs q t
