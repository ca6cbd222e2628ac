-- No score is above 300, and twelve strikes come to it. Assumes nothing.
use Rattle.std.specs.Prelude.{◌≡◌, refl, Bool, true, false, cond, List, [], ◌∷◌, ℕ, zero, suc, ◌+◌, ◌*◌, ◌≤◌, length, take, drop, replicate}
use Rattle.std.proofs.Common.{◌∙◌, inl, inr, arith, le→leb}
use Rattle.basics.specs.Lists.{Each}
use Rattle.basics.specs.ListLaws.{each_imp}
use Rattle.basics.specs.Refusals.{Answer, accepted, checks, bind}
use Rattle.basics.specs.RefusalLaws.{passed_checks}
use Rattle.basics.specs.TestLaws.{cond_case}
use Rattle.network.specs.Threshold.{Net, ones_of}
use Rattle.scorer_theory.specs.Rules.{Pins, fresh_rack, has_raised_pin, felled_by, first_frame, finished, rack_for, with_ball, next_game, ball, felled_from}
use Rattle.scorer_theory.specs.Scores.{is_strike, is_spare, own_balls, bonus_balls, counted_balls, is_known, total, frame_score, scores_from, running_scores}
use Rattle.scorer_theory.specs.NetworkGames.{pins_on, game}
use Rattle.scorer_theory.specs.Frames.{OnRacks, TenthGoing, after_strike, after_strike_ball, after_spare, TenthDone, open_frame, spare_ball}
use Rattle.scorer_theory.specs.Frames.{strike_balls, Frames, no_ball, one_ball_lem, strike, two_balls_lem, tenth_going, tenth_done}
use Rattle.scorer_theory.proofs.GrammarLaws.{game_made}
use Rattle.scorer_theory.specs.Highest.{Highest}

-- ---- a ball fells ten pins at most

abbrev AtMostTen : List ℕ → Type 0
AtMostTen balls = Each (λ n. n ≤ 10) balls

racks_ten : (a b : ℕ) → OnRacks a b → (a ≤ 10) × (b ≤ 10)
racks_ten a b (inl h) = (omega arith, omega arith)
racks_ten a b (inr h) = (omega arith, h.1)

going_ten : {bs : List ℕ} → TenthGoing bs → AtMostTen bs
going_ten after_strike = (omega arith, tt)
going_ten (after_strike_ball h) = (omega arith, (h, tt))
going_ten (after_spare h e) = (omega arith, (omega arith, tt))

done_ten : {bs : List ℕ} → TenthDone bs → AtMostTen bs
done_ten (open_frame h) = (omega arith, (omega arith, tt))
done_ten (spare_ball h e l) = (omega arith, (omega arith, (l, tt)))
done_ten (strike_balls {b} {c} o) = let h = racks_ten b c o in (omega arith, (h.0, (h.1, tt)))

frames_ten : {k e : ℕ} {bs : List ℕ} → Frames k bs e → AtMostTen bs
frames_ten no_ball = tt
frames_ten (one_ball_lem h) = (omega arith, tt)
frames_ten (strike h f) = (omega arith, frames_ten f)
frames_ten (two_balls_lem h l m f) = (omega arith, (omega arith, frames_ten f))
frames_ten (tenth_going q t) = going_ten t
frames_ten (tenth_done q t) = done_ten t

-- ---- a frame counts three balls at most

counted_few : (bs : List ℕ) → counted_balls bs ≤ 3
unfolding own_balls bonus_balls
counted_few bs = go (is_strike bs) (is_spare bs)
  where
    go : (a b : Bool) → cond a 1 2 + cond a 2 (cond b 1 0) ≤ 3
    go true b = omega arith
    go false true = omega arith
    go false false = omega arith

total_few : (n : ℕ) (bs : List ℕ) → AtMostTen bs → total (take n bs) ≤ 10 * n
unfolding total
total_few zero bs t = omega arith
total_few (suc n) [] t = omega arith
total_few (suc n) (b ∷ bs) t = omega (arith, t.0, total_few n bs t.1)

frame_few : (bs : List ℕ) → AtMostTen bs → frame_score bs ≤ 30
unfolding frame_score
frame_few bs t = omega (arith, total_few (counted_balls bs) bs t, counted_few bs)

tens_drop : (n : ℕ) (bs : List ℕ) → AtMostTen bs → AtMostTen (drop n bs)
tens_drop zero bs t = t
tens_drop (suc n) [] t = tt
tens_drop (suc n) (b ∷ bs) t = tens_drop n bs t.1

scores_few : (n s : ℕ) (bs : List ℕ) → AtMostTen bs → Each (λ x. x ≤ s + 30 * n) (scores_from n s bs)
unfolding scores_from
scores_few zero s bs t = tt
scores_few (suc n) s bs t =
    let f = frame_few bs t in
    let rest = drop (own_balls bs) bs in
    let more = scores_from n (s + frame_score bs) rest in
    cond_case (Each (λ x. x ≤ s + 30 * suc n)) (is_known bs) {x = (s + frame_score bs) ∷ more} {y = []}
    (λ k. (
      omega arith,
      each_imp (λ x. x ≤ s + frame_score bs + 30 * n) (λ x. x ≤ s + 30 * suc n) (λ x h. omega arith) more
          (scores_few n (s + frame_score bs) rest (tens_drop (own_balls bs) bs t)),
    ))
    (λ k. tt)

-- ---- twelve strikes

strikes : (pins : ℕ → Answer Pins) (x : ℕ) → pins x ≡ accepted (replicate 10 false) → felled_from pins first_frame (replicate 12 x) ≡ accepted (replicate 12 10)
unfolding checks bind ones_of fresh_rack has_raised_pin felled_by first_frame finished rack_for with_ball next_game ball felled_from
strikes pins x e = rw e

perfect : running_scores (replicate 12 10) ≡ 30 ∷ 60 ∷ 90 ∷ 120 ∷ 150 ∷ 180 ∷ 210 ∷ 240 ∷ 270 ∷ 300 ∷ []
unfolding is_strike is_spare own_balls bonus_balls is_known total frame_score scores_from running_scores
perfect = refl

pub highest_score : (net : Net) → Highest net
unfolding game running_scores
highest_score net = record {
  never_above = λ frames felled e. scores_few 10 0 felled (frames_ten (game_made net frames felled e));
  twelve_strikes = λ x h e. (passed_checks _ _ (le→leb 10 (length net.outputs) h, tt) ∙ strikes (pins_on net) x e, perfect);
}
