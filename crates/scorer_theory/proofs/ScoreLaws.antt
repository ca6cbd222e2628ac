-- Laws of the scores: the balls that count for a frame, and a frame that is known. Assumes nothing.
use Rattle.std.specs.Prelude.{◌≡◌, List, [], ◌∷◌, ◌≢◌, ℕ, suc, ◌+◌, ◌≤◌, ◌<◌, length, drop}
use borrow.Author.Tests.{eq-eqb, ne_eqb, le-leb, lt-leb}
use Rattle.std.proofs.Math.ListN.{get_or}
use Rattle.scorer_theory.specs.Scores.{is_strike, is_spare, own_balls, bonus_balls, counted_balls, is_known, frame_score, scores_from}

-- the balls of a frame, and those that count for it
pub record FrameTakes (balls : List ℕ) (n m : ℕ) : Type 0 where
  pub own : n ≡ own_balls balls
  pub all : m ≡ counted_balls balls

module _ (bs : List ℕ) where
  pub takes_strike : get_or bs 0 0 ≡ 10 → FrameTakes bs 1 3
  unfolding is_strike is_spare own_balls bonus_balls
  takes_strike e = let s = eq-eqb (get_or bs 0 0) 10 e in record { own = rw s; all = rw s }

  pub takes_spare : get_or bs 0 0 ≢ 10 → get_or bs 0 0 + get_or bs 1 0 ≡ 10 → FrameTakes bs 2 3
  unfolding is_strike is_spare own_balls bonus_balls
  takes_spare n e =
      let s = ne_eqb (get_or bs 0 0) 10 n in
      let p = eq-eqb (get_or bs 0 0 + get_or bs 1 0) 10 e in
      record { own = rw s; all = rw (s, p) }

  pub takes_open : get_or bs 0 0 ≢ 10 → get_or bs 0 0 + get_or bs 1 0 ≢ 10 → FrameTakes bs 2 2
  unfolding is_strike is_spare own_balls bonus_balls
  takes_open n m =
      let s = ne_eqb (get_or bs 0 0) 10 n in
      let p = ne_eqb (get_or bs 0 0 + get_or bs 1 0) 10 m in
      record { own = rw s; all = rw (s, p) }

-- a frame that is known, and one that is not
pub scores_known : (n so_far : ℕ) (bs : List ℕ) → counted_balls bs ≤ length bs
    → scores_from (suc n) so_far bs ≡ (so_far + frame_score bs) ∷ scores_from n (so_far + frame_score bs) (drop (own_balls bs) bs)
unfolding scores_from is_known
scores_known n so_far bs h = rw (le-leb (counted_balls bs) (length bs) h)

pub scores_unknown : (n so_far : ℕ) (bs : List ℕ) → length bs < counted_balls bs → scores_from (suc n) so_far bs ≡ []
unfolding scores_from is_known
scores_unknown n so_far bs h = rw (lt-leb (counted_balls bs) (length bs) h)
