-- The known games come to what the table says. Assumes nothing.
use Rattle.std.specs.Prelude.{◌≡◌, refl, map}
use Rattle.basics.specs.Refusals.{checks, bind}
use Rattle.network.specs.Threshold.{ones_of}
use Rattle.scorer_theory.specs.Rules.{fresh_rack, has_raised_pin, felled_by, first_frame, finished, rack_for, with_ball, next_game, ball, felled_from}
use Rattle.scorer_theory.specs.Scores.{is_strike, is_spare, own_balls, bonus_balls, is_known, total, frame_score, scores_from, running_scores}
use Rattle.scorer_theory.specs.Games.{standing, came_to, games}

pub games_hold : map (λ k. came_to k.left) games ≡ map (λ k. k.comes) games
unfolding checks bind ones_of fresh_rack has_raised_pin felled_by first_frame finished rack_for with_ball next_game ball felled_from
    is_strike is_spare own_balls bonus_balls is_known total frame_score scores_from running_scores standing came_to games
games_hold = refl
