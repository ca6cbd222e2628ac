-- The games of the tables come to what they say. Assumes nothing.
use Rattle.std.specs.Prelude.{refl}
use Rattle.basics.specs.Refusals.{checks, bind}
use Rattle.network.specs.Threshold.{sum, bit, assign, run, values, frame, fits_frame, output_bits, ones_of}
use Rattle.scorer_theory.specs.Rules.{pins_of, fresh_rack, has_raised_pin, felled_by, first_frame, finished, rack_for, with_ball, next_game, ball, felled_from}
use Rattle.scorer_theory.specs.Scores.{is_strike, is_spare, own_balls, bonus_balls, is_known, total, frame_score, scores_from, running_scores}
use Rattle.scorer_theory.specs.NetworkGames.{pins_on, game}
use Rattle.worked_examples.specs.Games.{played, refused_games, game_on, GamesPlayed}

pub games_played : GamesPlayed
unfolding checks bind sum bit assign run values frame fits_frame output_bits ones_of pins_of fresh_rack has_raised_pin felled_by first_frame finished rack_for
    with_ball next_game ball felled_from is_strike is_spare own_balls bonus_balls is_known total frame_score scores_from running_scores pins_on game game_on played
    refused_games
games_played = record { are_played = refl; are_refused = refl }
