use Rattle.std.proofs.Common.{ap, refl}
use Rattle.std.proofs.lemmas.Result.{err_from_is_err_and}
use Rattle.basics.specs.Refusals.{code_of}
use Rattle.scorer_theory.proofs.RuleLaws.{ball_played}
use Rattle.scorer_ball.specs.Words.{game_of}
use Rattle.scorer_ball.proofs.Lane.throw.Goals as goal

pub returns-in_err-allows : goal.returns-in_err-allows
returns-in_err-allows c =
    let p = err_from_is_err_and c.from_residual.result c.from_residual.ensures.1 in
    rw (p.1, p.2) (record { played = c.in_err-allows.ensures; kept = refl })

pub felled_by-felled-requires : goal.felled_by-felled-requires
unfolding game_of code_of
felled_by-felled-requires c =
    let b = ball_played _ _ (ap code_of c.in_ok-allows.ensures) in
    record { ten_before = c.requires.on_lane.ten_pins; ten_after = c.requires.ten_pins; same_rack = b.same_rack }

pub advance-requires-clause-frame_bound : goal.advance-requires-clause-frame_bound
unfolding game_of code_of
advance-requires-clause-frame_bound c =
    let b = ball_played _ _ (ap code_of c.in_ok-allows.ensures) in
    (b.in_game, c.requires.ten_pins)

pub returns : goal.returns
returns c = record {
  played = record { allowed = c.in_ok-allows.ensures; pins = c.felled_by-felled.ensures; thrown = c.advance.ensures };
  kept = tt;
}
