use Rattle.std.proofs.Common.{ap, sym, ◌∙◌, arith, rules, length, ◌≡◌}
use Rattle.basics.specs.Refusals.{accepted}
use Rattle.std.proofs.lemmas.Result.{err_from_is_err_and}
use Rattle.refusals.specs.Numbers.{number_of}
use Rattle.scorer_play.specs.PlayLaws.{playing_start, playing_refused, playing_place, playing_next, playing_taken, playing_long, playing_whole}
use Rattle.scorer_play.proofs.unchecked.play_balls.Goals as goal

pub loop-balls-init : goal.loop-balls-init
loop-balls-init c = rw c.start-lane.ensures (playing_start _ _ (search rules))

pub returns-in_err-felled : goal.returns-in_err-felled
returns-in_err-felled c =
    let p = err_from_is_err_and c.from_residual.result c.from_residual.ensures.1 in
    rw (p.1, p.2) (playing_refused c.loop-balls.invariant c.loop-balls-test.true _ c.in_err-felled.ensures.played)

pub bounds-felled-balls : goal.bounds-felled-balls
bounds-felled-balls c = playing_place c.loop-balls.invariant c.loop-balls-test.true c.in_ok-felled.ensures.played

pub loop-balls-preserved : goal.loop-balls-preserved
loop-balls-preserved c = playing_next c.loop-balls.invariant c.loop-balls-test.true c.in_ok-felled.ensures.played (search rules)

pub returns-then-words-frames : goal.returns-then-words-frames
unfolding number_of
returns-then-words-frames c = playing_long c.loop-balls.invariant (omega arith) (omega (arith, c.if-words-frames.true))

pub returns : goal.returns
returns c =
    let end : c.loop-balls.balls ≡ length c.args.words.now = omega arith in
    let inv = c.loop-balls.invariant in
    let few = inv.few in
    (omega arith, rw (← end) (playing_whole inv (omega arith) (omega (arith, c.if-words-frames.false)) ∙ ap accepted (sym (playing_taken inv))))
