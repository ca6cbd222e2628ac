use Rattle.std.proofs.Common.{◌≡◌, sym, ◌∙◌, false, arith, eq-eqb, ne_eqb, eqb}
use Rattle.network.specs.Threshold.{ones_of}
use Rattle.scorer_theory.specs.Rules.{rack_for, with_ball}
use Rattle.scorer_ball.specs.Words.{pins_in, game_of}
use Rattle.scorer_ball.specs.PinLaws.{fresh_word}
use Rattle.scorer_ball.proofs.Lane.advance.Goals as goal

pub returns-then-is_finished : goal.returns-then-is_finished
unfolding game_of with_ball
returns-then-is_finished c =
    let over = sym c.is_finished.ensures ∙ c.if-is_finished.true in
    record { game = rw (← c.from.ensures, c.start.ensures, fresh_word, over); ten_pins = rw c.start.ensures (omega arith) }

pub returns-then-standing-eq0 : goal.returns-then-standing-eq0
unfolding game_of with_ball rack_for
returns-then-standing-eq0 c =
    let none = sym c.standing.ensures ∙ c.if-standing-eq0.true in
    let going = sym c.is_finished.ensures ∙ c.if-is_finished.false in
    record { game = rw (← c.from.ensures, fresh_word, going, eq-eqb _ 0 none); ten_pins = omega arith }

pub returns-else-standing-eq0 : goal.returns-else-standing-eq0
unfolding game_of with_ball rack_for
returns-else-standing-eq0 c =
    let after = pins_in c.args.after in
    let some : eqb (ones_of after) 0 ≡ false = ne_eqb (ones_of after) 0 (λ e. c.if-standing-eq0.false (c.standing.ensures ∙ e)) in
    let going = sym c.is_finished.ensures ∙ c.if-is_finished.false in
    record { game = rw (← c.from.ensures, going, some); ten_pins = c.requires.frame_bound.1 }
