-- The feeds with minus their weights, then y's term; the numbers fit 32 bits.
use mathlib.Core.Path.{◌≡◌, ap, ◌∙◌}
use mathlib.Core.Bool.{true}
use mir.Syntax.{w32}
use mir.Val.{to_z, of_z}
use Rattle.basics.specs.SizeLaws.{read_back}
use Rattle.network.specs.Record.{gate_in}
use Rattle.question_theory.specs.Question.{most, second_variable}
use Rattle.question_terms.specs.Terms.{feed_terms}
use Rattle.question_terms.specs.TermLaws.{stands_is, stands_next}
use Rattle.question_lines.specs.LineLaws.{feeds_extendable, sided_most, upper_is}
use Rattle.question_lines.proofs.GateNumbers.{upper_side_fits, upper_side, upper_less_fits, upper_more_fits, upper_own}
use Rattle.question_lines.proofs.unchecked.upper_line.Statement.{statement}
use Rattle.question_lines.proofs.unchecked.upper_line.Tie as tie

-- M, as it is read back
most_is : (c : tie.After-sum_of) → to_z w32 (of_z w32 c.sum_of.result) ≡ most (gate_in c.args.gate).feeds
most_is c = read_back w32 c.sum_of.type_inv (c.sum_of.ensures ∙ sided_most (gate_in c.args.gate).feeds)

sub_feed_terms : tie.Need-overflow_sub-threshold
sub_feed_terms c = upper_side_fits c.args.gate c.requires.0

feed_terms_requires : tie.Need-feed_terms-feeds-requires
feed_terms_requires c κs = c.requires

sum_of_requires : tie.Need-sum_of-requires
sum_of_requires c κs = c.requires.0

sub_with_term : tie.Need-overflow_sub-sum_of
sub_with_term c = upper_less_fits c.args.gate c.requires.0 c.sum_of.result (most_is c)

add_with_term : tie.Need-overflow_add-sum_of
add_with_term c = upper_more_fits c.args.gate c.requires.0 c.sum_of.result (most_is c)

with_term_requires : tie.Need-with_term-requires
with_term_requires c κs = feeds_extendable _ _ _ _ c.requires.0 c.feed_terms-feeds.ensures

returns : tie.Need-returns
unfolding gate_in
returns c =
    let a = c.args in
    let φ = second_variable a.inputs a.shift in
    let g = gate_in a.gate in
    stands_is (upper_is φ a.y g)
    (stands_next a.y (stands_is (ap (feed_terms true φ g) (upper_side a.gate c.requires.0)) c.feed_terms-feeds.ensures)
    (upper_own a.gate c.requires.0 c.sum_of.result (most_is c.before)) c.with_term.ensures)

pub upper_line_spec : {M : Type 1} → statement M
upper_line_spec =
    tie.close
    (tie.spec
    sub_feed_terms
    feed_terms_requires
    sum_of_requires
    sub_with_term
    add_with_term
    with_term_requires
    returns)
