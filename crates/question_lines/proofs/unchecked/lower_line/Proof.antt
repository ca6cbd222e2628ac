-- The feeds with their weights, then y's term; the numbers fit 32 bits.
use mathlib.Core.Path.{◌≡◌, ap, ◌∙◌}
use mathlib.Core.Bool.{false}
use mir.Syntax.{w32}
use mir.Val.{to_z, of_z}
use Rattle.basics.specs.SizeLaws.{read_back}
use Rattle.network.specs.Record.{gate_in}
use Rattle.question_theory.specs.Question.{least, second_variable}
use Rattle.question_terms.specs.Terms.{feed_terms}
use Rattle.question_terms.specs.TermLaws.{stands_is, stands_next}
use Rattle.question_lines.specs.LineLaws.{feeds_extendable, sided_least, lower_is}
use Rattle.question_lines.proofs.GateNumbers.{lower_own_fits, lower_own}
use Rattle.question_lines.proofs.unchecked.lower_line.Statement.{statement}
use Rattle.question_lines.proofs.unchecked.lower_line.Tie as tie

-- m, as it is read back
least_is : (c : tie.After-sum_of-least) → to_z w32 (of_z w32 c.sum_of-least.result) ≡ least (gate_in c.args.gate).feeds
least_is c = read_back w32 c.sum_of-least.type_inv (c.sum_of-least.ensures ∙ sided_least (gate_in c.args.gate).feeds)

sum_of_requires : tie.Need-sum_of-least-requires
sum_of_requires c κs = c.requires.0

feed_terms_requires : tie.Need-feed_terms-feeds-requires
feed_terms_requires c κs = c.requires

sub_with_term : tie.Need-overflow_sub-least
sub_with_term c = lower_own_fits c.args.gate c.requires.0 c.sum_of-least.result (least_is c.before)

with_term_requires : tie.Need-with_term-requires
with_term_requires c κs = feeds_extendable _ _ _ _ c.requires.0 c.feed_terms-feeds.ensures

returns : tie.Need-returns
unfolding gate_in
returns c =
    let a = c.args in
    let φ = second_variable a.inputs a.shift in
    let g = gate_in a.gate in
    let least_back = least_is c.before.before in
    stands_is (lower_is φ a.y g)
    (stands_next a.y (stands_is (ap (feed_terms false φ g) least_back) c.feed_terms-feeds.ensures)
    (lower_own a.gate c.requires.0 c.sum_of-least.result least_back) c.with_term.ensures)

pub lower_line_spec : {M : Type 1} → statement M
lower_line_spec =
    tie.close
    (tie.spec
    sum_of_requires
    feed_terms_requires
    sub_with_term
    with_term_requires
    returns)
