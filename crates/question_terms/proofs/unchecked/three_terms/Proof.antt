-- Three terms, one after the other.
use mathlib.Core.Path.{refl, ap}
use native.Mathlib.Omega.{arith}
use mir.Facts.{to_z-of_z}
use borrow.Author.Rules.{rules}
use Rattle.question_theory.specs.Question.{term}
use Rattle.question_terms.specs.Terms.{RecordOfLine, no_terms, extended}
use Rattle.question_terms.specs.TermLaws.{three_is, stands_is, stands_extendable, stands_next}
use Rattle.question_terms.proofs.unchecked.three_terms.Statement.{statement}
use Rattle.question_terms.proofs.unchecked.three_terms.Tie as tie

-- no terms, one and two
none : (c : tie.After-no_terms) → RecordOfLine c.no_terms.result (no_terms c.args.right)
none c = stands_is (ap no_terms (to_z-of_z c.ranges.right)) c.no_terms.ensures

first : (c : tie.After-with_term-one)
    → RecordOfLine c.with_term-one.result
    (extended (no_terms c.args.right) (term c.args.p c.args.coefficient))
first c = stands_next c.args.p (none c.before) (to_z-of_z c.ranges.coefficient) c.with_term-one.ensures

second : (c : tie.After-with_term-two) → RecordOfLine c.with_term-two.result
    (extended (extended (no_terms c.args.right)
    (term c.args.p c.args.coefficient))
    (term c.args.q c.args.coefficient))
second c = stands_next c.args.q (first c.before) (to_z-of_z c.ranges.coefficient)
    c.with_term-two.ensures

with_term_requires : tie.Need-with_term-one-requires
unfolding no_terms
with_term_requires c κs = stands_extendable (none c) (omega arith)

with_term_requires_2 : tie.Need-with_term-two-requires
unfolding no_terms extended
with_term_requires_2 c κs = stands_extendable (first c) (omega arith)

with_term_requires_3 : tie.Need-with_term-requires
unfolding no_terms extended
with_term_requires_3 c κs = stands_extendable (second c) (omega arith)

returns : tie.Need-returns
returns c =
    let a = c.args in
    stands_is (three_is a.p a.q a.d a.coefficient a.right) (stands_next a.d (second c.before) refl c.with_term.ensures)

pub three_terms_spec : {M : Type 1} → statement M
three_terms_spec =
    tie.close
    (tie.spec
    (λ c κs. search rules)
    with_term_requires
    with_term_requires_2
    with_term_requires_3
    returns)
