-- The three variables are those of the output's two lines.
use mathlib.Core.Path.{refl, ap, ◌∙◌}
use Prim.Native.Nat.{◌/◌, ◌<◌}
use native.Mathlib.Omega.{arith}
use borrow.Author.Rules.{rules}
use Rattle.question_theory.specs.Question.{second_variable}
use Rattle.question_terms.specs.TermLaws.{stands_is}
use Rattle.question_lines.specs.ComparableLaws.{small_counts}
use Rattle.question_lines.specs.NumberLaws.{even_output, odd_output}
use Rattle.question_lines.proofs.unchecked.output_line.Statement.{statement}
use Rattle.question_lines.proofs.unchecked.output_line.Tie as tie

-- the output is one of 16
below : (c : tie.Start) → c.args.i / 2 < 16
below c = let h = c.requires.1 in omega (arith, small_counts c.requires.0)

element_copy_out_wide : tie.Need-bounds-first-j
element_copy_out_wide c = below c

element_copy_out_wide_2 : tie.Need-bounds-second-j
element_copy_out_wide_2 c = below c.before.before

variable_of_requires : tie.Need-variable_of-q-requires
variable_of_requires c κs = let s = small_counts c.requires.0 in omega (arith, c.from.ensures)

add_d : tie.Need-overflow_add-d
add_d c = let s = small_counts c.requires.0 in record { fits = omega arith }

add_d_2 : tie.Need-overflow_add-d-2
add_d_2 c = let s = small_counts c.requires.0 in record { fits = omega arith }

add_d_3 : tie.Need-overflow_add-d-3
add_d_3 c = let s = small_counts c.before.before.before.before.before.requires.0 in let h = below c.before.before.before.before.before in
    record { fits = omega arith }

returns : tie.Need-returns-then-i-eq0
returns c =
    let a = c.args in
    stands_is
    (even_output c.requires.0 a.i c.requires.1 c.from-p.ensures
    (c.variable_of-q.ensures ∙ ap (second_variable a.first.inputs a.first.gates) c.from.ensures) refl c.if-i-eq0.true)
    c.three_terms.ensures

returns_2 : tie.Need-returns
returns_2 c =
    let a = c.args in
    stands_is
    (odd_output c.requires.0 a.i c.requires.1 c.from-p.ensures
    (c.variable_of-q.ensures ∙ ap (second_variable a.first.inputs a.first.gates) c.from.ensures) refl c.if-i-eq0.false)
    c.three_terms-2.ensures

pub output_line_spec : {M : Type 1} → statement M
output_line_spec =
    tie.close
    (tie.spec
    element_copy_out_wide
    (λ c κs. search rules)
    element_copy_out_wide_2
    (λ c κs. search rules)
    variable_of_requires
    add_d
    add_d_2
    add_d_3
    (λ c κs. search rules)
    returns
    (λ c κs. search rules)
    returns_2)
