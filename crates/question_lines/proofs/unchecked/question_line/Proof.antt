-- Each stretch of the question by its numbers.
use native.Mathlib.Omega.{arith}
use Rattle.question_terms.specs.TermLaws.{stands_is}
use Rattle.question_lines.specs.ComparableLaws.{small_counts}
use Rattle.question_lines.specs.NumberLaws.{in_first, in_second, in_outputs, at_last}
use Rattle.question_lines.proofs.unchecked.question_line.Statement.{statement}
use Rattle.question_lines.proofs.unchecked.question_line.Tie as tie

mul_first_end : tie.Need-overflow_mul-first_end
mul_first_end c = let s = small_counts c.requires.0 in record { fits = omega arith }

mul_second_end : tie.Need-overflow_mul-second_end
mul_second_end c = let s = small_counts c.requires.0 in record { fits = omega arith }

add_second_end : tie.Need-overflow_add-second_end
add_second_end c = let s = small_counts c.requires.0 in record { fits = omega arith }

mul_outputs_end : tie.Need-overflow_mul-outputs_end
mul_outputs_end c = let s = small_counts c.requires.0 in record { fits = omega arith }

add_outputs_end : tie.Need-overflow_add-outputs_end
add_outputs_end c = let s = small_counts c.requires.0 in record { fits = omega arith }

gate_line_requires : tie.Need-gate_line-requires
gate_line_requires c κs = (c.requires.0.first_sound, omega arith, c.if-i-first_end.true)

returns : tie.Need-returns-then-i-first_end
returns c =
    stands_is (in_first c.requires.0 c.args.i c.if-i-first_end.true) c.gate_line.ensures

gate_line_requires_2 : tie.Need-gate_line-requires-then-i-second_end
gate_line_requires_2 c κs =
    let low = c.if-i-first_end.false in
    let high = c.if-i-second_end.true in
    let s = small_counts c.requires.0 in
    (c.requires.0.second_sound, s.1, omega arith)

returns_2 : tie.Need-returns-then-i-second_end
returns_2 c =
    stands_is (in_second c.requires.0 c.args.i c.if-i-first_end.false c.if-i-second_end.true) c.gate_line-then-i-second_end.ensures

output_line_requires : tie.Need-output_line-requires
output_line_requires c κs =
    let low = c.if-i-second_end.false in
    let high = c.if-i-outputs_end.true in
    (c.requires.0, omega arith)

returns_3 : tie.Need-returns-then-i-outputs_end
returns_3 c =
    stands_is (in_outputs c.requires.0 c.args.i c.if-i-second_end.false c.if-i-outputs_end.true) c.output_line.ensures

-- the start before the tests
abbrev start_of : tie.Else-i-outputs_end → tie.Start
start_of c = c.before.before.before.before.before.before

add_last_line : tie.Need-overflow_add-first
add_last_line c = let s = small_counts (start_of c.before).requires.0 in record { fits = omega arith }

add_last_line_2 : tie.Need-overflow_add-first-2
add_last_line_2 c = let s = small_counts (start_of c.before.before).requires.0 in record { fits = omega arith }

last_line_requires : tie.Need-last_line-requires
last_line_requires c κs = let s = small_counts (start_of c.before.before).requires.0 in (s.3, omega arith)

returns_4 : tie.Need-returns
returns_4 c =
    let start = start_of c.before.before.before in
    stands_is (at_last start.requires.0 start.args.i c.if-i-outputs_end.false start.requires.1) c.last_line.ensures

pub question_line_spec : {M : Type 1} → statement M
question_line_spec =
    tie.close
    (tie.spec
    mul_first_end
    mul_second_end
    add_second_end
    mul_outputs_end
    add_outputs_end
    gate_line_requires
    returns
    gate_line_requires_2
    returns_2
    output_line_requires
    returns_3
    add_last_line
    add_last_line_2
    last_line_requires
    returns_4)
