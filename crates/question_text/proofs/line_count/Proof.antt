-- The counts of two sound records are small, and the question's length is a sum of them.
use mathlib.Core.Path.{sym}
use native.Mathlib.Omega.{arith}
use Rattle.question_lines.specs.ComparableLaws.{small_counts, lines_are}
use Rattle.question_text.proofs.line_count.Statement.{statement}
use Rattle.question_text.proofs.line_count.Tie as tie

mul_result : tie.Need-overflow_mul-result
mul_result c = let h = small_counts c.requires in record { fits = omega arith }

mul_result_2 : tie.Need-overflow_mul-result-2
mul_result_2 c = let h = small_counts c.requires in record { fits = omega arith }

add_result : tie.Need-overflow_add-result
add_result c = let h = small_counts c.requires in record { fits = omega arith }

mul_result_3 : tie.Need-overflow_mul-result-3
mul_result_3 c = let h = small_counts c.requires in record { fits = omega arith }

add_result_2 : tie.Need-overflow_add-result-2
add_result_2 c = let h = small_counts c.requires in record { fits = omega arith }

add_result_3 : tie.Need-overflow_add-result-3
add_result_3 c = let h = small_counts c.requires in record { fits = omega arith }

returns : tie.Need-returns
returns c = sym (lines_are c.requires)

pub line_count_spec : {M : Type 1} → statement M
line_count_spec =
    tie.close
    (tie.spec
    mul_result
    mul_result_2
    add_result
    mul_result_3
    add_result_2
    add_result_3
    returns)
