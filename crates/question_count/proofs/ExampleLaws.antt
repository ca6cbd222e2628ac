-- The example, by computing. Assumes nothing.
use Rattle.std.specs.Prelude.{refl}
use Rattle.basics.specs.Lists.{all, all_from, every, range, between}
use Rattle.basics.specs.TestLaws.{is_true, of_every}
use Rattle.network.specs.Threshold.{negated, sum, bit, assign, run, values, frame, output_bits}
use Rattle.network.specs.Limits.{signals_of, rising, in_scale, is_zero, weight_ok, scale_ok, gate_ok, gate_signal, is_gate, board_ok, sound_tests, sound}
use Rattle.network.specs.MarginLaws.{all_plain}
use Rattle.question_theory.specs.Question.{holds, most, least, upper, lower, second_variable, over_gate, gate_lines}
use Rattle.question_theory.specs.Question.{some_line, not_both_line, output_lines, last_line, alike, first_difference}
use Rattle.question_theory.specs.Question.{first_lines, second_lines, pair_lines, last_of, question, variables}
use Rattle.question_theory.specs.Demand.{differs}
use Rattle.question_count.specs.Sum.{sum_below}
use Rattle.question_count.specs.Counting.{solves, solutions, differences, ways}
use Rattle.question_count.specs.Example.{input_twice, one_twice, ThreeWays}

pub three_ways : ThreeWays
unfolding input_twice one_twice all all_from every range between negated sum bit assign run values frame output_bits signals_of rising in_scale
    is_zero weight_ok scale_ok gate_ok gate_signal is_gate board_ok sound_tests sound holds most least upper lower second_variable over_gate gate_lines some_line
    not_both_line output_lines last_line alike first_difference first_lines second_lines pair_lines last_of question variables differs sum_below
    solves solutions differences ways
three_ways = record {
  first_sound =
      is_true (sound input_twice)
      (of_every (sound_tests input_twice) (tt, (tt, (tt, (tt, (tt, (all_plain input_twice.board input_twice.gates refl refl, (tt, tt))))))));
  second_sound =
      is_true (sound one_twice)
      (of_every (sound_tests one_twice) (tt, (tt, (tt, (tt, (tt, (all_plain one_twice.board one_twice.gates refl refl, (tt, tt))))))));
  same_counts = refl;
  both_differ = refl;
  none_differs = refl;
  three_ways = refl;
  five_variables = refl;
  three_solutions = refl;
}
