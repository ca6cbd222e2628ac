-- The files of the tables are read as they say. A wrong row is found by the line of its table. Assumes nothing.
use Rattle.std.specs.Prelude.{refl}
use Rattle.basics.specs.Lists.{all, between}
use Rattle.gate_rising.specs.Sums.{every_sum}
use Rattle.gate_margins.specs.Sums.{apart, outside}
use Rattle.network.specs.Limits.{in_scale, is_zero, weight_ok, weights_of, keeps, gate_signal}
use Rattle.pmn_opening.specs.Files.{as_answer, read_net}
use Rattle.worked_examples.specs.Files.{readable, limits, foreign_marks, strange_versions, bad_counts, cut_short, crossed_feeds, off_the_scale, too_wide}
use Rattle.worked_examples.specs.Files.{broken_margins, stray_outputs, tails, two_faults, FilesRead}

pub files_read : FilesRead
unfolding readable limits foreign_marks strange_versions bad_counts cut_short crossed_feeds off_the_scale too_wide broken_margins stray_outputs tails two_faults
    read_net as_answer all between every_sum apart outside in_scale is_zero weight_ok weights_of keeps gate_signal
files_read = record {
  are_read = refl;
  at_limits = refl;
  with_1 = refl;
  with_2 = refl;
  with_3 = refl;
  with_4 = refl;
  with_5 = refl;
  with_6 = refl;
  with_7 = refl;
  with_24 = refl;
  with_8 = refl;
  with_9 = refl;
  the_first = refl;
}
