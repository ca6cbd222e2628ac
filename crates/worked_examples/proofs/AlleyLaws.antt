-- The alleys of the tables have the sheets that they say. Assumes nothing.
use Rattle.std.specs.Prelude.{refl}
use Rattle.basics.specs.Lists.{all, between}
use Rattle.basics.specs.Refusals.{bind}
use Rattle.gate_rising.specs.Sums.{every_sum}
use Rattle.gate_margins.specs.Sums.{apart, outside}
use Rattle.network.specs.Limits.{in_scale, is_zero, weight_ok, weights_of, keeps, gate_signal}
use Rattle.pmn_opening.specs.Files.{as_answer, read_net}
use Rattle.network_report.specs.Size.{weights_cost, gate_cost, cost}
use Rattle.texts.specs.Texts.{digits, decimal}
use Rattle.alley_theory.specs.Alley.{lanes_up_to, lanes, size_of, lane_entry, lane_entries, size_counted, total_size, refused_word, total_word, size_text, lane_text}
use Rattle.alley_theory.specs.Alley.{lines_text, total_text, sheet}
use Rattle.worked_examples.specs.Alleys.{listed, cut_lanes, refused_lanes, AlleysListed}

pub alleys_listed : AlleysListed
unfolding listed cut_lanes refused_lanes read_net as_answer all between bind every_sum apart outside in_scale is_zero weight_ok weights_of keeps gate_signal
    weights_cost gate_cost cost digits decimal lanes_up_to lanes size_of lane_entry lane_entries size_counted total_size refused_word total_word size_text lane_text
    lines_text total_text sheet
alleys_listed = record {
  are_listed = refl;
  are_cut = refl;
  are_refused = refl;
}
