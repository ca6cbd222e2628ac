-- The networks of the tables have the reports and the cuts that they say, and the three-feed table the entries. Assumes nothing.
use Rattle.std.specs.Prelude.{refl}
use Rattle.basics.specs.Lists.{all, all_from, every, between, other}
use Rattle.basics.specs.Refusals.{checks}
use Rattle.gate_rising.specs.Sums.{every_sum}
use Rattle.gate_margins.specs.Sums.{apart, outside}
use Rattle.network.specs.Limits.{signals_of, rising, in_scale, is_zero, weight_ok, scale_ok, gate_ok, board_ok, weights_of, keeps, gate_signal, is_gate}
use Rattle.network.specs.Limits.{sound_tests, sound}
use Rattle.network_levels.specs.Levels.{highest, level_above, gate_level, with_level, levels_from}
use Rattle.network_report.specs.Size.{weights_cost, gate_cost, cost, levels}
use Rattle.fold_theory.specs.Merge.{silent}
use Rattle.cut_theory.specs.Cut.{picked, added, belongs, left_out, new_signal, renamed_feed, renamed_gate, cut_by, cut_marks, cut_net, named, cut}
use Rattle.three_feeds.specs.Table.{table_entries, table_entry}
use Rattle.worked_examples.specs.Networks.{reports, cuts, entries, SizesAsSaid, CutAsSaid, EntriesAsSaid}

pub sizes_are : SizesAsSaid
unfolding reports highest level_above gate_level with_level levels_from weights_cost gate_cost cost levels
sizes_are = refl

pub cuts_are : CutAsSaid
unfolding cuts all all_from every between other checks every_sum apart outside signals_of rising in_scale is_zero weight_ok scale_ok gate_ok board_ok weights_of
    keeps gate_signal is_gate sound_tests sound silent picked added belongs left_out new_signal renamed_feed renamed_gate cut_by cut_marks cut_net named cut
cuts_are = refl

pub entries_are : EntriesAsSaid
unfolding entries table_entries table_entry
entries_are = refl
