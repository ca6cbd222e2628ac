-- The lists of the tables are read, and the runs give, what they say. Assumes nothing.
use Rattle.std.specs.Prelude.{refl}
use Rattle.basics.specs.Lists.{all, all_from, below, every, keep, range, between, other}
use Rattle.basics.specs.Refusals.{code_of, checks, bind}
use Rattle.gate_rising.specs.Sums.{every_sum}
use Rattle.gate_margins.specs.Sums.{apart, outside}
use Rattle.network.specs.Threshold.{negated, sum, bit, assign, frame}
use Rattle.network.specs.Limits.{signals_of, rising, in_scale, is_zero, weighs, weight_ok, scale_ok, gate_ok, board_ok, weights_of, keeps, gate_signal, is_gate}
use Rattle.network.specs.Limits.{sound_tests, sound}
use Rattle.network.specs.Changes.{gate_at, with_gate, lowered, lowered_feed, lowered_gate, remove_at, without}
use Rattle.network_levels.specs.Levels.{highest, level_above, gate_level, with_level, levels_from}
use Rattle.network_report.specs.Size.{weights_cost, gate_cost, cost, levels, report_of}
use Rattle.fold_theory.specs.Merge.{silent, reads, weight_of, edge, among, distinct, merged_feed, merged_threshold, merged, complement, votes_for}
use Rattle.fold_theory.specs.Merge.{voter, where_on, composed, setting, agrees_at, agrees, merge_keeps, on_dial, narrow, feed_tests, limits, merge}
use Rattle.fold_theory.specs.Pair.{pairs_of, gather, pairs, qualifies, first, pair_tests, pair_of, pair}
use Rattle.fold_theory.specs.Collapse.{unread, drop_gate, merged_reader, merged_readers, collapse}
use Rattle.call_theory.specs.Steps.{entered, entered_all, just_opened, sound_state, reader_steps, collapse_steps}
use Rattle.call_theory.specs.Calls.{no_figures, figures_of, without_figures, with_collapses, shown, steps_of, moved, reply_of, answer, leaves, calls}
use Rattle.call_numbers.specs.Numbers.{call_of, well_formed, calls_in}
use Rattle.pmn_opening.specs.Files.{as_answer, read_net, room}
use Rattle.call_runs.specs.Runs.{figures_in, answers_of, ran}
use Rattle.call_runs.specs.Files.{run_answer}
use Rattle.worked_examples.specs.Runs.{unformed, CallsRead, runs, RunAsSaid}

pub calls_read : CallsRead
unfolding unformed well_formed call_of calls_in
calls_read = record { empty = refl; six = refl; formed = refl; not_formed = refl }

pub runs_are : RunAsSaid
unfolding runs run_answer read_net as_answer room figures_in answers_of ran code_of call_of well_formed calls_in no_figures figures_of without_figures with_collapses
    shown steps_of moved reply_of answer leaves calls entered entered_all just_opened sound_state reader_steps collapse_steps unread drop_gate highest level_above
    gate_level with_level levels_from weights_cost gate_cost cost levels report_of merged_reader merged_readers collapse lowered lowered_feed lowered_gate remove_at
    without bind all all_from below every keep range between other checks sum bit assign frame signals_of rising in_scale is_zero weight_ok scale_ok gate_ok board_ok
    weights_of keeps every_sum apart outside gate_signal is_gate sound_tests sound gate_at with_gate silent reads weight_of edge among distinct merged_feed weighs
    merged_threshold merged negated complement votes_for voter where_on composed setting agrees_at agrees merge_keeps on_dial narrow feed_tests limits merge pairs_of
    gather pairs qualifies first pair_tests pair_of pair
runs_are = refl
