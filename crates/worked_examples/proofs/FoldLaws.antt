-- The collapses, sweeps, pairs and merges of the tables are what they say. Assumes nothing.
use Rattle.std.specs.Prelude.{refl}
use Rattle.basics.specs.Lists.{all, all_from, below, every, keep, range, between, other}
use Rattle.basics.specs.Refusals.{checks, bind}
use Rattle.gate_rising.specs.Sums.{every_sum}
use Rattle.gate_margins.specs.Sums.{apart, outside}
use Rattle.network.specs.Threshold.{negated, sum, bit, assign, frame}
use Rattle.network.specs.Limits.{signals_of, rising, in_scale, is_zero, weighs, weight_ok, scale_ok, gate_ok, board_ok, weights_of, keeps, gate_signal, is_gate}
use Rattle.network.specs.Limits.{sound_tests, sound}
use Rattle.network.specs.Changes.{gate_at, with_gate, lowered, lowered_feed, lowered_gate, remove_at, without}
use Rattle.fold_theory.specs.Merge.{silent, reads, weight_of, edge, among, distinct, merged_feed, merged_threshold, merged, complement, votes_for}
use Rattle.fold_theory.specs.Merge.{voter, where_on, composed, setting, agrees_at, agrees, merge_keeps, on_dial, narrow, feed_tests, limits, merge}
use Rattle.fold_theory.specs.Pair.{pairs_of, gather, pairs, qualifies, first, pair_tests, pair_of, pair}
use Rattle.fold_theory.specs.Collapse.{merged_reader, merged_readers, collapse}
use Rattle.fold_theory.specs.Sweep.{readers, or_else, sweep_from, sweep_once, go_on, sweeping, sweep}
use Rattle.fold_theory.specs.Bench.{merge_reply, pair_reply, reply}
use Rattle.worked_examples.specs.Folds.{collapses, sweeps, margin_pairs, margin_merges, Folded}

pub folded : Folded
unfolding collapses sweeps margin_pairs margin_merges reply merge_reply pair_reply readers or_else sweep_from sweep_once go_on sweeping sweep merged_reader
    merged_readers collapse lowered lowered_feed lowered_gate remove_at without bind all all_from below every keep range between other checks sum bit assign
    frame signals_of rising in_scale is_zero weight_ok scale_ok gate_ok board_ok weights_of keeps every_sum apart outside gate_signal is_gate sound_tests sound gate_at
    with_gate silent reads weight_of edge among distinct merged_feed weighs merged_threshold merged negated complement votes_for voter where_on composed setting
    agrees_at agrees merge_keeps on_dial narrow feed_tests limits merge pairs_of gather pairs qualifies first pair_tests pair_of pair
folded = record { are_collapsed = refl; are_swept = refl; have_pairs = refl; are_merged = refl }
