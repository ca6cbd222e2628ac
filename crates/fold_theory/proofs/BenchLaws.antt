-- The bench table: what the definitions say is what the document says, row by row. Assumes nothing.
use Rattle.std.specs.Prelude.{◌≡◌, refl, map}
use Rattle.basics.specs.Lists.{all, all_from, below, every, keep, range, between, other}
use Rattle.basics.specs.Refusals.{checks}
use Rattle.gate_rising.specs.Sums.{every_sum}
use Rattle.gate_margins.specs.Sums.{apart, outside}
use Rattle.network.specs.Threshold.{negated, sum, bit, assign, frame}
use Rattle.network.specs.Limits.{signals_of, rising, in_scale, is_zero, weighs, weight_ok, scale_ok, gate_ok, board_ok, weights_of, keeps, gate_signal, is_gate}
use Rattle.network.specs.Limits.{sound_tests, sound}
use Rattle.network.specs.Changes.{gate_at, with_gate}
use Rattle.fold_theory.specs.Merge.{silent, reads, weight_of, edge, among, distinct, merged_feed, merged_threshold, merged, complement, votes_for}
use Rattle.fold_theory.specs.Merge.{voter, where_on, composed, setting, agrees_at, agrees, merge_keeps, on_dial, narrow, feed_tests, limits, merge}
use Rattle.fold_theory.specs.Pair.{pairs_of, gather, pairs, qualifies, first, pair_tests, pair_of, pair}
use Rattle.fold_theory.specs.Bench.{merge_reply, pair_reply, reply, bench}

pub bench_holds : map (λ r. reply r.ask) bench ≡ map (λ r. r.want) bench
unfolding bench reply merge_reply pair_reply all all_from below every keep range between other checks sum bit assign frame signals_of rising
    in_scale is_zero weight_ok scale_ok gate_ok board_ok weights_of keeps every_sum apart outside gate_signal is_gate sound_tests sound gate_at with_gate silent
    reads weight_of edge among distinct merged_feed weighs merged_threshold merged negated complement votes_for voter where_on composed setting
    agrees_at agrees merge_keeps on_dial narrow feed_tests limits merge pairs_of gather pairs qualifies first pair_tests pair_of pair
bench_holds = refl
