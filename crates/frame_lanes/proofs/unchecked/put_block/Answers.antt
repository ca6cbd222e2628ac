-- The sums, and then the threshold rule.
use Rattle.std.proofs.Common.{get_or, pos, rules, w32, SFits, to_z-of_z}
use Rattle.frame_lanes.proofs.LaneSumLaws.{block_put}
use Rattle.frame_lanes.proofs.unchecked.put_block.Goals as goal

pub returns : goal.returns
returns c =
    let r = c.args.network.now in
    let fits : SFits w32 (get_or r.thresholds c.args.g (pos 0)) = search rules in
    block_put r.fanins r.thresholds c.args.g c.lane_sums-sums.ensures c.from-count.ensures (to_z-of_z fits) c.put_bits.ensures
