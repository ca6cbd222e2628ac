-- A turn adds the feed at the next place in each lane.
use Rattle.std.proofs.Common.{◌∙◌, arith, rules, w32, SFits, to_z-of_z, length}
use Rattle.std.proofs.lemmas.List.{length_push}
use Rattle.frame_reading.proofs.FeedLaws.{feed_turn, feed_end}
use Rattle.frame_lanes.proofs.LaneSumLaws.{lanes_none, lanes_small, lanes_next, lanes_all}
use Rattle.frame_lanes.proofs.unchecked.lane_sums.Goals as goal

pub loop-signal-init : goal.loop-signal-init
loop-signal-init c = lanes_none _ _ _ _ _ _

pub add_feed-requires : goal.add_feed-requires
add_feed-requires c =
    let a = c.args in
    let feed = feed_turn a.network.now.signals a.network.now.weights a.base a.count c.loop-signal.yielded c.into_iter-signal-iterator.result c.loop-signal.signal-iterator c.next.new.self
    (omega arith) (omega arith) (search rules) (search rules) c.loop-signal.yielded_by c.in-Some.is c.next.ensures.steps in
    let fits : SFits w32 c.in-Some.weight.now = search rules in
    record {
      masked = c.requires.masked;
      within = omega arith;
      light = rw (to_z-of_z fits, feed.2) (c.requires.light (length c.loop-signal.yielded) feed.0);
      small = lanes_small c.loop-signal.invariant feed.0 c.requires.few;
    }

pub loop-signal-preserved : goal.loop-signal-preserved
loop-signal-preserved c =
    let a = c.args in
    let feed = feed_turn a.network.now.signals a.network.now.weights a.base a.count c.loop-signal.yielded c.into_iter-signal-iterator.result c.loop-signal.signal-iterator c.next.new.self
    (omega arith) (omega arith) (search rules) (search rules) c.loop-signal.yielded_by c.in-Some.is c.next.ensures.steps in
    let fits : SFits w32 c.in-Some.weight.now = search rules in
    rw length_push
    (lanes_next c.loop-signal.invariant c.requires feed.0 c.from.result _ (omega arith) (c.from.ensures ∙ feed.1) (to_z-of_z fits ∙ feed.2) c.add_feed.ensures)

pub returns : goal.returns
returns c =
    let a = c.args in
    let end = feed_end a.network.now.signals a.network.now.weights a.base a.count c.loop-signal.yielded c.into_iter-signal-iterator.result c.loop-signal.signal-iterator c.next.new.self
    (omega arith) (omega arith) (search rules) (search rules) c.loop-signal.yielded_by c.in-None.is c.next.ensures.steps in
    lanes_all c.loop-signal.invariant (omega arith)
