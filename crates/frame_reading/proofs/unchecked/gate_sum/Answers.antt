-- A turn adds the feed at the next place.
use Rattle.std.proofs.Common.{ap, ◌∙◌, arith, rules, w32, SFits}
use Rattle.std.proofs.lemmas.List.{length_push}
use Rattle.frame_reading.specs.Evaluation.{bits_in}
use Rattle.frame_reading.proofs.FeedLaws.{feed_turn, feed_end}
use Rattle.frame_reading.proofs.SumLaws.{added_more, added_all}
use Rattle.frame_reading.proofs.unchecked.gate_sum.Goals as goal

pub loop-signal-preserved : goal.loop-signal-preserved
loop-signal-preserved c =
    let a = c.args in
    let feed = feed_turn a.network.now.signals a.network.now.weights a.base a.count c.loop-signal.yielded c.into_iter-signal-iterator.result c.loop-signal.signal-iterator c.next.new.self
    (omega arith) (omega arith) (search rules) (search rules) c.loop-signal.yielded_by c.in-Some.is c.next.ensures.steps in
    let fits : SFits w32 c.in-Some.weight.now = search rules in
    rw c.from-in-loop-signal-2.ensures
    (added_more c.loop-signal.invariant c.requires.1 feed.0 (length_push c.loop-signal.yielded (c.in-Some.signal, c.in-Some.weight))
    c.from-in-loop-signal.ensures (ap (bits_in a.values.now) (c.from.ensures ∙ feed.1)) feed.2 fits)

pub returns : goal.returns
returns c =
    let a = c.args in
    let end = feed_end a.network.now.signals a.network.now.weights a.base a.count c.loop-signal.yielded c.into_iter-signal-iterator.result c.loop-signal.signal-iterator c.next.new.self
    (omega arith) (omega arith) (search rules) (search rules) c.loop-signal.yielded_by c.in-None.is c.next.ensures.steps in
    added_all c.loop-signal.invariant (omega arith)
