-- The signals passed so far are lowered. Assumes nothing.
use Rattle.std.proofs.Common.{arith, ap, ◌∙◌, get_or, ◌≡◌}
use Rattle.network.specs.Changes.{lowered}
use Rattle.network_places.specs.PasteLaws.{pasted_more, pasted_map}
use Rattle.network_removal.proofs.unchecked.lower_all.Goals as goal

pub loop-signal-preserved : goal.loop-signal-preserved
loop-signal-preserved c =
    let at = c.loop-signal in
    let same : get_or at.signal-items at.signal-index 0 ≡ get_or c.args.signals.now at.signal-index 0 = at.invariant.after at.signal-index (omega arith) in
    pasted_more _ _ at.invariant (omega arith) (c.lower.ensures ∙ ap (lowered c.args.u) same)

pub returns : goal.returns
returns c = pasted_map (lowered c.args.u) c.loop-signal.invariant (omega arith)
