-- The arrays with the gate stored are those of the network with the gate (InsertLaws). Assumes nothing.
use Rattle.std.proofs.Common.{arith, rules, ap, ◌∙◌, ℕ, ◌*◌, ◌-◌, pos, map}
use Rattle.network.specs.Changes.{raised}
use Rattle.network.specs.RecordLaws.{ArrayLengths}
use Rattle.network_gaps.specs.Gaps.{with_places}
use Rattle.network_gaps.specs.GapLaws.{low_places}
use Rattle.network_insertion.specs.InsertLaws.{low_signals, low_drivers, inserted_record}
use Rattle.network_insertion.proofs.unchecked.insert_gate.Goals as goal

pub raise_all-requires : goal.raise_all-requires
raise_all-requires c = rw c.open_gap-3.ensures (low_places 255 _ _ _ _ (omega arith) (low_signals c.args.network (search rules) c.requires.0.sound))

pub raise_all-requires-2 : goal.raise_all-requires-2
raise_all-requires-2 c = low_drivers c.args.network (search rules) c.requires.0.sound

pub returns : goal.returns
returns c =
    let n = c.args.network in
    let long : ArrayLengths n = search rules in
    let g : ℕ = c.args.u - n.inputs in
    c.store_gate.ensures.rest ∙ inserted_record n c.args.u c.args.gate long c.requires.0 c.requires.1
    (c.open_gap.ensures ∙ ap (λ (m : ℕ). with_places 0 m g 1 n.fanins) long.fanins)
    (c.open_gap-2.ensures ∙ ap (λ (m : ℕ). with_places (pos 0) m g 1 n.thresholds) long.thresholds)
    (c.raise_all.ensures ∙ ap (map (raised c.args.u)) (c.open_gap-3.ensures ∙ ap (λ (m : ℕ). with_places 0 m (16 * g) 16 n.signals) long.signals))
    (c.open_gap-4.ensures ∙ ap (λ (m : ℕ). with_places (pos 0) m (16 * g) 16 n.weights) long.weights)
    c.store_gate.ensures.arrays c.raise_all-2.ensures
