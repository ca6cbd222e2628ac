-- After so many gates the record is that of the network with those gates merged (PartLaws); then the gate is removed. Assumes nothing.
use Rattle.std.proofs.Common.{rules, arith, sym, ap, ◌∙◌}
use Rattle.network.specs.Record.{layout}
use Rattle.network.specs.RecordLaws.{gate_number}
use Rattle.network_places.specs.PartsLaws.{removed_is}
use Rattle.fold_collapse.proofs.PartLaws.{part_none, part_same, part_shape, part_own, part_left, part_merges, part_next}
use Rattle.fold_collapse.proofs.unchecked.collapse_by_pairs.Goals as goal
use Rattle.fold_collapse.proofs.unchecked.collapse_by_pairs.Goals.{then-k-ne0, else-k-ne0}

pub loop-g-init : goal.loop-g-init
loop-g-init c = part_none c.args.network.now c.args.u c.args.pairs.now c.requires.own c.requires.pairs
    (record { fanins = search rules; signals = search rules; weights = search rules; thresholds = search rules; drivers = search rules })

pub bounds-pairs-g : goal.bounds-pairs-g
bounds-pairs-g c = omega (arith, gate_number c.args.network.now c.args.u c.requires.own)

pub bounds-pairs-g-in-loop-g : goal.bounds-pairs-g-in-loop-g
bounds-pairs-g-in-loop-g c = omega (arith, gate_number c.args.network.now c.args.u c.requires.own)

pub merge_reader-requires : goal.merge_reader-requires
merge_reader-requires c =
    let a = c.args in
    let loop = c.loop-g in
    rw (c.from-k.ensures, c.from-l.ensures)
    (part_merges a.network.now a.u a.pairs.now c.requires.own c.requires.pairs loop.network loop.g loop.invariant c.loop-g-test.true
    (λ z. c.if-k-ne0.true (c.from-k.ensures ∙ z)))

pub loop-g-preserved : goal.loop-g-preserved
loop-g-preserved c =
    let a = c.args in
    let loop = c.loop-g in
    elim c.if-k-ne0.branch [
      | then-k-ne0 w ↦
          w.network-is ∙ part_next a.network.now a.u a.pairs.now c.requires.own c.requires.pairs loop.network loop.g loop.invariant c.loop-g-test.true
          (λ z. w.if-k-ne0.true (c.from-k.ensures ∙ z)) (rw (c.from-k.ensures, c.from-l.ensures) at w.merge_reader.ensures)
      | else-k-ne0 w ↦
          w.network-is ∙ loop.invariant
          ∙ ap layout (sym (part_same a.network.now a.u a.pairs.now c.requires.own c.requires.pairs loop.g c.loop-g-test.true
          (sym c.from-k.ensures ∙ w.if-k-ne0.false)))
    ]

pub remove_gate-requires : goal.remove_gate-requires
remove_gate-requires c =
    let a = c.args in
    let at = gate_number c.loop-g.network a.u (part_own a.network.now a.u a.pairs.now c.requires.own c.requires.pairs c.loop-g.network c.loop-g.g c.loop-g.invariant) in
    ((omega (arith, at), omega (arith, at)), omega (arith, at))

pub returns : goal.returns
returns c =
    let a = c.args in
    let loop = c.loop-g in
    removed_is (part_shape a.network.now a.u a.pairs.now c.requires.own c.requires.pairs loop.network loop.g loop.invariant)
    (part_own a.network.now a.u a.pairs.now c.requires.own c.requires.pairs loop.network loop.g loop.invariant) c.remove_gate.ensures
    ∙ part_left a.network.now a.u a.pairs.now c.requires.own c.requires.pairs loop.network loop.g loop.invariant (omega arith)
