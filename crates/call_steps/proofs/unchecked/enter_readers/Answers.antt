-- A gate that reads u is entered, another is passed over (ReaderLaws). Assumes nothing.
use Rattle.std.proofs.Common.{◌+◌, sym, ◌∙◌, subst, arith}
use Rattle.network.specs.SoundLaws.{sized_of}
use Rattle.journal.specs.declared.Journal.{Journal}
use Rattle.call_steps.proofs.ReaderLaws.{Left, left_all, left_silent, left_reader, left_end}
use Rattle.call_steps.proofs.unchecked.enter_readers.Goals as goal
use Rattle.call_steps.proofs.unchecked.enter_readers.Goals.{then-reads_gate, else-reads_gate}

pub loop-g-init : goal.loop-g-init
loop-g-init c = left_all c.args.network.now c.args.u c.args.journal.now

pub reads_gate-requires : goal.reads_gate-requires
reads_gate-requires c =
    let z = sized_of c.args.network.now c.requires in
    (omega (arith, z.few_gates), z.few_feeds c.loop-g.g c.loop-g-test.true)

pub overflow_add-signal : goal.overflow_add-signal
overflow_add-signal c = let z = sized_of c.args.network.now c.requires in omega (arith, z.few_inputs, z.few_gates)

pub overflow_cast-signal : goal.overflow_cast-signal
overflow_cast-signal c = let z = sized_of c.args.network.now c.requires in omega (arith, z.few_inputs, z.few_gates)

pub enter_gate-requires : goal.enter_gate-requires
enter_gate-requires c = let z = sized_of c.args.network.now c.requires in omega (arith, z.few_gates)

pub loop-g-preserved : goal.loop-g-preserved
loop-g-preserved c =
    let n = c.args.network.now in
    let a = c.loop-g in
    let next = λ (j : Journal). Left n c.args.u (a.g + 1) c.args.journal.now j in
    elim c.if-reads_gate.branch [
      | then-reads_gate w ↦ subst next (sym w.journal-is)
          (left_reader n c.args.u a.g a.invariant c.requires c.loop-g-test.true (sym c.reads_gate.ensures ∙ w.if-reads_gate.true) w.enter_gate.ensures)
      | else-reads_gate w ↦ subst next (sym w.journal-is)
          (left_silent n c.args.u a.g a.invariant c.loop-g-test.true (sym c.reads_gate.ensures ∙ w.if-reads_gate.false))
    ]

pub returns : goal.returns
returns c = left_end c.args.network.now c.args.u c.loop-g.g c.loop-g.invariant c.loop-g-test.false
