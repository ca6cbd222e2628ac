-- The gate is too wide, or the step is a merge or a drop (NewestLaws). Assumes nothing.
use Rattle.std.proofs.Common.{sym, ap, ◌∙◌}
use Rattle.network.specs.Record.{net_of}
use Rattle.call_theory.specs.Steps.{merging, dropping, undoable}
use Rattle.call_restoring.specs.TakenBack.{back_to}
use Rattle.call_restoring.specs.BackLaws.{back_no}
use Rattle.call_restoring.specs.NewestLaws.{newest_merge, newest_drop, newest_wide, newest_gate, newest_packed}
use Rattle.call_restoring.proofs.unchecked.take_back.Goals as goal

pub returns-then-journal-gt16 : goal.returns-then-journal-gt16
returns-then-journal-gt16 c =
    let n = c.args.network.now in
    let no = newest_wide c.args.journal.now (net_of n) c.if-journal-gt16.true in
    record { value = sym no; network_after = back_no n _ no }

pub put_back-requires : goal.put_back-requires
put_back-requires c = (c.requires, newest_packed c.args.journal.now c.if-journal-gt16.false _ c.newest_gate-gate.ensures)

pub put_in-requires : goal.put_in-requires
put_in-requires c = (c.requires, newest_packed c.args.journal.now c.if-journal-gt16.false _ c.newest_gate-gate.ensures)

pub returns-then-journal-eq0 : goal.returns-then-journal-eq0
returns-then-journal-eq0 c =
    let j = c.args.journal.now in
    let same = newest_gate j c.if-journal-gt16.false _ c.newest_gate-gate.ensures in
    let step = (λ x. merging (c.from-signal.ensures x) (same x)) ∙ sym (newest_merge j c.if-journal-eq0.true) in
    record {
      value = c.put_back.ensures.value ∙ ap (undoable (net_of c.args.network.now)) step;
      network_after = c.put_back.ensures.network_after ∙ ap (back_to c.args.network.now) step;
    }

pub returns-else-journal-eq0 : goal.returns-else-journal-eq0
returns-else-journal-eq0 c =
    let j = c.args.journal.now in
    let same = newest_gate j c.if-journal-gt16.false _ c.newest_gate-gate.ensures in
    let step = (λ x. dropping (c.from-signal.ensures x) (same x)) ∙ sym (newest_drop j c.if-journal-eq0.false) in
    record {
      value = c.put_in.ensures.value ∙ ap (undoable (net_of c.args.network.now)) step;
      network_after = c.put_in.ensures.network_after ∙ ap (back_to c.args.network.now) step;
    }
