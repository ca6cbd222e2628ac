use Rattle.std.proofs.Common.{arith}
use Rattle.alley_theory.proofs.EntryLaws.{with_refused, with_size}
use Rattle.alley_theory.proofs.StepLaws.{sound_bounds}
use Rattle.alley_totals.proofs.unchecked.with_entry.Goals as goal

pub returns-then-entry-ne0 : goal.returns-then-entry-ne0
returns-then-entry-ne0 c = with_refused c.args.totals c.args.entry c.if-entry-ne0.true

pub overflow_add-result : goal.overflow_add-result
overflow_add-result c =
    let b = sound_bounds c.args.totals c.requires.totals_open.sound in
    record { fits = omega (arith, b.lanes, b.gates, c.requires.listable.few_gates) }

pub overflow_add-result-2 : goal.overflow_add-result-2
overflow_add-result-2 c =
    let b = sound_bounds c.args.totals c.requires.totals_open.sound in
    record { fits = omega (arith, b.lanes, b.cost, c.requires.listable.small_cost) }

pub returns : goal.returns
returns c = with_size c.args.totals c.args.entry c.if-entry-ne0.false
