-- The two tests in their order; v's feeds are looked at only if v is a gate. Assumes nothing.
use Rattle.std.proofs.Common.{arith, ◌≡◌, true, ◌-◌}
use Rattle.std.specs.Prelude.{◌&&◌}
use Rattle.basics.specs.TestLaws.{T_is, T_and}
use Rattle.basics.specs.Refusals.{code_of}
use Rattle.refusals.specs.Numbers.{number_of}
use Rattle.network.specs.Limits.{gate_signal}
use Rattle.network.specs.Sound.{HasSignal}
use Rattle.network.specs.LimitLaws.{signal_of_lem}
use Rattle.fold_readers.specs.ArrayLaws.{lent_counted}
use Rattle.fold_edges.specs.EdgeLaws.{signal_place}
use Rattle.fold_edges.specs.Codes.{first_failing, edge_tests_in}
use Rattle.fold_edges.proofs.unchecked.test_edge.Goals as goal
use Rattle.fold_edges.proofs.unchecked.test_edge.Goals.{Else-not-both}

-- what the first test found
both : (c : Else-not-both) → let n = c.args.network.now in (gate_signal n.inputs n.gates c.args.u && gate_signal n.inputs n.gates c.args.v) ≡ true
both c = rw (← c.is_gate.ensures, ← c.is_gate-2.ensures) c.if-not-both.false

reader : (c : Else-not-both) → let n = c.args.network.now in HasSignal n.inputs n.gates c.args.v
reader c = let n = c.args.network.now in
    signal_of_lem n.inputs n.gates c.args.v (T_and (gate_signal n.inputs n.gates c.args.u) _ (T_is _ (both c))).1

pub returns-then-not-both : goal.returns-then-not-both
unfolding first_failing edge_tests_in code_of number_of
returns-then-not-both c = rw (← c.is_gate.ensures, ← c.is_gate-2.ensures, c.if-not-both.true)

pub overflow_sub-v : goal.overflow_sub-v
overflow_sub-v c = omega (arith, reader c)

pub reads_gate-requires : goal.reads_gate-requires
reads_gate-requires c =
    let n = c.args.network.now in
    (signal_place c.requires c.args.v (reader c), (lent_counted c.requires).few_feeds (c.args.v - n.inputs) (omega (arith, reader c)))

pub returns-then-not-reads_gate : goal.returns-then-not-reads_gate
unfolding first_failing edge_tests_in code_of number_of
returns-then-not-reads_gate c = rw (both c.before.before, ← c.if-not-reads_gate.ensures)

pub returns : goal.returns
unfolding first_failing edge_tests_in code_of number_of
returns c = rw (both c.before.before, ← c.if-not-reads_gate.ensures)
