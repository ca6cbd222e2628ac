-- A sound record's counts lie within its arrays, and the three figures are its network's. Assumes nothing.
use Rattle.std.proofs.Common.{◌≡◌, sym, ◌∙◌, true, ℕ, length}
use Rattle.basics.specs.ListLaws.{length_tab}
use Rattle.basics.specs.Refusals.{accepted, checks}
use Rattle.network.specs.Threshold.{Net}
use Rattle.network.specs.Record.{gate_of, net_of, sound_record}
use Rattle.network.specs.declared.Network.{Network}
use Rattle.network.specs.SoundLaws.{sized_of, counted_of}
use Rattle.network_report.specs.Size.{cost, levels, report_of, reported}
use Rattle.network_report.specs.declared.SizeReport.{SizeReport}
use Rattle.network_report.proofs.unchecked.size_of.Goals as goal

pub total_cost-cost-requires : goal.total_cost-cost-requires
total_cost-cost-requires c = counted_of _ c.requires

pub network_levels-levels-requires-clause-inputs_bound : goal.network_levels-levels-requires-clause-inputs_bound
network_levels-levels-requires-clause-inputs_bound c = (sized_of _ c.requires).few_inputs

pub network_levels-levels-requires-clause-counted : goal.network_levels-levels-requires-clause-counted
network_levels-levels-requires-clause-counted c = counted_of _ c.requires

-- a network's three figures are its report
as_report : (N : Net) (n t h : ℕ) → n ≡ length N.gates → t ≡ cost N.gates → h ≡ levels N
    → ◌≡◌ {A = SizeReport} (record { code = 0; gates = n; cost = t; levels = h }) (report_of (accepted N))
unfolding report_of
as_report N n t h e d f = rw (e, d, f)

-- a sound record's report is that of its network
of_sound : (r : Network) → sound_record r ≡ true → report_of (accepted (net_of r)) ≡ reported r
unfolding reported checks
of_sound r e = rw e

pub returns : goal.returns
unfolding net_of levels
returns c =
    let r = c.args.network.now in
    as_report (net_of r) _ _ _ (sym (length_tab r.gates (gate_of r))) c.total_cost-cost.ensures (c.from.ensures ∙ c.network_levels-levels.ensures)
    ∙ of_sound r c.requires
