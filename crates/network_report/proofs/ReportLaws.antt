-- Laws of the size report. Assumes nothing.
use Rattle.std.specs.Prelude.{◌≡◌, List, [], ◌∷◌, ℕ, suc, ◌*◌, ◌≤◌, nat_abs, length}
use Rattle.std.proofs.Common.{ap, ◌∙◌, arith}
use Rattle.basics.specs.Lists.{Each}
use Rattle.basics.specs.Refusals.{accepted}
use Rattle.basics.specs.RefusalLaws.{checks_next, checks_none}
use Rattle.basics.specs.TestLaws.{is_true}
use Rattle.network.specs.Threshold.{Feed, Gate, Net}
use Rattle.network.specs.Limits.{scale}
use Rattle.network.specs.Sound.{GateOk, GatesOk, Sound}
use Rattle.network.specs.Record.{net_of, layout, sound_record}
use Rattle.network.specs.LimitLaws.{gate_sizes}
use Rattle.network.specs.RecordLaws.{net_of_layout, sound_layout}
use Rattle.network_report.specs.Size.{weights_cost, gate_cost, cost, report_of, reported}

-- the report of a sound network's record is that of the network
pub report_layout : (N : Net) → Sound N → reported (layout N) ≡ report_of (accepted N)
unfolding reported
report_layout N s =
    let whole = is_true (sound_record (layout N)) (sound_layout N s) in
    let read = accepted (net_of (layout N)) in
    ap report_of (checks_next (sound_record (layout N)) 20 [] read whole ∙ checks_none read ∙ ap accepted (net_of_layout N s))

-- ---- cost: at most 17 × 1,000,000 a gate
weights_cost_small : (fs : List Feed) → Each (λ f. nat_abs f.weight ≤ scale) fs → weights_cost fs ≤ scale * length fs
unfolding weights_cost
weights_cost_small [] h = omega arith
weights_cost_small (f ∷ fs) h = omega (arith, h.0, weights_cost_small fs h.1)

gate_small : (n : ℕ) (g : Gate) → GateOk n g → gate_cost g ≤ 17000000
unfolding gate_cost
gate_small n g o = let z = gate_sizes g o.scaled in omega (arith, o.few, z.0, weights_cost_small g.feeds z.1)

pub cost_small : (n : ℕ) (gs : List Gate) → GatesOk n gs → cost gs ≤ 17000000 * length gs
unfolding cost
cost_small n [] h = omega arith
cost_small n (g ∷ gs) h = omega (arith, gate_small n g h.0, cost_small (suc n) gs h.1)
