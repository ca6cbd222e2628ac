-- Cost and levels of a network, and what the size report answers. Document 01, "Size report and `fold`". Nothing is proved here.
use Rattle.std.specs.Prelude.{List, [], ◌∷◌, ℕ, ◌+◌, nat_abs, length}
use Rattle.basics.specs.Refusals.{Answer, accepted, refused, ◌else◌, checks}
use Rattle.network.specs.Threshold.{Feed, Gate, Net}
use Rattle.network.specs.Record.{net_of, sound_record}
use Rattle.network.specs.declared.Network.{Network}
use Rattle.network_levels.specs.Levels.{levels_from}
use Rattle.network_report.specs.declared.SizeReport.{SizeReport}

-- ---- "Cost: sum over gates of |weights| and |T|"

unfoldable pub weights_cost : List Feed → ℕ
weights_cost [] = 0
weights_cost (f ∷ fs) = nat_abs f.weight + weights_cost fs

unfoldable pub gate_cost : Gate → ℕ
gate_cost g = nat_abs g.threshold + weights_cost g.feeds

unfoldable pub cost : List Gate → ℕ
cost [] = 0
cost (g ∷ gs) = gate_cost g + cost gs

-- ---- levels: "the network has the highest"

unfoldable pub levels : Net → ℕ
levels N = levels_from N.inputs N.gates (λ s. 0)

-- gates, cost and levels, one after the other
abbrev pub sizes : Net → List ℕ
sizes N = length N.gates ∷ cost N.gates ∷ levels N ∷ []

-- ---- the report: order 20

unfoldable pub report_of : Answer Net → SizeReport
report_of (accepted N) = record { code = 0; gates = length N.gates; cost = cost N.gates; levels = levels N }
report_of (refused c) = record { code = c; gates = 0; cost = 0; levels = 0 }

unfoldable pub reported : Network → SizeReport
reported r = report_of (checks ((sound_record r else 20) ∷ []) (accepted (net_of r)))
