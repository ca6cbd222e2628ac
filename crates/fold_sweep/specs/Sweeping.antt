-- Internal: what is claimed of one step of a sweep on a record. Nothing is proved here.
use Rattle.std.specs.Prelude.{◌≡◌, Option, Some, None, [], ◌∷◌, ℕ, ◌+◌, ◌-◌, ◌≤◌, ◌<◌, leb}
use Rattle.basics.specs.Refusals.{Answer, accepted, ◌else◌, checks}
use Rattle.basics.specs.RefusalLaws.{Refused}
use Rattle.network.specs.Threshold.{Net}
use Rattle.network.specs.Record.{gate_of, net_of}
use Rattle.network.specs.Places.{SoundGate}
use Rattle.network.specs.declared.Network.{Network}
use Rattle.fold_theory.specs.Collapse.{collapse}
use Rattle.fold_theory.specs.Sweep.{readers, sweep_once}
use Rattle.fold_sweep.specs.declared.Choice.{Choice}
use Rattle.fold_reader_pairs.specs.declared.Pairs.{Pairs}
use Rattle.fold_reader_pairs.specs.Collapsing.{AllPairs, collapsed_by}

-- what a sweep asks of gate u
abbrev pub asked : Net → ℕ → ℕ → Answer Net
asked N b u = checks ((leb (readers N u) b else 0) ∷ []) (collapse N u)

-- the n gates from the first on have too many readers, or collapse refuses them
pub record LowerRefused (N : Net) (b inputs n : ℕ) : Type 0 where
  pub each : (i : ℕ) → i < n → Refused (asked N b (inputs + i))

-- the gate with signal u is the next that a sweep collapses, and p has its readers' pairs
pub record NextCollapse (r : Network) (b u : ℕ) (p : Pairs) : Type 0 where
  pub own : SoundGate r u
  pub pairs : AllPairs r.board (gate_of r) r.inputs r.gates u p
  pub collapsed : collapse (net_of r) u ≡ accepted (collapsed_by r u p)
  pub first : sweep_once (net_of r) b ≡ accepted (collapsed_by r u p)
  pub few : readers (net_of r) u ≤ b
  pub lower : LowerRefused (net_of r) b r.inputs (u - r.inputs)

-- a choice is the next gate, or there is none
pub record Chosen (r : Network) (b : ℕ) (m : Option Choice) : Type 0 where
  pub next : (x : Choice) → m ≡ Some x → NextCollapse r b x.u x.pairs
  pub none : m ≡ None → Refused (sweep_once (net_of r) b)
