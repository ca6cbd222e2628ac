-- Internal: what is claimed of the tests of a drop. Nothing is proved here.
use Rattle.std.specs.Prelude.{◌≡◌, ◌≢◌, ℕ}
use Rattle.basics.specs.Refusals.{accepted, refused}
use Rattle.network.specs.Record.{net_of}
use Rattle.network.specs.Changes.{without}
use Rattle.network.specs.Places.{SoundGate}
use Rattle.network.specs.declared.Network.{Network}
use Rattle.fold_theory.specs.Collapse.{drop_gate}

-- the number is the refusal of a drop of the gate with signal s, or 0 where the drop is accepted
pub record DropTried (r : Network) (s code : ℕ) : Type 0 where
  pub refuses : code ≢ 0 → drop_gate (net_of r) s ≡ refused code
  pub accepts : code ≡ 0 → drop_gate (net_of r) s ≡ accepted (without (net_of r) s)
  pub own : code ≡ 0 → SoundGate r s
