-- Internal: what the advice asks for. Nothing is proved here.
use Rattle.std.specs.Prelude.{ℕ, ◌+◌, ◌<◌, ◌≤◌, ◌≡◌, List, slice_index}
use Rattle.compare_theory.specs.Joint.{fanin}
use Rattle.compare_advice.specs.declared.unchecked.notes.Notes.{Notes}

-- a row of wires has at most 16 feeds, each of one of 296 signals
pub record FeedsThere (wires : List ℕ) : Type 0 where
  pub few : fanin wires ≤ 16
  pub there : (i : ℕ) → i < fanin wires → slice_index wires (1 + i) < 296

-- what a look at frames leaves of the notes: the first network's outputs. The marks and the frame found are free: what reads them trusts neither
pub record Looked (before after : Notes) : Type 0 where
  pub drivers : after.drivers ≡ before.drivers
  pub outputs : after.outputs ≡ before.outputs
