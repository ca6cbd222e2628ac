-- Internal: the margins of gates by the places of a record, as the code tests them. Nothing is proved here.
use Rattle.std.specs.Prelude.{Bool, List, map, ℕ, ◌*◌, ◌≤◌, ◌<◌, ℤ, pos, get_or}
use Rattle.basics.specs.Lists.{range, below}
use Rattle.gate_rising.specs.Sums.{every_sum}
use Rattle.gate_margins.specs.Sums.{outside}
use Rattle.gate_margins.specs.Tables.{OnScale}
use Rattle.network.specs.declared.Board.{Board}
use Rattle.network.specs.declared.Network.{Network}

-- count weights, from a place on
unfoldable pub weights_from : List ℤ → ℕ → ℕ → List ℤ
weights_from weights p count = map (λ i. get_or weights i (pos 0)) (range p count)

-- the gate at the places of gate g keeps the margins
unfoldable pub places_keep : Board → List ℕ → List ℤ → List ℤ → ℕ → Bool
places_keep b fanins thresholds weights g =
    every_sum (outside b.on b.off (get_or thresholds g (pos 0))) (weights_from weights (16 * g) (get_or fanins g 0))

-- what a caller has tested: each gate's feed count, weights and threshold are within the limits
pub record GatesOnScale (fanins : List ℕ) (thresholds weights : List ℤ) (gates : ℕ) : Type 0 where
  pub few : gates ≤ 128
  pub each : (g : ℕ) → g < gates → OnScale (weights_from weights (16 * g) (get_or fanins g 0)) (get_or thresholds g (pos 0))

-- the same of a record's gates
abbrev pub RecordOnScale : Network → Type 0
RecordOnScale r = GatesOnScale r.fanins r.thresholds r.weights r.gates

-- each gate of a record keeps the margins
abbrev pub record_keeps : Network → Bool
record_keeps r = below r.gates (places_keep r.board r.fanins r.thresholds r.weights)
