-- Internal: the rows of a gate over joint signals, and a network's gates put into two tables of rows. Nothing is proved here.
use Rattle.std.specs.Prelude.{◌≡◌, List, [], ◌∷◌, map, ℕ, ◌<◌, ℤ, get_or, length}
use Rattle.network.specs.Threshold.{Net}
use Rattle.network.specs.Places.{Pasted}
use Rattle.network.specs.Record.{row_at}
use Rattle.network.specs.declared.GateRecord.{GateRecord}
use Rattle.network.specs.declared.Network.{Network}
use Rattle.question_theory.specs.Question.{second_variable, second_of}

-- the feed count, then the joint signals of the 16 places
abbrev pub wires_row : (ℕ → ℕ) → GateRecord → List ℕ
wires_row φ gate = gate.fanin ∷ map φ gate.signals

-- the threshold, then the weights of these places
abbrev pub weights_row : GateRecord → List ℤ
weights_row gate = gate.threshold ∷ gate.weights

-- the gates of a record are put from row start on, over the signals of a network before whose gates start others come
pub record Laid (r : Network) (start : ℕ) (wires : List (List ℕ)) (weights : List (List ℤ)) (wires' : List (List ℕ)) (weights' : List (List ℤ)) : Type 0 where
  pub wires_put : Pasted [] start r.gates (λ g. wires_row (second_variable r.inputs start) (row_at r.fanins r.thresholds r.signals r.weights g)) wires wires'
  pub weights_put : Pasted [] start r.gates (λ g. weights_row (row_at r.fanins r.thresholds r.signals r.weights g)) weights weights'

-- the joint signals of the second network's outputs are at the first of 16 places
pub record OutputsPut (A B : Net) (outs : List ℕ) : Type 0 where
  pub long : length outs ≡ 16
  pub at : (j : ℕ) → j < length B.outputs → get_or outs j 0 ≡ second_of A (get_or B.outputs j 0)
