-- Internal: two networks with equal inputs side by side as one list of gates over joint signals: the inputs, the first network's gates, the
-- second's. Nothing is proved here.
use Rattle.std.specs.Prelude.{List, ◌++◌, map, ℕ}
use Rattle.network.specs.Threshold.{Gate, Net, Assignment, values}
use Rattle.network.specs.Changes.{with_gates}
use Rattle.question_theory.specs.Question.{second_of, over_gate}

-- the gates of A, then those of B over the joint signals: an input keeps its signal, a gate's rises by the number of A's gates, as in the question
unfoldable pub joined : Net → Net → List Gate
joined A B = A.gates ++ map (over_gate (second_of A)) B.gates

-- A with B's gates beside its own
abbrev pub beside : Net → Net → Net
beside A B = with_gates A (joined A B)

-- the bits of all joint signals, given those of the inputs
unfoldable pub both : Net → Net → Assignment → Assignment
both A B ρ = values (beside A B) ρ
