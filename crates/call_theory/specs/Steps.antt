-- The journal of accepted steps, and undo. Document 02, No. 5, "Take a fold back". Nothing is proved here.
use Rattle.std.specs.Prelude.{Bool, cond, ◌&&◌, List, [], ◌∷◌, ◌++◌, ℕ, zero, suc, ◌+◌, leb, length, take}
use Rattle.basics.specs.Refusals.{Answer, accepted, refused, ◌else◌, checks}
use Rattle.network.specs.Threshold.{Gate, Net}
use Rattle.network.specs.Limits.{is_gate, sound}
use Rattle.network.specs.Changes.{gate_at, with_gate, inserted}
use Rattle.fold_theory.specs.Merge.{silent}
use Rattle.fold_theory.specs.Collapse.{collapse}
use Rattle.fold_theory.specs.Sweep.{readers, sweep_once, go_on}

-- ---- steps

-- "accepted merges and drops", the "single steps": a merge, with v and the gate that stood there; or a drop, with its signal and the gate that
-- was removed
pub data Step : Type 0 where
  merging : ℕ → Gate → Step
  dropping : ℕ → Gate → Step

-- the gate that stood there
unfoldable pub old_gate : Step → Gate
old_gate (merging v g) = g
old_gate (dropping u g) = g

-- "restores the network as it was before it, signals included"
unfoldable pub undo_of : Net → Step → Net
undo_of N (merging v g) = with_gate N v g
undo_of N (dropping u g) = inserted N u g

-- ---- the journal, newest step first

-- "a journal of the last 64 accepted merges and drops": "the oldest step goes when it is full"
unfoldable pub entered : Step → List Step → List Step
entered s ss = take 64 (s ∷ ss)

-- steps entered one after another
unfoldable pub entered_all : List Step → List Step → List Step
entered_all [] ss = ss
entered_all (s ∷ new) ss = entered_all new (entered s ss)

-- what a record stands for: "The record gains a journal"
pub record State : Type 0 where
  pub net : Net
  pub steps : List Step

-- "A read empties the journal"
unfoldable pub just_opened : Net → State
just_opened N = record { net = N; steps = [] }

-- "A journal that claims more than 64 steps makes a record not sound"
unfoldable pub sound_state : State → Bool
sound_state q = sound q.net && leb (length q.steps) 64

-- ---- "a collapse enters its single steps"

-- the merges of u into the gates from signal n on that read it, in rising order: each such gate as it was
unfoldable pub reader_steps : ℕ → ℕ → List Gate → List Step
reader_steps u n [] = []
reader_steps u n (g ∷ gs) = cond (silent u g) (reader_steps u (suc n) gs) (merging n g ∷ reader_steps u (suc n) gs)

-- those merges, and then the drop
unfoldable pub collapse_steps : Net → ℕ → List Step
collapse_steps N u = reader_steps u N.inputs N.gates ++ (dropping u (gate_at N u) ∷ [])

-- the steps of the one collapse that a turn of a sweep makes: that of the lowest of the n gates from u on that has at most B readers and that
-- collapse accepts
unfoldable pub turn_steps : Net → ℕ → ℕ → ℕ → List Step
turn_steps N B u zero = []
turn_steps N B u (suc n) = go_on (checks ((leb (readers N u) B else 0) ∷ []) (collapse N u)) (λ M. collapse_steps N u) (turn_steps N B (suc u) n)

-- the steps of a sweep's collapses, one collapse after another, at most n
unfoldable pub sweep_steps : ℕ → ℕ → Net → List Step
sweep_steps zero B N = []
sweep_steps (suc n) B N = go_on (sweep_once N B) (λ M. turn_steps N B N.inputs (length N.gates) ++ sweep_steps n B M) []

-- ---- undo

-- the step's gate has a place in N: a merge's v is the signal of a gate, and a drop's is that of a gate, or the one after the last
unfoldable pub placed : Net → Step → Bool
placed N (merging v g) = is_gate N v
placed N (dropping u g) = leb N.inputs u && leb u (N.inputs + length N.gates)

-- it is no "step that would leave an unsound network"
unfoldable pub undoable : Net → Step → Bool
undoable N s = placed N s && sound (undo_of N s)

-- "Undo takes back the latest step": 22 for "an empty journal", 23 for "a step that would leave an unsound network"
unfoldable pub latest : Net → List Step → Answer State
latest N [] = refused 22
latest N (s ∷ ss) = checks ((undoable N s else 23) ∷ []) (accepted (record { net = undo_of N s; steps = ss }))

-- order 20, 22, 23
unfoldable pub undo : State → Answer State
undo q = checks ((sound_state q else 20) ∷ []) (latest q.net q.steps)
