-- What is claimed of lists of calls, undo among them. Document 01, "A list of calls"; document 02, No. 1 and No. 5. Nothing is proved here.
use Rattle.std.specs.Prelude.{◌≡◌, List, [], ◌∷◌, ◌↔◌, ℕ, ◌-◌, ◌≤◌, length, take}
use Rattle.basics.specs.Refusals.{accepted, refused, Passed}
use Rattle.network.specs.Threshold.{Net}
use Rattle.network.specs.Changes.{with_gate}
use Rattle.network_report.specs.Size.{report_of}
use Rattle.fold_theory.specs.Merge.{edge, merged, limits}
use Rattle.fold_theory.specs.Guarantee.{Alike, AlikeUnderAll, MarginsKept, Collapsible, SweepDone}
use Rattle.call_theory.specs.Steps.{Step, undo_of, State}
use Rattle.call_theory.specs.Calls.{Given, figures_of, without_figures, steps_of, moved, answer, leaves, undos}
use Rattle.call_theory.specs.Trail.{StepsTaken}
use Rattle.call_theory.specs.declared.Call.{Call}
use Rattle.call_theory.specs.declared.Call.TheVariants.{Merge, Drop, Collapse, Sweep, Preview, Undo}

-- ---- each call, at the state that it gets

-- a merge is accepted, with the merged gate in the place of v, exactly when merged gate and composed pair agree and the margins are kept:
-- agreement is meant on every setting of the distinct feeds, or under every assignment, which is the same
pub record MergeExact (q : State) (u v k l : ℕ) : Type 0 where
  pub same : Alike (edge q.net u v) k l ↔ AlikeUnderAll (edge q.net u v) k l
  pub accepts : Alike (edge q.net u v) k l → MarginsKept (edge q.net u v) k l
      → answer q (Merge u v k l) ≡ accepted (without_figures (moved q (Merge u v k l) (with_gate q.net v (merged (edge q.net u v) k l))))
  pub only : (g : Given) → answer q (Merge u v k l) ≡ accepted g → Alike (edge q.net u v) k l × MarginsKept (edge q.net u v) k l

-- a collapse is accepted exactly when u is a gate and no output and every gate that reads it has a pair
pub record CollapseExact (q : State) (u : ℕ) : Type 0 where
  pub accepts : Collapsible q.net u → (M : Net) × (answer q (Collapse u) ≡ accepted (without_figures (moved q (Collapse u) M)))
  pub only : (g : Given) → answer q (Collapse u) ≡ accepted g → Collapsible q.net u

-- a preview leaves the state as it was; its figures are those of the report of the network that a collapse would have left there, and where
-- that is refused so is the preview, with the same number
pub record PreviewExact (q : State) (u : ℕ) : Type 0 where
  pub same : leaves q (answer q (Preview u)) ≡ q
  pub shows : (g : Given) → answer q (Collapse u) ≡ accepted g
      → answer q (Preview u) ≡ accepted (record { state = q; figures = figures_of (report_of (accepted g.state.net)) })
  pub refuses : (c : ℕ) → answer q (Collapse u) ≡ refused c → answer q (Preview u) ≡ refused c

-- what an accepted merge, drop, collapse or sweep enters are merges and drops that are accepted one after another, from the network before the
-- call to the one after it, each of which can be taken back; and where they are at most 64, as many undos give back the network before the
-- call, with as much of its journal as was not lost
pub record StepsEntered (q : State) (c : Call) : Type 0 where
  pub single_steps : (g : Given) → answer q c ≡ accepted g → StepsTaken q.net (steps_of q.net c) g.state.net
  pub restored : (g : Given) → answer q c ≡ accepted g → length (steps_of q.net c) ≤ 64
      → undos (length (steps_of q.net c)) g.state ≡ record { net = q.net; steps = take (64 - length (steps_of q.net c)) q.steps }

-- an undo: 22 where the journal is empty, else the latest step is taken back; "which no record that came from a read and these calls can show":
-- 23 is never given
pub record UndoExact (q : State) : Type 0 where
  pub none : q.steps ≡ [] → answer q Undo ≡ refused 22
  pub some : (s : Step) (ss : List Step) → q.steps ≡ s ∷ ss → answer q Undo ≡ accepted (without_figures (record { net = undo_of q.net s; steps = ss }))

abbrev pub Claim : State → Call → Type 0
Claim q (Merge u v k l) = (Passed (limits q.net u v k l) → MergeExact q u v k l) × StepsEntered q (Merge u v k l)
Claim q (Drop u) = StepsEntered q (Drop u)
Claim q (Collapse u) = CollapseExact q u × StepsEntered q (Collapse u)
Claim q (Sweep B) = ((g : Given) → answer q (Sweep B) ≡ accepted g → SweepDone q.net B g.state.net g.figures.first) × StepsEntered q (Sweep B)
Claim q (Preview u) = PreviewExact q u
Claim q Undo = UndoExact q
