-- A list of calls: document 01, "A list of calls"; document 02, No. 1, "A list of calls may hold previews", and No. 5, "Undo joins the calls in
-- the list". Nothing is proved here.
use Rattle.std.specs.Prelude.{List, [], ◌∷◌, ℕ, zero, suc, ◌+◌, length}
use Rattle.basics.specs.Refusals.{Answer, accepted, refused, ◌else◌, checks, bind}
use Rattle.network.specs.Threshold.{Net}
use Rattle.network.specs.Changes.{gate_at}
use Rattle.network_report.specs.Size.{report_of}
use Rattle.network_report.specs.declared.SizeReport.{SizeReport}
use Rattle.fold_theory.specs.Merge.{merge}
use Rattle.fold_theory.specs.Collapse.{drop_gate, collapse}
use Rattle.fold_theory.specs.Sweep.{sweep}
use Rattle.call_theory.specs.Steps.{Step, merging, dropping, entered_all, State, sound_state, collapse_steps, sweep_steps, undo}
use Rattle.call_theory.specs.declared.Figures.{Figures}
use Rattle.call_theory.specs.declared.Call.{Call}
use Rattle.call_theory.specs.declared.Call.TheVariants.{Merge, Drop, Collapse, Sweep, Preview, Undo}

-- ---- what an accepted call gives

-- the state that it leaves, and three numbers
pub record Given : Type 0 where
  pub state : State
  pub figures : Figures

-- no number to give
unfoldable pub no_figures : Figures
no_figures = record { first = 0; second = 0; third = 0 }

-- the gates, cost and levels of a report
unfoldable pub figures_of : SizeReport → Figures
figures_of z = record { first = z.gates; second = z.cost; third = z.levels }

-- the state that a merge, a drop, a collapse or an undo leaves
unfoldable pub without_figures : State → Given
without_figures q = record { state = q; figures = no_figures }

-- "for a sweep also the number of collapses"
unfoldable pub with_collapses : State → ℕ → Given
with_collapses q collapses = record { state = q; figures = record { first = collapses; second = 0; third = 0 } }

-- a preview at q of a collapse that leaves M: "The preview equals the report on a copy that was really collapsed. The network in hand is as
-- before"
unfoldable pub shown : State → Net → Given
shown q M = record { state = q; figures = figures_of (report_of (accepted M)) }

-- ---- one call

-- the single steps of an accepted call at N, in their order; a preview enters none, and an undo is none
unfoldable pub steps_of : Net → Call → List Step
steps_of N (Merge u v k l) = merging v (gate_at N v) ∷ []
steps_of N (Drop s) = dropping s (gate_at N s) ∷ []
steps_of N (Collapse s) = collapse_steps N s
steps_of N (Sweep b) = sweep_steps (length N.gates) b N
steps_of N (Preview s) = []
steps_of N Undo = []

-- the state after an accepted call that leaves M: its steps are entered
unfoldable pub moved : State → Call → Net → State
moved q c M = record { net = M; steps = entered_all (steps_of q.net c) q.steps }

-- by the call's own order: "A call's answer is "accepted" or the first refusal in its order"; that of a preview is the collapse's: "or the
-- refusal"
unfoldable pub reply_of : State → Call → Answer Given
reply_of q (Merge u v k l) = bind (merge q.net u v k l) (λ M. accepted (without_figures (moved q (Merge u v k l) M)))
reply_of q (Drop s) = bind (drop_gate q.net s) (λ M. accepted (without_figures (moved q (Drop s) M)))
reply_of q (Collapse s) = bind (collapse q.net s) (λ M. accepted (without_figures (moved q (Collapse s) M)))
reply_of q (Sweep b) = bind (sweep q.net b) (λ s. accepted (with_collapses (moved q (Sweep b) s.net) s.collapses))
reply_of q (Preview s) = bind (collapse q.net s) (λ M. accepted (shown q M))
reply_of q Undo = bind (undo q) (λ p. accepted (without_figures p))

-- 20 comes first, for the network or the journal
unfoldable pub answer : State → Call → Answer Given
answer q c = checks ((sound_state q else 20) ∷ []) (reply_of q c)

-- ---- a list

-- "A refused call leaves it as it was"; "An accepted call leaves the network defined above"
unfoldable pub leaves : State → Answer Given → State
leaves q (accepted g) = g.state
leaves q (refused c) = q

-- "The first call gets the network read, each later one the network that the call before it returned"
unfoldable pub calls : State → List Call → State
calls q [] = q
calls q (c ∷ cs) = calls (leaves q (answer q c)) cs

-- ---- steps counted, and undo repeated

-- the single steps of one call, if it was accepted
unfoldable pub steps_if : Answer Given → ℕ → ℕ
steps_if (accepted g) n = n
steps_if (refused c) n = 0

-- "steps .. accepted since the read"; undone ones count
unfoldable pub steps_accepted : State → List Call → ℕ
steps_accepted q [] = 0
steps_accepted q (c ∷ cs) = steps_if (answer q c) (length (steps_of q.net c)) + steps_accepted (leaves q (answer q c)) cs

-- n undos, one after another
unfoldable pub undos : ℕ → State → State
undos zero q = q
undos (suc n) q = undos n (leaves q (answer q Undo))
