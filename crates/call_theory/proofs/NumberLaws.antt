-- No call of a list answers 13, "against the grain". Assumes nothing.
use Rattle.std.specs.Prelude.{List, [], ◌∷◌}
use Rattle.std.proofs.Common.{arith}
use Rattle.basics.specs.Refusals.{accepted, ◌else◌}
use Rattle.network.specs.Threshold.{Net}
use Rattle.fold_theory.specs.Merge.{merge}
use Rattle.fold_theory.specs.Collapse.{drop_gate, collapse}
use Rattle.fold_theory.specs.Sweep.{sweep}
use Rattle.fold_theory.proofs.RefusalLaws.{NeverSays, checks_never, bind_never}
use Rattle.fold_theory.proofs.NumberLaws.{merge_never, drop_never, collapse_never, sweep_never}
use Rattle.call_theory.specs.Steps.{Step, State, sound_state, undoable, latest, undo}
use Rattle.call_theory.specs.Calls.{reply_of, answer}
use Rattle.call_theory.specs.declared.Call.{Call}
use Rattle.call_theory.specs.declared.Call.TheVariants.{Merge, Drop, Collapse, Sweep, Preview, Undo}

latest_never : (N : Net) (ss : List Step) → NeverSays 13 (latest N ss)
unfolding latest
latest_never N [] = omega arith
latest_never N (s ∷ ss) = checks_never 13 ((undoable N s else 23) ∷ []) (accepted _) (omega arith, tt) tt

undo_never : (q : State) → NeverSays 13 (undo q)
unfolding undo
undo_never q = checks_never 13 ((sound_state q else 20) ∷ []) _ (omega arith, tt) (latest_never q.net q.steps)

reply_never : (q : State) (c : Call) → NeverSays 13 (reply_of q c)
unfolding reply_of
reply_never q (Merge u v k l) = bind_never 13 (merge q.net u v k l) _ (merge_never q.net u v k l) (λ M. tt)
reply_never q (Drop u) = bind_never 13 (drop_gate q.net u) _ (drop_never q.net u) (λ M. tt)
reply_never q (Collapse u) = bind_never 13 (collapse q.net u) _ (collapse_never q.net u) (λ M. tt)
reply_never q (Sweep B) = bind_never 13 (sweep q.net B) _ (sweep_never q.net B) (λ s. tt)
reply_never q (Preview u) = bind_never 13 (collapse q.net u) _ (collapse_never q.net u) (λ M. tt)
reply_never q Undo = bind_never 13 (undo q) _ (undo_never q) (λ p. tt)

pub answer_never : (q : State) (c : Call) → NeverSays 13 (answer q c)
unfolding answer
answer_never q c = checks_never 13 ((sound_state q else 20) ∷ []) _ (omega arith, tt) (reply_never q c)
