-- A collapse on a sound record, from what it answers on its network. Assumes nothing.
use mathlib.Core.Path.{◌≡◌, refl}
use mathlib.Core.Bool.{true}
use Prim.Native.Nat.{ℕ}
use Rattle.basics.specs.Refusals.{accepted, refused}
use Rattle.network.specs.Threshold.{Net}
use Rattle.network.specs.Record.{net_of, layout}
use Rattle.fold_theory.specs.Collapse.{collapse}
use Rattle.call_theory.specs.Steps.{collapse_steps}
use Rattle.call_theory.specs.Calls.{steps_of, reply_of}
use Rattle.call_theory.specs.declared.Call.TheVariants.{Collapse}
use Rattle.journal.specs.Journals.{enter_all}
use Rattle.journal.specs.Records.{state_of, sound_whole}
use Rattle.journal.specs.Answers.{journal_after, applied}
use Rattle.journal.specs.Parts.{refusing, answered}
use Rattle.journal.specs.declared.Record.{Record}
use Rattle.journal.proofs.CallLaws.{IsCall, call_refused, call_accepted}

module _ (r : Record) (whole : sound_whole r ≡ true) (s : ℕ) where
  is_collapse : IsCall r (Collapse s) (λ M. collapse M s)
  unfolding reply_of state_of
  is_collapse = refl

  pub collapse_refused : (c : ℕ) → collapse (net_of r.network) s ≡ refused c → refusing c r ≡ applied r (Collapse s)
  collapse_refused = call_refused r (Collapse s) (λ M. collapse M s) whole is_collapse

  pub collapse_entered : (M : Net) → collapse (net_of r.network) s ≡ accepted M
      → answered (layout M) (enter_all r.journal (collapse_steps (net_of r.network) s)) 0 ≡ applied r (Collapse s)
  unfolding journal_after steps_of
  collapse_entered = call_accepted r (Collapse s) (λ M. collapse M s) whole is_collapse
