-- A sweep on a sound record, from what it answers on its network. Assumes nothing.
use mathlib.Core.Path.{◌≡◌, sym, ◌∙◌}
use mathlib.Core.Bool.{true}
use Prim.Native.Nat.{ℕ, ◌≤◌, ◌<◌}
use borrow.Author.Tests.{le-leb, lt-leb}
use Rattle.basics.specs.Refusals.{checks, bind}
use Rattle.network.specs.Limits.{sound}
use Rattle.network.specs.Record.{net_of}
use Rattle.network.specs.RecordLaws.{count_gates}
use Rattle.fold_theory.specs.Sweep.{sweep}
use Rattle.fold_readers.specs.RecordLaws.{net_test}
use Rattle.call_theory.specs.Calls.{no_figures, with_collapses, steps_of, moved, reply_of}
use Rattle.call_theory.specs.declared.Call.TheVariants.{Sweep}
use Rattle.journal.specs.Records.{state_of, sound_whole}
use Rattle.journal.specs.Answers.{journal_after, as_call_answer, applied}
use Rattle.journal.proofs.AnswerLaws.{whole_network, applied_sound, applied_refused}
use Rattle.journal.specs.Parts.{refusing}
use Rattle.journal.specs.declared.Record.{Record}
use Rattle.call_sweep.proofs.TurnLaws.{answer_after}

module _ (r : Record) (whole : sound_whole r ≡ true) (b : ℕ) where
  net_sound : sound (net_of r.network) ≡ true
  net_sound = net_test r.network 0 (whole_network r whole)

  pub sweep_off : 128 < b → refusing 14 r ≡ applied r (Sweep b)
  unfolding reply_of state_of sweep checks bind no_figures
  sweep_off h = sym (applied_refused r (Sweep b) 14 whole (rw (net_sound, lt-leb b 128 h)))

  pub sweep_done : b ≤ 128 → answer_after r b r.network.gates ≡ applied r (Sweep b)
  unfolding reply_of state_of sweep checks bind with_collapses moved as_call_answer journal_after steps_of
  sweep_done h = sym (applied_sound r (Sweep b) whole ∙ rw (net_sound, le-leb b 128 h, count_gates r.network))
