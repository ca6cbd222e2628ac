-- A broken record is refused; else the call is made on the record. Assumes nothing.
use Rattle.std.proofs.Common.{sym, ◌∙◌}
use Rattle.call_theory.specs.Calls.{no_figures}
use Rattle.journal.proofs.AnswerLaws.{applied_broken}
use Rattle.call_apply.proofs.apply.Goals as goal

pub returns-then-not-is_sound : goal.returns-then-not-is_sound
unfolding no_figures
returns-then-not-is_sound c = c.refusal.ensures ∙ sym (applied_broken c.args.held c.args.call (sym c.is_sound.ensures ∙ c.if-not-is_sound.true))
