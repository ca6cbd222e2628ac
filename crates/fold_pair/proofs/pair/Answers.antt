-- The record's own refusal, then the pair of a sound record. Assumes nothing.
use Rattle.std.proofs.Common.{sym, ◌∙◌}
use Rattle.fold_pair.specs.PairLaws.{pair_broken}
use Rattle.fold_pair.proofs.pair.Goals as goal

pub returns-then-not-is_sound : goal.returns-then-not-is_sound
returns-then-not-is_sound c = c.no_pair.ensures ∙ sym (pair_broken c.args.network (sym c.if-not-is_sound.ensures) c.args.u c.args.v)
