-- The word of at most 16 outputs fits.
use Rattle.std.proofs.Common.{false, get_or, arith}
use Rattle.frame_reading.proofs.OutputLaws.{word_none, word_next, word_fits}
use Rattle.basics.specs.TestLaws.{byte_below}
use Rattle.frame_reading.proofs.unchecked.output_word.Goals as goal

pub loop-j-init : goal.loop-j-init
loop-j-init c = word_none _ _ _

pub overflow_mul-word : goal.overflow_mul-word
overflow_mul-word c = omega (arith, word_fits c.loop-j.invariant c.requires)

pub overflow_add-word : goal.overflow_add-word
overflow_add-word c = omega (arith, word_fits c.loop-j.invariant c.requires, byte_below (get_or c.args.values.now c.from.result false))

pub loop-j-preserved : goal.loop-j-preserved
loop-j-preserved c = rw (c.from-in-loop-j.ensures, c.from.ensures) (word_next c.loop-j.invariant (omega arith))
