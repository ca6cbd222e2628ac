use Rattle.std.proofs.Common.{arith}
use Rattle.scorer_ball.specs.PinLaws.{felled_ones_of, standing_ten}
use Rattle.scorer_ball.proofs.unchecked.felled_by.Goals as goal

pub overflow_sub-result : goal.overflow_sub-result
overflow_sub-result c = omega (arith, felled_ones_of c.requires)

pub overflow_cast-result : goal.overflow_cast-result
overflow_cast-result c = omega (arith, standing_ten c.args.before c.requires.ten_before)

pub returns : goal.returns
returns c = omega (arith, felled_ones_of c.requires)
