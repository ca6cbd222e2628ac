-- Places that all hold 0 are no terms.
use Rattle.std.proofs.Common.{to_z-of_z}
use Rattle.question_terms.specs.TermLaws.{stands_empty}
use Rattle.question_terms.proofs.unchecked.no_terms.Goals as goal

pub returns : goal.returns
returns c = rw (to_z-of_z c.ranges.right) (stands_empty c.args.right)
