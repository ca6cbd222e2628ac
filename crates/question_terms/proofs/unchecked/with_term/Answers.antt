-- The term is stored at the first spare place.
use Rattle.std.proofs.Common.{to_z-of_z}
use Rattle.question_terms.specs.TermLaws.{stands_more}
use Rattle.question_terms.proofs.unchecked.with_term.Goals as goal

pub returns : goal.returns
returns c = rw (to_z-of_z c.ranges.coefficient) (stands_more c.args.line c.args.variable c.args.coefficient c.requires)
