-- The terms so far stand at the front, and after them what stood there at first.
use Rattle.std.proofs.Common.{map, take}
use Rattle.question_theory.specs.Text.{terms_text}
use Rattle.texts.specs.Writes.{TextPut}
use Rattle.question_terms.specs.Terms.{term_in}
use Rattle.question_writing.proofs.unchecked.put_terms.Given as goal

abbrev pub invariant-loop-term : goal.invariant-loop-term
invariant-loop-term l = TextPut (terms_text (map term_in (take l.term-index l.terms))) l.at l.initial.out l.out
