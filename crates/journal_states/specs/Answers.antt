-- Internal: the answer of a call on the record of a state. Nothing is proved here.
use Rattle.basics.specs.Refusals.{Answer, accepted, refused}
use Rattle.call_theory.specs.Steps.{State}
use Rattle.call_theory.specs.Calls.{Given, no_figures}
use Rattle.journal.specs.Records.{record_of}
use Rattle.journal.specs.declared.CallAnswer.{CallAnswer}

-- an answer at q: the record of the state that is left
unfoldable pub answer_on : State → Answer Given → CallAnswer
answer_on q (accepted g) = record { code = 0; after = record_of g.state; figures = g.figures }
answer_on q (refused c) = record { code = c; after = record_of q; figures = no_figures }
