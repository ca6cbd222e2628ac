-- What a call of a list on a record answers. Nothing is proved here.
use Rattle.std.specs.Prelude.{[], ◌∷◌}
use Rattle.basics.specs.Refusals.{Answer, accepted, refused, ◌else◌, checks}
use Rattle.network.specs.Threshold.{Net}
use Rattle.network.specs.Record.{net_of, layout}
use Rattle.call_theory.specs.Calls.{Given, no_figures, steps_of, answer}
use Rattle.call_theory.specs.declared.Call.{Call}
use Rattle.call_theory.specs.declared.Call.TheVariants.{Merge, Drop, Collapse, Sweep, Preview, Undo}
use Rattle.journal.specs.Journals.{enter_all, without_newest}
use Rattle.journal.specs.Records.{state_of, sound_whole}
use Rattle.journal.specs.declared.CallAnswer.{CallAnswer}
use Rattle.journal.specs.declared.Journal.{Journal}
use Rattle.journal.specs.declared.Record.{Record}

-- the journal after an accepted call at N: an undo takes the newest step out, every other call enters its steps
unfoldable pub journal_after : Journal → Net → Call → Journal
journal_after j N (Merge u v k l) = enter_all j (steps_of N (Merge u v k l))
journal_after j N (Drop s) = enter_all j (steps_of N (Drop s))
journal_after j N (Collapse s) = enter_all j (steps_of N (Collapse s))
journal_after j N (Sweep b) = enter_all j (steps_of N (Sweep b))
journal_after j N (Preview s) = enter_all j (steps_of N (Preview s))
journal_after j N Undo = without_newest j

-- the answer as the call gives it; a refusal hands the record back, "with 0 for every other number"
unfoldable pub as_call_answer : Record → Call → Answer Given → CallAnswer
as_call_answer r c (accepted g) = record {
  code = 0;
  after = record { network = layout g.state.net; journal = journal_after r.journal (net_of r.network) c };
  figures = g.figures;
}
as_call_answer r c (refused k) = record { code = k; after = r; figures = no_figures }

-- 20 for the network or the journal, then the call's own order
unfoldable pub applied : Record → Call → CallAnswer
applied r c = as_call_answer r c (checks ((sound_whole r else 20) ∷ []) (answer (state_of r) c))
