-- Internal: what the functions that run a list of calls ask for and promise. Nothing is proved here.
use Rattle.std.specs.Prelude.{◌≡◌}
use Rattle.basics.specs.Refusals.{Answer, code_of}
use Rattle.network.specs.Threshold.{Net}
use Rattle.call_theory.specs.Steps.{State}
use Rattle.call_theory.specs.Calls.{Given, leaves}
use Rattle.call_theory.proofs.TraceLaws.{Traced}
use Rattle.journal.specs.Records.{state_of, record_of}
use Rattle.journal.specs.declared.CallAnswer.{CallAnswer}
use Rattle.journal.specs.declared.Record.{Record}
use Rattle.call_runs.specs.Runs.{figures_in}

-- the record of a state that a read and calls lead to
pub record FromRead (r : Record) : Type 0 where
  pub read : Net
  pub traced : Traced read (state_of r)
  pub laid : record_of (state_of r) ≡ r

-- one call of a list, by its answer: the code, the three numbers, and the record of the state that it leaves
pub record Stepped (q : State) (a : Answer Given) (o : CallAnswer) : Type 0 where
  pub code : o.code ≡ code_of a
  pub figures : o.figures ≡ figures_in a
  pub left : o.after ≡ record_of (leaves q a)
