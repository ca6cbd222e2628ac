-- Internal: what is claimed of a collapse with its steps. Nothing is proved here.
use Rattle.std.specs.Prelude.{◌≡◌, ℕ}
use Rattle.network.specs.Record.{net_of, layout}
use Rattle.fold_reader_pairs.specs.Collapsing.{collapsed_by}
use Rattle.fold_reader_pairs.specs.declared.Pairs.{Pairs}
use Rattle.call_theory.specs.Steps.{collapse_steps}
use Rattle.journal.specs.Journals.{enter_all}
use Rattle.journal.specs.declared.Record.{Record}

-- after is the record before with gate u collapsed into its readers by their pairs, and the steps of this collapse entered
pub record CollapseEntered (before : Record) (u : ℕ) (p : Pairs) (after : Record) : Type 0 where
  pub network_is : after.network ≡ layout (collapsed_by before.network u p)
  pub journal_is : after.journal ≡ enter_all before.journal (collapse_steps (net_of before.network) u)
