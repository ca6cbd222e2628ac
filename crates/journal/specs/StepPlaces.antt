-- Internal: a journal by the step of each of its places. Nothing is proved here.
use Rattle.std.specs.Prelude.{List, ℕ, ◌/◌, ◌%◌, length, get_or}
use Rattle.basics.specs.Lists.{tab}
use Rattle.network.specs.Threshold.{Feed}
use Rattle.network.specs.Record.{no_feed, no_gate}
use Rattle.call_theory.specs.Steps.{Step, merging, old_gate}
use Rattle.journal.specs.Journals.{kind_of, signal_of}
use Rattle.journal.specs.declared.Journal.{Journal}

-- the step that a spare place stands for
abbrev pub spare_step : Step
spare_step = merging 0 no_gate

-- step i of a list
abbrev pub nth : List Step → ℕ → Step
nth ss i = get_or ss i spare_step

-- feed i of a step's gate
abbrev pub feed_in : Step → ℕ → Feed
feed_in s i = get_or (old_gate s).feeds i no_feed

-- the journal of n steps, with the step of each place
unfoldable pub tabled : ℕ → (ℕ → Step) → Journal
tabled n at = record {
  count = n;
  kinds = tab 64 (λ i. kind_of (at i));
  signals = tab 64 (λ i. signal_of (at i));
  fanins = tab 64 (λ i. length (old_gate (at i)).feeds);
  thresholds = tab 64 (λ i. (old_gate (at i)).threshold);
  feeds = tab 1024 (λ p. (feed_in (at (p / 16)) (p % 16)).signal);
  weights = tab 1024 (λ p. (feed_in (at (p / 16)) (p % 16)).weight);
}
