-- The journal's arrays: the steps that they stand for, a step entered, and the newest taken out. Document 02, No. 5. Nothing is proved here.
use Rattle.std.specs.Prelude.{cond, List, [], ◌∷◌, ◌++◌, map, ℕ, ◌+◌, ◌-◌, ltb, eqb, pos, length, get_or, take, drop, replicate}
use Rattle.basics.specs.Lists.{tab}
use Rattle.network.specs.Record.{nth_gate, place_of, gate_in, gate_record, row_at}
use Rattle.network.specs.declared.GateRecord.{GateRecord}
use Rattle.call_theory.specs.Steps.{Step, merging, dropping, old_gate}
use Rattle.journal.specs.declared.Journal.{Journal}

-- ---- the steps that a journal stands for

-- a step by its kind, 0 for a merge, its signal and the places of its gate
unfoldable pub step_of : ℕ → ℕ → GateRecord → Step
step_of kind signal row = cond (eqb kind 0) (merging signal (gate_in row)) (dropping signal (gate_in row))

-- the places of step i's gate
abbrev pub row_of : Journal → ℕ → GateRecord
row_of j i = row_at j.fanins j.thresholds j.feeds j.weights i

unfoldable pub step_at : Journal → ℕ → Step
step_at j i = step_of (get_or j.kinds i 0) (get_or j.signals i 0) (row_of j i)

-- the newest first
unfoldable pub steps_in : Journal → List Step
steps_in j = tab j.count (step_at j)

-- ---- the journal of a list of steps, newest first; spare places hold 0

unfoldable pub kind_of : Step → ℕ
kind_of (merging v g) = 0
kind_of (dropping u g) = 1

unfoldable pub signal_of : Step → ℕ
signal_of (merging v g) = v
signal_of (dropping u g) = u

unfoldable pub journal_of : List Step → Journal
journal_of ss = record {
  count = length ss;
  kinds = tab 64 (λ i. get_or (map kind_of ss) i 0);
  signals = tab 64 (λ i. get_or (map signal_of ss) i 0);
  fanins = tab 64 (λ i. length (nth_gate (map old_gate ss) i).feeds);
  thresholds = tab 64 (λ i. (nth_gate (map old_gate ss) i).threshold);
  feeds = tab 1024 (λ p. (place_of (map old_gate ss) p).signal);
  weights = tab 1024 (λ p. (place_of (map old_gate ss) p).weight);
}

-- "A read empties the journal"
unfoldable pub empty_journal : Journal
empty_journal = record {
  count = 0;
  kinds = replicate 64 0;
  signals = replicate 64 0;
  fanins = replicate 64 0;
  thresholds = replicate 64 (pos 0);
  feeds = replicate 1024 0;
  weights = replicate 1024 (pos 0);
}

-- ---- what becomes of any journal's arrays

-- a step put before the others; "the oldest step goes when it is full"
unfoldable pub with_step : Journal → ℕ → ℕ → GateRecord → Journal
with_step j kind signal row = record {
  count = cond (ltb j.count 64) (j.count + 1) 64;
  kinds = take 64 (kind ∷ j.kinds);
  signals = take 64 (signal ∷ j.signals);
  fanins = take 64 (row.fanin ∷ j.fanins);
  thresholds = take 64 (row.threshold ∷ j.thresholds);
  feeds = take 1024 (row.signals ++ j.feeds);
  weights = take 1024 (row.weights ++ j.weights);
}

unfoldable pub enter : Journal → Step → Journal
enter j s = with_step j (kind_of s) (signal_of s) (gate_record (old_gate s))

-- steps entered one after another
unfoldable pub enter_all : Journal → List Step → Journal
enter_all j [] = j
enter_all j (s ∷ new) = enter_all (enter j s) new

-- the newest step taken out; the places that become spare hold 0
unfoldable pub without_newest : Journal → Journal
without_newest j = record {
  count = j.count - 1;
  kinds = drop 1 j.kinds ++ replicate 1 0;
  signals = drop 1 j.signals ++ replicate 1 0;
  fanins = drop 1 j.fanins ++ replicate 1 0;
  thresholds = drop 1 j.thresholds ++ replicate 1 (pos 0);
  feeds = drop 16 j.feeds ++ replicate 16 0;
  weights = drop 16 j.weights ++ replicate 16 (pos 0);
}
