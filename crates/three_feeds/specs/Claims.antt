-- The claims on the whole table. Nothing is proved here.
use Rattle.std.specs.Prelude.{◌≡◌, ◌↔◌, ℕ, ◌<◌, T, length}
use Rattle.basics.specs.Lists.{keep}
use Rattle.network.specs.Threshold.{Gate, Assignment, bit, frame}
use Rattle.three_feeds.specs.Rule.{HasFunction, OverThree, EntryRule, gate_on_signals, setting_of, has_gate}
use Rattle.three_feeds.specs.Table.{table_entries, table_entry}
use Rattle.three_feeds.specs.declared.TableEntry.{TableEntry}
use Rattle.three_feeds.specs.declared.TableEntry.TheVariants.{HasGate, NoGate}

-- every entry is right
abbrev pub EveryEntry : Type 0
EveryEntry = (table : ℕ) → table < 256 → EntryRule table (table_entry table)

-- exactly 104 have a gate; and these are the truth tables that any gate over the three feeds has
pub record Exactly104 : Type 0 where
  pub table_length : length table_entries ≡ 256
  pub count : length (keep has_gate table_entries) ≡ 104
  pub none_missed : (table : ℕ) → table < 256 → (T (has_gate (table_entry table)) ↔ ((g : Gate) × OverThree g × HasFunction table g))

-- a gate of the table, put on any three signals, has the truth table's bit of the setting that they have
abbrev pub ServesSignals : ℕ → TableEntry → Type 0
ServesSignals table (HasGate a b c t) = (ρ : Assignment) (i j k : ℕ) → bit ρ (gate_on_signals i j k a b c t) ≡ frame table (setting_of ρ i j k)
ServesSignals table (NoGate x y u v) = Unit {0}

-- so does each of them
abbrev pub EveryGate : Type 0
EveryGate = (table : ℕ) → table < 256 → ServesSignals table (table_entry table)
