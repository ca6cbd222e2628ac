-- The table is right: one test over all of its entries, and a law that turns it into the rule at each. Assumes nothing.
use Rattle.std.specs.Prelude.{◌≡◌, refl, true, List, [], ◌∷◌, ◌++◌, map, ℕ, zero, suc, ◌+◌, ◌*◌, ◌<◌, T, ℤ, pos, nat_abs, length, get_or}
use Rattle.std.proofs.Common.{ap, ◌∙◌, subst, true≢false, zero-add, arith, Fits, get_or-append-add}
use Rattle.std.proofs.Math.Bool.{false}
use Rattle.std.proofs.lemmas.Bool.{false≢true}
use Rattle.std.specs.Int.Signed.{non_neg}
use Rattle.std.specs.Int.{w8}
use Rattle.std.proofs.Math.ListN.{get_or-append}
use Rattle.basics.specs.Lists.{below, every, keep, all_from}
use Rattle.basics.specs.ListLaws.{all_from_at}
use Rattle.basics.specs.TableLaws.{get_d_map}
use Rattle.network.specs.Threshold.{sum, bit, frame}
use Rattle.network.specs.Limits.{is_zero, weighs}
use Rattle.three_feeds.specs.Rule.{gate_on_signals, entry_gate, EntryRule, together, has_gate, entry_numbers}
use Rattle.three_feeds.specs.Numbers.{numbers_of_all}
use Rattle.three_feeds.proofs.RuleLaws.{gate_tests, witness_tests, is_right, entry_right, exactly, on_signals}
use Rattle.three_feeds.specs.Table.{table_entries, table_entry}
use Rattle.three_feeds.specs.Claims.{EveryEntry, Exactly104, ServesSignals, EveryGate}
use Rattle.three_feeds.specs.declared.TableEntry.{TableEntry}
use Rattle.three_feeds.specs.declared.TableEntry.TheVariants.{HasGate, NoGate}

-- ---- the one computation
all_right : T (all_from is_right 0 table_entries)
unfolding table_entries all_from is_right gate_tests witness_tests every below together entry_gate gate_on_signals keep weighs is_zero sum bit frame
all_right = tt

gates_counted : length (keep has_gate table_entries) ≡ 104
unfolding table_entries keep has_gate
gates_counted = refl

entries_length : length table_entries ≡ 256
unfolding table_entries
entries_length = refl

-- ---- the rule at each entry
pub every_entry : EveryEntry
unfolding table_entry
every_entry table h =
    entry_right table (table_entry table)
    (subst (λ (n : ℕ). T (is_right n (table_entry table))) (zero-add table)
    (all_from_at is_right 0 table_entries (NoGate 0 0 0 0) all_right table (omega (arith, entries_length))))

pub gates : Exactly104
gates = record {
  table_length = entries_length;
  count = gates_counted;
  none_missed = λ table h. exactly table (table_entry table) (every_entry table h);
}

serves : (table : ℕ) (e : TableEntry) → EntryRule table e → ServesSignals table e
serves table (HasGate a b c t) r = on_signals r
serves table (NoGate x y u v) r = tt

pub every_gate : EveryGate
every_gate table h = serves table (table_entry table) (every_entry table h)

-- ---- the entries as numbers
numbers_length : (e : TableEntry) → length (entry_numbers e) ≡ 4
unfolding entry_numbers
numbers_length (HasGate a b c t) = refl
numbers_length (NoGate x y u v) = refl

-- number j of entry i
number_at : (es : List TableEntry) (d : TableEntry) (i j : ℕ) → i < length es → j < 4
    → get_or (numbers_of_all es) (4 * i + j) (pos 0) ≡ get_or (entry_numbers (get_or es i d)) j (pos 0)
unfolding numbers_of_all
number_at [] d i j h k = absurd (omega arith)
number_at (e ∷ es) d zero j h k =
    rw (let n : 4 * 0 + j ≡ j = omega arith in n) (get_or-append (entry_numbers e) (numbers_of_all es) (pos 0) j (omega (arith, numbers_length e)))
number_at (e ∷ es) d (suc i) j h k =
    ap (λ (n : ℕ). get_or (entry_numbers e ++ numbers_of_all es) n (pos 0))
    (let n : 4 * suc i + j ≡ length (entry_numbers e) + (4 * i + j) = omega (arith, numbers_length e) in n)
    ∙ get_or-append-add (entry_numbers e) (numbers_of_all es) (4 * i + j) (pos 0) ∙ number_at es d i j (omega arith) k

module _ (table : ℕ) (h : table < 256) where
  pub number_is : (j : ℕ) → j < 4 → get_or (numbers_of_all table_entries) (4 * table + j) (pos 0) ≡ get_or (entry_numbers (table_entry table)) j (pos 0)
  unfolding table_entry
  number_is j k = number_at table_entries (NoGate 0 0 0 0) table j (omega (arith, entries_length)) k

  pub has_gate_is : get_or (map has_gate table_entries) table false ≡ has_gate (table_entry table)
  unfolding table_entry
  has_gate_is = get_d_map has_gate table_entries table (NoGate 0 0 0 0) false (omega (arith, entries_length))

-- an entry made of its numbers
abbrev pub entry_number : TableEntry → ℕ → ℤ
entry_number e j = get_or (entry_numbers e) j (pos 0)

pub made_gate : (e : TableEntry) → has_gate e ≡ true → HasGate (entry_number e 0) (entry_number e 1) (entry_number e 2) (entry_number e 3) ≡ e
unfolding has_gate entry_numbers
made_gate (HasGate a b c t) h = refl
made_gate (NoGate x y u v) h = absurd (false≢true h)

pub made_witness : (e : TableEntry) → has_gate e ≡ false
    → NoGate (nat_abs (entry_number e 0)) (nat_abs (entry_number e 1)) (nat_abs (entry_number e 2)) (nat_abs (entry_number e 3)) ≡ e
unfolding has_gate entry_numbers
made_witness (HasGate a b c t) h = absurd (true≢false h)
made_witness (NoGate x y u v) h = refl

-- its settings are bytes
pub setting_byte : (table : ℕ) (e : TableEntry) → EntryRule table e → has_gate e ≡ false
    → (j : ℕ) → T (non_neg (entry_number e j)) × Fits w8 (nat_abs (entry_number e j))
unfolding has_gate entry_numbers
setting_byte table (HasGate a b c t) r h j = absurd (true≢false h)
setting_byte table (NoGate x y u v) r h zero = (tt, record { fits = omega arith })
setting_byte table (NoGate x y u v) r h (suc zero) = (tt, record { fits = omega arith })
setting_byte table (NoGate x y u v) r h (suc (suc zero)) = (tt, record { fits = omega arith })
setting_byte table (NoGate x y u v) r h (suc (suc (suc zero))) = (tt, record { fits = omega arith })
setting_byte table (NoGate x y u v) r h (suc (suc (suc (suc j)))) = (tt, record { fits = omega arith })
