-- The numbers of the entry, as the machine reads them back, make the entry, and its rule is the table's. Assumes nothing.
use mathlib.Core.Path.{◌≡◌, sym, ◌∙◌, subst}
use mathlib.Core.Bool.{false}
use Prim.Native.Nat.{ℕ, ◌<◌}
use native.Mathlib.Omega.{arith}
use lib.Dec.{T}
use lib.IntN.{nat_abs}
use lib.Signed.{non_neg}
use mir.Syntax.{w8, w32}
use mir.Val.{Fits, to_z, of_z}
use borrow.Author.Rules.{rules}
use Rattle.basics.specs.SizeLaws.{read_back}
use Rattle.three_feeds.specs.Rule.{EntryRule, has_gate, entry_numbers}
use Rattle.three_feeds.specs.Numbers.{numbers_of_all}
use Rattle.three_feeds.specs.Table.{table_entries, table_entry}
use Rattle.three_feeds.proofs.TableLaws.{every_entry, number_is, has_gate_is, entry_number, made_gate, made_witness, setting_byte}
use Rattle.three_feeds.specs.declared.TableEntry.{TableEntry}
use Rattle.three_feeds.proofs.entry.Statement.{statement}
use Rattle.three_feeds.proofs.entry.Tie as tie

-- the constants are the entries' numbers
number_requires : tie.Need-number-first-requires
unfolding numbers_of_all table_entries entry_numbers
number_requires c κs = search rules

number_requires_2 : tie.Need-number-second-requires
unfolding numbers_of_all table_entries entry_numbers
number_requires_2 c κs = search rules

number_requires_3 : tie.Need-number-third-requires
unfolding numbers_of_all table_entries entry_numbers
number_requires_3 c κs = search rules

number_requires_4 : tie.Need-number-fourth-requires
unfolding numbers_of_all table_entries entry_numbers
number_requires_4 c κs = search rules

-- where the third and the first number are read, and the start
abbrev at_third : tie.After-has_gate → tie.After-number-third
at_third c = c.before.before.before

abbrev at_first : tie.After-has_gate → tie.After-number-first
at_first c = (at_third c).before.before.before.before

abbrev start : tie.After-has_gate → tie.Start
start c = (at_first c).before.before

-- a truth table, and its entry

abbrev table_of : tie.After-has_gate → ℕ
table_of c = (start c).args.table

abbrev found : tie.After-has_gate → TableEntry
found c = table_entry (table_of c)

table_below : (c : tie.After-has_gate) → table_of c < 256
table_below c = (start c).ranges.table.fits

-- the four numbers
first_is : (c : tie.After-has_gate) → to_z w32 (of_z w32 (at_first c).number-first.result) ≡ entry_number (found c) 0
first_is c =
    let n = (at_first c).number-first in
    read_back w32 n.type_inv (n.ensures ∙ number_is (table_of c) (table_below c) 0 (omega arith))

second_is : (c : tie.After-has_gate) → to_z w32 (of_z w32 (at_third c).number-second.result) ≡ entry_number (found c) 1
second_is c =
    let n = (at_third c).number-second in
    read_back w32 n.type_inv (n.ensures ∙ number_is (table_of c) (table_below c) 1 (omega arith))

third_is : (c : tie.After-has_gate) → to_z w32 (of_z w32 (at_third c).number-third.result) ≡ entry_number (found c) 2
third_is c =
    let n = (at_third c).number-third in
    read_back w32 n.type_inv (n.ensures ∙ number_is (table_of c) (table_below c) 2 (omega arith))

fourth_is : (c : tie.After-has_gate) → to_z w32 (of_z w32 c.number-fourth.result) ≡ entry_number (found c) 3
fourth_is c =
    let n = c.number-fourth in read_back w32 n.type_inv (n.ensures ∙ number_is (table_of c) (table_below c) 3 (omega arith))

kind_is : (c : tie.After-has_gate) → c.has_gate.result ≡ has_gate (found c)
kind_is c = c.has_gate.ensures ∙ has_gate_is (table_of c) (table_below c)

returns : tie.Need-returns-then-has_gate
returns c =
    let b = c.before in
    let m = made_gate (found b) (sym (kind_is b) ∙ c.if-has_gate.true) in
    rw (first_is b, second_is b, third_is b, fourth_is b)
    (m, subst (EntryRule (table_of b)) (sym m) (every_entry (table_of b) (table_below b)))

no_gate_lem : (c : tie.Else-has_gate) → has_gate (found c.before) ≡ false
no_gate_lem c = sym (kind_is c.before) ∙ c.if-has_gate.false

-- a setting as a byte
setting_is : (c : tie.Else-has_gate) (j : ℕ) → T (non_neg (entry_number (found c.before) j)) × Fits w8 (nat_abs (entry_number (found c.before) j))
setting_is c j = let b = c.before in setting_byte (table_of b) (found b) (every_entry (table_of b) (table_below b)) (no_gate_lem c) j

cast_t13 : tie.Need-overflow_cast-result
cast_t13 c = rw (first_is c.before) (setting_is c 0)

cast_t14 : tie.Need-overflow_cast-result-2
cast_t14 c = rw (second_is c.before) (setting_is c 1)

cast_t15 : tie.Need-overflow_cast-result-3
cast_t15 c = rw (third_is c.before) (setting_is c 2)

cast_t16 : tie.Need-overflow_cast-result-4
cast_t16 c = rw (fourth_is c.before) (setting_is c 3)

returns_2 : tie.Need-returns
returns_2 c =
    let b = c.before in
    let m = made_witness (found b) (no_gate_lem c) in
    rw (first_is b, second_is b, third_is b, fourth_is b)
    (m, subst (EntryRule (table_of b)) (sym m) (every_entry (table_of b) (table_below b)))

pub entry_spec : {M : Type 1} → statement M
entry_spec =
    tie.close
    (tie.spec
    number_requires
    number_requires_2
    number_requires_3
    number_requires_4
    (λ c κs. search rules)
    returns
    cast_t13
    cast_t14
    cast_t15
    cast_t16
    returns_2)
