-- An entry as numbers in lent places, and the refusals of that call. Nothing is proved here.
use Rattle.std.specs.Prelude.{List, [], ◌∷◌, ℕ, leb, ℤ, pos, length}
use Rattle.basics.specs.Refusals.{Answer, accepted, ◌else◌, checks}
use Rattle.network.specs.Threshold.{digit}
use Rattle.three_feeds.specs.Rule.{has_gate, entry_numbers}
use Rattle.three_feeds.specs.Table.{table_entry}
use Rattle.three_feeds.specs.declared.TableEntry.{TableEntry}

-- 1, the three weights and T; or 0, the two settings that are 1 and the two that are 0
unfoldable pub places_of : TableEntry → List ℤ
places_of e = pos (digit (has_gate e)) ∷ entry_numbers e

-- 18 where fewer than five places are lent, then 14 where the number is no truth table of three feeds
unfoldable pub entry_places : ℕ → List ℤ → Answer (List ℤ)
entry_places table answer = checks ((leb 5 (length answer) else 18) ∷ (leb table 255 else 14) ∷ []) (accepted (places_of (table_entry table)))
