-- The bytes of a gate of the three-feed table on three chosen signals, as a mask maker puts it into a PMN file. Nothing is proved here.
use Rattle.std.specs.Prelude.{Bool, cond, ◌&&◌, List, ◌++◌, ℕ, leb, ltb, length, drop}
use Rattle.network.specs.Threshold.{Gate}
use Rattle.pmn_format.specs.Format.{gate_bytes}
use Rattle.three_feeds.specs.Rule.{gate_on_signals}
use Rattle.three_feeds.specs.Table.{table_entry}
use Rattle.three_feeds.specs.declared.TableEntry.{TableEntry}
use Rattle.three_feeds.specs.declared.TableEntry.TheVariants as Entry
use Rattle.three_feeds_part.specs.declared.MaskPart.{MaskPart}
use Rattle.three_feeds_part.specs.declared.MaskPart.TheVariants.{Put, NoGate, Refused}

-- a gate into some room: how many bytes it has, or 18 where there is less room
unfoldable pub put_in : Gate → ℕ → MaskPart
put_in g room = cond (leb (length (gate_bytes g)) room) (Put (length (gate_bytes g))) (Refused 18)

-- what then stands in the lent bytes: the gate's bytes and what stood after them, or what stood there
unfoldable pub bytes_in : Gate → List ℕ → List ℕ
bytes_in g lent = cond (leb (length (gate_bytes g)) (length lent)) (gate_bytes g ++ drop (length (gate_bytes g)) lent) lent

-- the gate of an entry on three signals, or its settings
unfoldable pub part_of : ℕ → ℕ → ℕ → TableEntry → ℕ → MaskPart
part_of i j k (Entry.HasGate a b c t) room = put_in (gate_on_signals i j k a b c t) room
part_of i j k (Entry.NoGate x y u v) room = NoGate x y u v

-- what then stands in the lent bytes; settings leave them as they were
unfoldable pub bytes_of : ℕ → ℕ → ℕ → TableEntry → List ℕ → List ℕ
bytes_of i j k (Entry.HasGate a b c t) lent = bytes_in (gate_on_signals i j k a b c t) lent
bytes_of i j k (Entry.NoGate x y u v) lent = lent

-- "feed signals rise strictly"
unfoldable pub rise : ℕ → ℕ → ℕ → Bool
rise i j k = ltb i j && ltb j k

-- the call: 5 for signals that do not rise, then the entry of the truth table
unfoldable pub mask_part : ℕ → ℕ → ℕ → ℕ → ℕ → MaskPart
mask_part table i j k room = cond (rise i j k) (part_of i j k (table_entry table) room) (Refused 5)

-- the lent bytes afterwards
unfoldable pub part_bytes_after : ℕ → ℕ → ℕ → ℕ → List ℕ → List ℕ
part_bytes_after table i j k lent = cond (rise i j k) (bytes_of i j k (table_entry table) lent) lent
