-- Literal networks with their reports and their cuts, and entries of the three-feed table by name. Nothing is proved here.
use Rattle.std.specs.Prelude.{◌≡◌, List, [], ◌∷◌, map, ℕ, ℤ, pos, negsuc}
use Rattle.basics.specs.Refusals.{Answer, accepted, refused}
use Rattle.network.specs.Threshold.{Gate, Net}
use Rattle.network_report.specs.Size.{sizes}
use Rattle.cut_theory.specs.Cut.{cut}
use Rattle.three_feeds.specs.Table.{table_entry}
use Rattle.three_feeds.specs.declared.TableEntry.{TableEntry}
use Rattle.three_feeds.specs.declared.TableEntry.TheVariants.{HasGate, NoGate}
use Rattle.worked_examples.specs.Literal.{feed, gate_with, version1, version2, net_with, net_f}

-- a gate with one feed, of a weight that is T too
abbrev follows : ℕ → ℤ → Gate
follows s w = gate_with (feed s w ∷ []) w

-- ---- reports: document 01, "Size report", and document 02, No. 3
pub record SizeRow : Type 0 where
  pub net : Net
  pub wants : List ℕ

-- gates, cost and levels
abbrev measures : Net → ℕ → ℕ → ℕ → SizeRow
measures N gates cost levels = record { net = N; wants = gates ∷ cost ∷ levels ∷ [] }

-- F; a constant [ ;−5] of level 0, a gate [−2;0] above it of level 1 and one [1,3;−1] above that of level 2; constants alone; a longest path that
-- is neither the last gate's nor an output's
unfoldable pub reports : List SizeRow
reports =
    measures net_f 2 18 2
    ∷ measures
    (net_with version1 1
    (gate_with [] (negsuc 4) ∷ gate_with (feed 1 (negsuc 1) ∷ []) (pos 0) ∷ gate_with (feed 0 (pos 1) ∷ feed 2 (pos 3) ∷ []) (negsuc 0) ∷ []) (3 ∷ []))
    3 12 2
    ∷ measures (net_with version1 1 (gate_with [] (pos 7) ∷ gate_with [] (pos 0) ∷ []) (1 ∷ [])) 2 7 0
    ∷ measures
    (net_with version1 1
    (follows 0 (pos 1) ∷ follows 1 (pos 1) ∷ gate_with (feed 0 (pos 1) ∷ feed 2 (pos 1) ∷ []) (pos 1) ∷ follows 0 (pos 1) ∷ []) (4 ∷ []))
    4 9 3
    ∷ []

-- ---- cuts: document 02, No. 12, "the gates of the cut keep their order with new signals"
pub record CutRow : Type 0 where
  pub net : Net
  pub output : ℕ
  pub gives : Answer Net

-- two inputs, five gates and two outputs, in version 2
abbrev five : Net
five = net_with (version2 0 1) 2
    (follows 0 (pos 1) ∷ follows 1 (pos 5) ∷ follows 2 (pos 2) ∷ follows 3 (pos 3) ∷ gate_with (feed 2 (pos 1) ∷ feed 5 (negsuc 0) ∷ []) (pos 1) ∷ [])
    (4 ∷ 6 ∷ [])

-- the first and the third gate; all but the third; 8 for an output that it lacks, after 20 for a network that is not sound
unfoldable pub cuts : List CutRow
cuts =
    record { net = five; output = 0; gives = accepted (net_with (version2 0 1) 2 (follows 0 (pos 1) ∷ follows 2 (pos 2) ∷ []) (3 ∷ [])) }
    ∷ record {
      net = five;
      output = 1;
      gives = accepted (net_with (version2 0 1) 2
          (follows 0 (pos 1) ∷ follows 1 (pos 5) ∷ follows 3 (pos 3) ∷ gate_with (feed 2 (pos 1) ∷ feed 4 (negsuc 0) ∷ []) (pos 1) ∷ []) (5 ∷ []));
    }
    ∷ record { net = five; output = 2; gives = refused 8 }
    ∷ record { net = net_with version1 0 [] []; output = 2; gives = refused 20 }
    ∷ []

-- ---- the three-feed table: document 02, No. 7, "bit s is the value on setting s, and bit i of s is feed i"
pub record EntryRow : Type 0 where
  pub table : ℕ
  pub entry : TableEntry

-- three weights and T
abbrev has : ℕ → ℤ → ℤ → ℤ → ℤ → EntryRow
has table a b c t = record { table = table; entry = HasGate a b c t }

unfoldable pub entries : List EntryRow
entries =
    -- never, always
    has 0 (pos 0) (pos 0) (pos 0) (pos 1)
    ∷ has 255 (pos 0) (pos 0) (pos 0) (pos 0)
    -- feed 0 alone, which is 1 on the settings 1, 3, 5 and 7; feed 1; feed 2
    ∷ has 170 (pos 1) (pos 0) (pos 0) (pos 1)
    ∷ has 204 (pos 0) (pos 1) (pos 0) (pos 1)
    ∷ has 240 (pos 0) (pos 0) (pos 1) (pos 1)
    -- and: 1 on setting 7; or: on all but setting 0; majority: on the settings 3, 5, 6 and 7; none of them: on setting 0
    ∷ has 128 (pos 1) (pos 1) (pos 1) (pos 3)
    ∷ has 254 (pos 1) (pos 1) (pos 1) (pos 1)
    ∷ has 232 (pos 1) (pos 1) (pos 1) (pos 2)
    ∷ has 1 (negsuc 0) (negsuc 0) (negsuc 0) (pos 0)
    -- one of the feeds 0 and 1, and not both: 1 on the settings 1, 2, 5 and 6. It has no gate: 1 and 2 are 1, and 0 and 3 are 0
    ∷ record { table = 102; entry = NoGate 1 2 0 3 }
    ∷ []

-- ---- the rows are what they say
abbrev pub SizesAsSaid : Type 0
SizesAsSaid = map (λ row. sizes row.net) reports ≡ map (λ row. row.wants) reports

abbrev pub CutAsSaid : Type 0
CutAsSaid = map (λ row. cut row.net row.output) cuts ≡ map (λ row. row.gives) cuts

abbrev pub EntriesAsSaid : Type 0
EntriesAsSaid = map (λ row. table_entry row.table) entries ≡ map (λ row. row.entry) entries
