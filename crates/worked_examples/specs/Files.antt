-- Files by their bytes, and the network or the number that a read of each gives: document 01, "PMN file, version 1", with the order of "Codes on
-- the head's display", and document 02, No. 8. A file of a number's table has nothing else wrong; one with two faults gives the number of the
-- first. Nothing is proved here.
use Rattle.std.specs.Prelude.{◌≡◌, List, [], ◌∷◌, ◌++◌, map, ℕ, zero, suc, pos, negsuc, replicate}
use Rattle.basics.specs.Refusals.{Answer, accepted, refused}
use Rattle.network.specs.Threshold.{Feed, Net}
use Rattle.pmn_opening.specs.Files.{read_net}
use Rattle.worked_examples.specs.Literal.{feed, gate_with, version1, version2, net_with, bytes_f, net_f}

pub record FileRow : Type 0 where
  pub bytes : List ℕ
  pub says : Answer Net

abbrev reads : List ℕ → Net → FileRow
reads bytes N = record { bytes = bytes; says = accepted N }

-- so many files, all refused with a number
abbrev refuses : ℕ → List (List ℕ) → List FileRow
refuses k files = map (λ bytes. record { bytes = bytes; says = refused k }) files

-- ---- parts of files

-- `PMN` and a version, and the three counts
abbrev version : ℕ → ℕ → List ℕ → List ℕ
version low high l = 80 ∷ 77 ∷ 78 ∷ low ∷ high ∷ l

abbrev counted : ℕ → ℕ → ℕ → List ℕ → List ℕ
counted i g o l = version 1 0 (i ∷ g ∷ o ∷ l)

-- one input, one gate and one output, from the gate on
abbrev single : List ℕ → List ℕ
single l = counted 1 1 1 l

-- one input, the gate [x 3; 2] and its output, after a mark and a version
abbrev one_gate : List ℕ → List ℕ
one_gate header = header ++ (1 ∷ 1 ∷ 1 ∷ 1 ∷ 2 ∷ 0 ∷ 0 ∷ 0 ∷ 0 ∷ 3 ∷ 0 ∷ 0 ∷ 0 ∷ 1 ∷ [])

-- gates without feeds and with T = 0
abbrev constants : ℕ → List ℕ → List ℕ
constants zero l = l
constants (suc n) l = 0 ∷ 0 ∷ 0 ∷ 0 ∷ 0 ∷ constants n l

-- n feeds of weight 1, from signal s on
abbrev ones : ℕ → ℕ → List ℕ → List ℕ
ones s zero l = l
ones s (suc n) l = s ∷ 1 ∷ 0 ∷ 0 ∷ 0 ∷ ones (suc s) n l

abbrev one_feeds : ℕ → ℕ → List Feed
one_feeds s zero = []
one_feeds s (suc n) = feed s (pos 1) ∷ one_feeds (suc s) n

-- ---- what is read
unfoldable pub readable : List FileRow
readable =
    reads bytes_f net_f
    -- version 2 with the on margin 1 and the off margin 2, which the sums 0 and 3 keep, and with the margins of version 1
    ∷ reads (one_gate (version 2 0 (1 ∷ 2 ∷ []))) (net_with (version2 1 2) 1 (gate_with (feed 0 (pos 3) ∷ []) (pos 2) ∷ []) (1 ∷ []))
    ∷ reads (one_gate (version 2 0 (0 ∷ 1 ∷ []))) (net_with (version2 0 1) 1 (gate_with (feed 0 (pos 3) ∷ []) (pos 2) ∷ []) (1 ∷ []))
    -- the least byte first: T = 70,000 and a weight of −300; two inputs, of which the second is read, and the gate is named twice
    ∷ reads (counted 2 1 2 (1 ∷ 112 ∷ 17 ∷ 1 ∷ 0 ∷ 1 ∷ 212 ∷ 254 ∷ 255 ∷ 255 ∷ 2 ∷ 2 ∷ []))
    (net_with version1 2 (gate_with (feed 1 (negsuc 299) ∷ []) (pos 70000) ∷ []) (2 ∷ 2 ∷ []))
    -- two outputs in their order, gates without feeds, T = 1 and T = −1
    ∷ reads (counted 1 2 2 (0 ∷ 1 ∷ 0 ∷ 0 ∷ 0 ∷ 0 ∷ 255 ∷ 255 ∷ 255 ∷ 255 ∷ 2 ∷ 1 ∷ []))
    (net_with version1 1 (gate_with [] (pos 1) ∷ gate_with [] (negsuc 0) ∷ []) (2 ∷ 1 ∷ []))
    ∷ []

-- the limits: 40 inputs, 128 gates, 16 outputs, T and a weight of 1,000,000 and −1,000,000, 16 feeds
unfoldable pub limits : List FileRow
limits =
    reads (counted 40 1 1 (constants 1 (40 ∷ []))) (net_with version1 40 (gate_with [] (pos 0) ∷ []) (40 ∷ []))
    ∷ reads (counted 1 128 1 (constants 128 (128 ∷ []))) (net_with version1 1 (replicate 128 (gate_with [] (pos 0))) (128 ∷ []))
    ∷ reads (counted 1 1 16 (constants 1 (replicate 16 1))) (net_with version1 1 (gate_with [] (pos 0) ∷ []) (replicate 16 1))
    ∷ reads (single (1 ∷ 64 ∷ 66 ∷ 15 ∷ 0 ∷ 0 ∷ 192 ∷ 189 ∷ 240 ∷ 255 ∷ 1 ∷ []))
    (net_with version1 1 (gate_with (feed 0 (negsuc 999999) ∷ []) (pos 1000000) ∷ []) (1 ∷ []))
    ∷ reads (single (1 ∷ 192 ∷ 189 ∷ 240 ∷ 255 ∷ 0 ∷ 64 ∷ 66 ∷ 15 ∷ 0 ∷ 1 ∷ []))
    (net_with version1 1 (gate_with (feed 0 (pos 1000000) ∷ []) (negsuc 999999) ∷ []) (1 ∷ []))
    ∷ reads (counted 16 1 1 (16 ∷ 2 ∷ 0 ∷ 0 ∷ 0 ∷ ones 0 16 (16 ∷ []))) (net_with version1 16 (gate_with (one_feeds 0 16) (pos 2) ∷ []) (16 ∷ []))
    ∷ []

-- ---- one fault, by its number

-- 1: no bytes, seven bytes, another mark
unfoldable pub foreign_marks : List FileRow
foreign_marks = refuses 1 ([] ∷ (80 ∷ 77 ∷ 78 ∷ 1 ∷ 0 ∷ 3 ∷ 2 ∷ []) ∷ one_gate (80 ∷ 77 ∷ 88 ∷ 1 ∷ 0 ∷ []) ∷ [])

-- 2: versions 0, 3 and 257
unfoldable pub strange_versions : List FileRow
strange_versions = refuses 2 (one_gate (version 0 0 []) ∷ one_gate (version 3 0 []) ∷ one_gate (version 1 1 []) ∷ [])

-- 3: 41 inputs, 129 gates, 17 outputs, none of these, and an off margin of 0
unfoldable pub bad_counts : List FileRow
bad_counts = refuses 3 (
    counted 41 1 1 (constants 1 (41 ∷ []))
    ∷ counted 1 129 1 (constants 129 (128 ∷ []))
    ∷ counted 1 1 17 (constants 1 (replicate 17 1))
    ∷ counted 0 1 1 (constants 1 (0 ∷ []))
    ∷ counted 1 0 1 (1 ∷ [])
    ∷ counted 1 1 0 (constants 1 [])
    ∷ one_gate (version 2 0 (0 ∷ 0 ∷ []))
    ∷ [])

-- 4: cut before the output, in a weight, in T, before a gate, and in the counts of version 2
unfoldable pub cut_short : List FileRow
cut_short = refuses 4 (
    single (1 ∷ 2 ∷ 0 ∷ 0 ∷ 0 ∷ 0 ∷ 3 ∷ 0 ∷ 0 ∷ 0 ∷ [])
    ∷ single (1 ∷ 2 ∷ 0 ∷ 0 ∷ 0 ∷ 0 ∷ 3 ∷ 0 ∷ 0 ∷ [])
    ∷ single (1 ∷ 2 ∷ 0 ∷ 0 ∷ [])
    ∷ single []
    ∷ version 2 0 (0 ∷ 1 ∷ 1 ∷ 1 ∷ [])
    ∷ [])

-- 5: a feed that is its own gate, feeds that fall, and one feed twice
unfoldable pub crossed_feeds : List FileRow
crossed_feeds = refuses 5 (
    single (1 ∷ 2 ∷ 0 ∷ 0 ∷ 0 ∷ 1 ∷ 3 ∷ 0 ∷ 0 ∷ 0 ∷ 1 ∷ [])
    ∷ counted 2 1 1 (2 ∷ 2 ∷ 0 ∷ 0 ∷ 0 ∷ 1 ∷ 3 ∷ 0 ∷ 0 ∷ 0 ∷ 0 ∷ 3 ∷ 0 ∷ 0 ∷ 0 ∷ 2 ∷ [])
    ∷ counted 2 1 1 (2 ∷ 2 ∷ 0 ∷ 0 ∷ 0 ∷ 0 ∷ 3 ∷ 0 ∷ 0 ∷ 0 ∷ 0 ∷ 3 ∷ 0 ∷ 0 ∷ 0 ∷ 2 ∷ [])
    ∷ [])

-- 6: a weight of 0, a weight of 1,000,001, T of 1,000,001 and of −1,000,001
unfoldable pub off_the_scale : List FileRow
off_the_scale = refuses 6 (
    single (1 ∷ 2 ∷ 0 ∷ 0 ∷ 0 ∷ 0 ∷ 0 ∷ 0 ∷ 0 ∷ 0 ∷ 1 ∷ [])
    ∷ single (1 ∷ 2 ∷ 0 ∷ 0 ∷ 0 ∷ 0 ∷ 65 ∷ 66 ∷ 15 ∷ 0 ∷ 1 ∷ [])
    ∷ single (0 ∷ 65 ∷ 66 ∷ 15 ∷ 0 ∷ 1 ∷ [])
    ∷ single (0 ∷ 191 ∷ 189 ∷ 240 ∷ 255 ∷ 1 ∷ [])
    ∷ [])

-- 7: 17 feeds
unfoldable pub too_wide : List FileRow
too_wide = refuses 7 (counted 17 1 1 (17 ∷ 2 ∷ 0 ∷ 0 ∷ 0 ∷ ones 0 17 (17 ∷ [])) ∷ [])

-- 24: the on margin 2 and the off margin 1, of which the sum 3 of [x 3; 2] breaks the former
unfoldable pub broken_margins : List FileRow
broken_margins = refuses 24 (one_gate (version 2 0 (2 ∷ 1 ∷ [])) ∷ [])

-- 8: an output that is an input, and one above the gates
unfoldable pub stray_outputs : List FileRow
stray_outputs = refuses 8 (single (constants 1 (0 ∷ [])) ∷ single (constants 1 (2 ∷ [])) ∷ [])

-- 9: a byte after the last output
unfoldable pub tails : List FileRow
tails = refuses 9 ((bytes_f ++ (0 ∷ [])) ∷ [])

-- ---- two faults, of which the first in the file is refused
unfoldable pub two_faults : List FileRow
two_faults =
    -- another mark, and version 3
    refuses 1 (one_gate (80 ∷ 77 ∷ 88 ∷ 3 ∷ 0 ∷ []) ∷ [])
    -- version 3, and no inputs
    ++ refuses 2 (version 3 0 (0 ∷ 1 ∷ 1 ∷ constants 1 (0 ∷ [])) ∷ [])
    -- no inputs, and cut before the first gate
    ++ refuses 3 (counted 0 1 1 [] ∷ [])
    -- 17 feeds, and T of 1,000,001
    ++ refuses 7 (single (17 ∷ 65 ∷ 66 ∷ 15 ∷ 0 ∷ 1 ∷ []) ∷ [])
    -- T of 1,000,001, and a feed that is its own gate
    ++ refuses 6 (single (1 ∷ 65 ∷ 66 ∷ 15 ∷ 0 ∷ 1 ∷ 3 ∷ 0 ∷ 0 ∷ 0 ∷ 1 ∷ []) ∷ [])
    -- a feed that is its own gate, with a weight of 0, and cut in its weight
    ++ refuses 5 (single (1 ∷ 2 ∷ 0 ∷ 0 ∷ 0 ∷ 1 ∷ 0 ∷ 0 ∷ 0 ∷ 0 ∷ 1 ∷ []) ∷ single (1 ∷ 2 ∷ 0 ∷ 0 ∷ 0 ∷ 1 ∷ 3 ∷ []) ∷ [])
    -- a weight of 0, and margins that the gate breaks
    ++ refuses 6 (version 2 0 (1 ∷ 1 ∷ 1 ∷ 1 ∷ 1 ∷ 1 ∷ 0 ∷ 0 ∷ 0 ∷ 0 ∷ 0 ∷ 0 ∷ 0 ∷ 0 ∷ 0 ∷ 1 ∷ []) ∷ [])
    -- a broken margin, and an output that is an input; a broken margin of the first gate, and a second with 17 feeds
    ++ refuses 24 (version 2 0 (1 ∷ 1 ∷ 1 ∷ 1 ∷ 1 ∷ constants 1 (0 ∷ [])) ∷ version 2 0 (1 ∷ 1 ∷ 1 ∷ 2 ∷ 1 ∷ constants 1 (17 ∷ [])) ∷ [])
    -- an output that is an input, and a byte after it; two outputs, of which one is an input and one is missing
    ++ refuses 8 (single (constants 1 (0 ∷ 7 ∷ [])) ∷ counted 1 1 2 (constants 1 (0 ∷ [])) ∷ [])

-- ---- the files of a table are read as it says
abbrev pub ReadAsSaid : List FileRow → Type 0
ReadAsSaid rows = map (λ row. read_net row.bytes) rows ≡ map (λ row. row.says) rows

pub record FilesRead : Type 0 where
  pub are_read : ReadAsSaid readable
  pub at_limits : ReadAsSaid limits
  pub with_1 : ReadAsSaid foreign_marks
  pub with_2 : ReadAsSaid strange_versions
  pub with_3 : ReadAsSaid bad_counts
  pub with_4 : ReadAsSaid cut_short
  pub with_5 : ReadAsSaid crossed_feeds
  pub with_6 : ReadAsSaid off_the_scale
  pub with_7 : ReadAsSaid too_wide
  pub with_24 : ReadAsSaid broken_margins
  pub with_8 : ReadAsSaid stray_outputs
  pub with_9 : ReadAsSaid tails
  pub the_first : ReadAsSaid two_faults
