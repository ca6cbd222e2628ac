-- Internal: the length of a header, and that of the longest file. Nothing is proved here.
use Rattle.std.specs.Prelude.{ℕ, cond, eqb}
use Rattle.network.specs.declared.Board.{Board}

-- where the gates begin in a file, which is the length of its header
abbrev pub header_length : Board → ℕ
header_length b = cond (eqb b.version 2) 10 8

-- the most bytes of a file: the header's 10, 128 gates of 5 and 16 feeds of 5, and 16 outputs
abbrev pub longest_file : ℕ
longest_file = 10906
