-- The same network in the other version, and which boards have one. Document 02, No. 8. Nothing is proved here.
use Rattle.std.specs.Prelude.{Bool, cond, ◌&&◌, ◌||◌, eqb}
use Rattle.network.specs.Threshold.{Net}
use Rattle.network.specs.declared.Board.{Board}

-- "1 into 2 with margins 0 and 1, 2 into 1 only for those margins": 25 is "a margin that version 1 can't hold"
unfoldable pub convertible : Board → Bool
convertible b = eqb b.version 1 || (eqb b.on 0 && eqb b.off 1)

-- the other version, with the same margins
unfoldable pub other_version : Board → Board
other_version b = record { version = cond (eqb b.version 1) 2 1; on = b.on; off = b.off }

-- "the same network in the other version"
unfoldable pub converted : Net → Net
converted N = record { board = other_version N.board; inputs = N.inputs; gates = N.gates; outputs = N.outputs }
