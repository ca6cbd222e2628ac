-- Internal: marks as the bits of a word. Nothing is proved here.
use Rattle.std.specs.Prelude.{Bool, List}
use Rattle.basics.specs.Lists.{tab}
use Rattle.network.specs.Threshold.{frame}
use Rattle.cut_marks.specs.declared.Marks.{Marks}

-- a mark for each of 128 gates, by the bits of a word
unfoldable pub marks_of : Marks → List Bool
marks_of m = tab 128 (frame m.bits)
