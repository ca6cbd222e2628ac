-- What is claimed of the converter. Nothing is proved here.
use Rattle.std.specs.Prelude.{◌≡◌, List, ℕ, ◌≤◌, length}
use Rattle.basics.specs.Refusals.{accepted}
use Rattle.pmn_format.specs.Format.{Bytes}
use Rattle.pmn_converter.specs.Conversion.{conversion_of}

-- a file that is converted, into so many lent bytes, gives bytes; these, converted into lent bytes that have room for the file, give the
-- file back, byte for byte
unfoldable pub ThereAndBack : Type 0
ThereAndBack =
    (file : List ℕ) → Bytes file
    → (room : ℕ) (bytes : List ℕ) → conversion_of file room ≡ accepted bytes
    → (back : ℕ) → length file ≤ back → conversion_of bytes back ≡ accepted file
