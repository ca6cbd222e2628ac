-- The converter, byte by byte: document 02, No. 8, "1 into 2 with margins 0 and 1, 2 into 1 only for those margins". Nothing is proved here.
use Rattle.std.specs.Prelude.{◌≡◌, ◌≢◌, ◌⊎◌, List, ◌∷◌, ◌++◌, ℕ, ◌+◌, ◌≤◌, ◌<◌, length, take, drop}
use Rattle.basics.specs.Refusals.{accepted, refused}
use Rattle.network.specs.declared.Board.{Board}
use Rattle.pmn_reader.specs.Answers.{loaded}
use Rattle.pmn_converter.specs.Conversion.{conversion_of}
use Rattle.guarantees.specs.Files.{Accepted}
use Rattle.pmn_claims.specs.Reads.{net_in}

-- the margins of version 1
abbrev pub Plain : Board → Type 0
Plain b = (b.on ≡ 0) × (b.off ≡ 1)

-- "the same network in the other version": a read accepts it, with the same inputs, gates and outputs in the same order; of the two versions one
-- is 1 and one is 2, and the margins are 0 and 1
pub record OtherVersion (file bytes : List ℕ) : Type 0 where
  pub accepts : Accepted bytes
  pub same_inputs : (net_in bytes).inputs ≡ (net_in file).inputs
  pub same_gates : (net_in bytes).gates ≡ (net_in file).gates
  pub same_outputs : (net_in bytes).outputs ≡ (net_in file).outputs
  pub other : (net_in bytes).board.version + (net_in file).board.version ≡ 3
  pub plain : Plain (net_in bytes).board

-- an accepted file, converted into so many lent bytes: one of version 1 gains the two bytes 0 and 1 after the version, which becomes 2; one of
-- version 2 with these margins loses them; the others are refused with 25; then 18 where there is no room
pub record Converts (file : List ℕ) (room : ℕ) : Type 0 where
  pub kinds : ((net_in file).board.version ≡ 1) ⊎ ((net_in file).board.version ≡ 2)
  pub one_into_two : (net_in file).board.version ≡ 1 → length file + 2 ≤ room
      → conversion_of file room ≡ accepted (take 3 file ++ (2 ∷ 0 ∷ 0 ∷ 1 ∷ drop 5 file))
  pub two_into_one : (net_in file).board.version ≡ 2 → Plain (net_in file).board → length file ≤ room + 2
      → conversion_of file room ≡ accepted (take 3 file ++ (1 ∷ 0 ∷ drop 7 file))
  pub other_margins : (net_in file).board.version ≡ 2 → (Plain (net_in file).board → ⊥) → conversion_of file room ≡ refused 25
  pub one_too_long : (net_in file).board.version ≡ 1 → room < length file + 2 → conversion_of file room ≡ refused 18
  pub two_too_long : (net_in file).board.version ≡ 2 → Plain (net_in file).board → room + 2 < length file → conversion_of file room ≡ refused 18
  pub same_network : (bytes : List ℕ) → conversion_of file room ≡ accepted bytes → OtherVersion file bytes

-- a file that the read refuses is refused with its number
pub record ConverterClaim (file : List ℕ) (room : ℕ) : Type 0 where
  pub converts : Accepted file → Converts file room
  pub as_read : (loaded file).code ≢ 0 → conversion_of file room ≡ refused (loaded file).code
