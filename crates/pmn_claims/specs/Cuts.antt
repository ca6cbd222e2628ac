-- The cut of a file, from bytes to bytes: document 02, No. 12. Nothing is proved here.
use Rattle.std.specs.Prelude.{◌≡◌, ◌≢◌, List, ℕ, ◌≤◌, ◌<◌, length}
use Rattle.basics.specs.Refusals.{accepted, refused}
use Rattle.pmn_reader.specs.Answers.{loaded}
use Rattle.cut_theory.specs.Claims.{CutOut}
use Rattle.cut_files.specs.Answers.{cut_places}
use Rattle.guarantees.specs.Files.{Accepted}
use Rattle.pmn_claims.specs.Reads.{net_in}

-- the bytes of a cut: a file that a read accepts, whose network is the cut as claimed of networks. They are put out if so many lent bytes have room
-- for them, else 18
pub record FileCut (file : List ℕ) (output : ℕ) : Type 0 where
  pub bytes : List ℕ
  pub accepts : Accepted bytes
  pub is_cut : CutOut (net_in file) output (net_in bytes)
  pub put_out : (room places : ℕ) → 1 ≤ places → length bytes ≤ room → cut_places file output room places ≡ accepted bytes
  pub too_long : (room places : ℕ) → 1 ≤ places → room < length bytes → cut_places file output room places ≡ refused 18

-- for so many lent bytes and places: the number of the read, then 18 without a place for the length, then 8, then the cut
pub record CutClaim (file : List ℕ) (output : ℕ) : Type 0 where
  pub as_read : (loaded file).code ≢ 0 → (room places : ℕ) → cut_places file output room places ≡ refused (loaded file).code
  pub no_place : Accepted file → (room : ℕ) → cut_places file output room 0 ≡ refused 18
  pub stray : Accepted file → length (net_in file).outputs ≤ output → (room places : ℕ) → 1 ≤ places → cut_places file output room places ≡ refused 8
  pub given : Accepted file → output < length (net_in file).outputs → FileCut file output
