-- Internal: what the opening of a file, with which the functions begin, hands on. Nothing is proved here.
use Rattle.std.specs.Prelude.{◌≡◌, List, ℕ, ◌≤◌}
use Rattle.basics.specs.Refusals.{code_of}
use Rattle.network.specs.Threshold.{Net}
use Rattle.network.specs.Sound.{Sound}
use Rattle.network.specs.Record.{layout}
use Rattle.network.specs.declared.Network.{Network}
use Rattle.pmn_format.specs.Format.{done, Bytes, parse_file}
use Rattle.pmn_opening.specs.Files.{open_net}

-- an accepted file, with enough of the places lent: its network, which is sound, and the record that was read
pub record FileOpen (file : List ℕ) (places needed : ℕ) (r : Network) : Type 0 where
  pub bytes : Bytes file
  pub net : Net
  pub rest : List ℕ
  pub reads : parse_file file ≡ done net rest
  pub sound : Sound net
  pub laid : r ≡ layout net
  pub room : needed ≤ places

-- what an opening answers: its code, and an accepted file where that is 0
pub record Opening (file : List ℕ) (places needed k : ℕ) (r : Network) : Type 0 where
  pub code : k ≡ code_of (open_net file places needed)
  pub gives : k ≡ 0 → FileOpen file places needed r
