-- The margins of files: document 02, No. 8, "A broken margin is 24". Nothing is proved here.
use Rattle.std.specs.Prelude.{◌≡◌}
use Rattle.basics.specs.Refusals.{accepted, refused}
use Rattle.network.specs.Threshold.{Net}
use Rattle.pmn_format.specs.Format.{file_bytes}
use Rattle.pmn_opening.specs.Files.{read_net}
use Rattle.network_claims.specs.Margins.{AllClear, OtherLimits}

-- the file of a network within the other limits is read as that network if all its gates keep the margins in the words of source document 004, and
-- else refused with 24
pub record MarginsOfFile (N : Net) : Type 0 where
  pub kept : OtherLimits N → AllClear N → read_net (file_bytes N) ≡ accepted N
  pub broken : OtherLimits N → (AllClear N → ⊥) → read_net (file_bytes N) ≡ refused 24
