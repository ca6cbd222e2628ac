-- Converting a whole file is converting the record of its network. Assumes nothing.
use Rattle.std.specs.Prelude.{◌≡◌, List, ℕ}
use Rattle.std.proofs.Common.{ap, ◌∙◌}
use Rattle.network.specs.Threshold.{Net}
use Rattle.network.specs.Record.{net_of}
use Rattle.network.specs.declared.Network.{Network}
use Rattle.pmn_opening.specs.Opening.{FileOpen}
use Rattle.pmn_opening.specs.OpeningLaws.{open_record, read_on, open_on}
use Rattle.pmn_converter.specs.Conversion.{conversion, conversion_of, conversion_places}

pub converted_read : {file : List ℕ} {r : Network} (room : ℕ) → FileOpen file 0 0 r → conversion_of file room ≡ conversion (net_of r) room
unfolding conversion_of
converted_read room a = read_on a _ ∙ ap (λ (N : Net). conversion N room) (open_record a)

pub converted_open : {file : List ℕ} {places : ℕ} {r : Network} (room : ℕ) → FileOpen file places 1 r
    → conversion_places file room places ≡ conversion (net_of r) room
unfolding conversion_places
converted_open room a = open_on a _ ∙ ap (λ (N : Net). conversion N room) (open_record a)
