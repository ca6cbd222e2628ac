-- The game on a network: 20, then 27, then ball by ball. Document 02, No. 11. Nothing is proved here.
use Rattle.std.specs.Prelude.{List, [], ◌∷◌, ℕ}
use Rattle.basics.specs.Refusals.{◌else◌, checks}
use Rattle.network.specs.Record.{net_of, sound_record}
use Rattle.network.specs.declared.Network.{Network}
use Rattle.scorer_theory.specs.NetworkGames.{game}
use Rattle.scorer_tally.specs.Sheets.{as_sheet}
use Rattle.scorer_tally.specs.declared.Sheet.{Sheet}

-- the sheet of a game, from the frames after each ball
unfoldable pub network_sheet : Network → List ℕ → Sheet
network_sheet r frames = as_sheet (checks ((sound_record r else 20) ∷ []) (game (net_of r) frames))
