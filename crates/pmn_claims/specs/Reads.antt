-- What the functions on whole files start from: the network of the record that a read gives. Nothing is proved here.
use Rattle.std.specs.Prelude.{◌≡◌, ◌≢◌, List, ℕ, ◌≤◌, ◌<◌}
use Rattle.basics.specs.Refusals.{accepted, refused}
use Rattle.network.specs.Threshold.{Net}
use Rattle.network.specs.Record.{net_of}
use Rattle.pmn_reader.specs.Answers.{loaded}
use Rattle.pmn_opening.specs.Files.{read_net, open_net}
use Rattle.guarantees.specs.Files.{Accepted}

-- the network that a read gives
abbrev pub net_in : List ℕ → Net
net_in file = net_of (loaded file).network

-- the functions on whole files start from it, or refuse with the number of the read; then with 18 if fewer places are lent than are needed
pub record ReadAlike (file : List ℕ) : Type 0 where
  pub gives : Accepted file → read_net file ≡ accepted (net_in file)
  pub refuses : (loaded file).code ≢ 0 → read_net file ≡ refused (loaded file).code
  pub opens : (places needed : ℕ) → Accepted file → needed ≤ places → open_net file places needed ≡ accepted (net_in file)
  pub too_few : (places needed : ℕ) → Accepted file → places < needed → open_net file places needed ≡ refused 18
  pub not_opened : (places needed : ℕ) → (loaded file).code ≢ 0 → open_net file places needed ≡ refused (loaded file).code
