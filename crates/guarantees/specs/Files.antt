-- What is claimed of files and records. Nothing is proved here.
use Rattle.std.specs.Prelude.{◌≡◌, true, List, ◌↔◌, ℕ, ◌≤◌}
use Rattle.network.specs.Record.{net_of}
use Rattle.network.specs.declared.Network.{Network}
use Rattle.pmn_format.specs.Format.{Bytes, file_bytes}
use Rattle.pmn_reader.specs.Answers.{loaded}
use Rattle.journal.specs.Records.{sound_whole, just_read}
use Rattle.journal.specs.declared.Record.{Record}

-- a read accepts the file
abbrev pub Accepted : List ℕ → Type 0
Accepted file = (loaded file).code ≡ 0

-- the file's reading gives the network, in the form of a record
abbrev pub Gives : List ℕ → Network → Type 0
Gives file r = loaded file ≡ record { code = 0; network = r }

-- the file of a network
abbrev pub file_of : Network → List ℕ
file_of r = file_bytes (net_of r)

-- "A record is sound if a PMN file describes it"
abbrev pub Described : Network → Type 0
Described r = (file : List ℕ) × Bytes file × Gives file r

-- "sound" is "a PMN file describes it", both ways, of the record without its journal; "files don't carry it", and of the journal nothing is asked
-- but that it claims at most 64 steps
abbrev pub SoundIsDescribed : Record → Type 0
SoundIsDescribed r = (sound_whole r ≡ true) ↔ (Described r.network × (r.journal.count ≤ 64))

-- every sound record, written and read again, is that record; "a record written and read again is compared without it [the journal]"
abbrev pub WrittenIsRead : Record → Type 0
WrittenIsRead r = sound_whole r ≡ true → Gives (file_of r.network) r.network

-- every accepted file, read and written again, is those bytes; and what is read is sound, with its empty journal
pub record ReadIsWritten (file : List ℕ) : Type 0 where
  pub same_bytes : Accepted file → file_of (loaded file).network ≡ file
  pub sound_read : Accepted file → sound_whole (just_read (loaded file).network) ≡ true
