-- An accepted file: its network, and the record that a read gives. Assumes nothing.
use Rattle.std.specs.Prelude.{◌≡◌, refl, List, ℕ}
use Rattle.std.proofs.Common.{ap, arith}
use Rattle.network.specs.Threshold.{Net}
use Rattle.network.specs.Record.{layout}
use Rattle.network.specs.Sound.{Sound}
use Rattle.pmn_format.specs.Format.{Read, refused, done, Bytes, file_bytes, parse_file}
use Rattle.pmn_format.proofs.CodeLaws.{refused_positive}
use Rattle.pmn_format.proofs.ReadWriteLaws.{file_of_lem}
use Rattle.pmn_reader.specs.Answers.{as_loaded, loaded}

-- an accepted file has a network
pub record FileAccepted (file : List ℕ) : Type 0 where
  pub net : Net
  pub rest : List ℕ
  pub reads : parse_file file ≡ done net rest

pub read_opened : (file : List ℕ) → (loaded file).code ≡ 0 → FileAccepted file
unfolding loaded as_loaded
read_opened file e = go (parse_file file) refl e
  where
    go : (r : Read Net) → parse_file file ≡ r → (as_loaded r).code ≡ 0 → FileAccepted file
    go (refused k) p h = let q = refused_positive file k p in absurd (omega arith)
    go (done N l) p h = record { net = N; rest = l; reads = p }

-- a read gives its record
pub loaded_net : (file : List ℕ) (o : FileAccepted file) → loaded file ≡ record { code = 0; network = layout o.net }
unfolding loaded as_loaded
loaded_net file o = ap as_loaded o.reads

-- which is sound
pub opened_sound : (file : List ℕ) → Bytes file → (o : FileAccepted file) → Sound o.net
opened_sound file bs o = (file_of_lem file o.net o.rest bs o.reads).sound

-- and the file is its bytes
pub opened_bytes : (file : List ℕ) → Bytes file → (o : FileAccepted file) → file ≡ file_bytes o.net
opened_bytes file bs o = (file_of_lem file o.net o.rest bs o.reads).list
