-- The claims of files and records hold. Assumes nothing.
use Rattle.std.specs.Prelude.{◌≡◌, true, List, ℕ}
use Rattle.std.proofs.Common.{sym, ap, ◌∙◌, arith}
use Rattle.basics.specs.TestLaws.{T_is, is_true}
use Rattle.network.specs.Threshold.{Net}
use Rattle.network.specs.Record.{net_of, layout, sound_record}
use Rattle.network.specs.Sound.{Sound}
use Rattle.network.specs.RecordLaws.{ArrayLengths, net_of_layout, layout_net_of, sound_net, sound_layout}
use Rattle.network.specs.declared.Network.{Network}
use Rattle.pmn_format.specs.Format.{Bytes, file_bytes}
use Rattle.pmn_format.proofs.WriteReadLaws.{file_read}
use Rattle.pmn_format.proofs.LengthLaws.{file_bytes_lem}
use Rattle.pmn_reader.specs.Answers.{as_loaded, loaded}
use Rattle.pmn_reader.specs.OpenLaws.{read_opened, loaded_net, opened_sound, opened_bytes}
use Rattle.pmn_reader.specs.declared.Loaded.{Loaded}
use Rattle.journal.specs.Journals.{empty_journal}
use Rattle.journal.specs.Records.{just_read}
use Rattle.journal.proofs.AnswerLaws.{whole_network, whole_few, whole_of}
use Rattle.journal.specs.declared.Record.{Record}
use Rattle.guarantees.specs.Files.{Accepted, Gives, file_of, SoundIsDescribed, WrittenIsRead, ReadIsWritten}

-- ---- what a read gives

gives_net : (N : Net) → Sound N → Gives (file_bytes N) (layout N)
unfolding loaded as_loaded
gives_net N s = ap as_loaded (file_read N s)

-- ---- the claims

net_is_read : (r : Network) → ArrayLengths r → sound_record r ≡ true → Gives (file_of r) r
net_is_read r h e =
    let t = T_is (sound_record r) e in
    gives_net (net_of r) (sound_net r t) ∙ ap (λ (x : Network). record { code = 0; network = x }) (layout_net_of r h t)

-- a network just read is sound
read_sound : (file : List ℕ) → Bytes file → Accepted file → sound_record (loaded file).network ≡ true
read_sound file bs e =
    let o = read_opened file e in
    ap (λ (x : Loaded). sound_record x.network) (loaded_net file o) ∙ is_true (sound_record (layout o.net)) (sound_layout o.net (opened_sound file bs o))

pub written_is_read : (r : Record) → ArrayLengths r.network → WrittenIsRead r
written_is_read r h e = net_is_read r.network h (whole_network r e)

pub read_is_written : (file : List ℕ) → Bytes file → ReadIsWritten file
unfolding just_read empty_journal
read_is_written file bs = record {
  same_bytes = λ e.
      let o = read_opened file e in
      ap (λ (x : Loaded). file_of x.network) (loaded_net file o) ∙ ap file_bytes (net_of_layout o.net (opened_sound file bs o))
      ∙ sym (opened_bytes file bs o);
  sound_read = λ e. whole_of (just_read (loaded file).network) (read_sound file bs e) (omega arith);
}

pub sound_is_described : (r : Record) → ArrayLengths r.network → SoundIsDescribed r
sound_is_described r h = (
  (λ e.
      let n = whole_network r e in (
        (file_of r.network, file_bytes_lem (net_of r.network) (sound_net r.network (T_is (sound_record r.network) n)), net_is_read r.network h n),
        whole_few r e,
      )),
  (λ d. let (file, bs, g) = d.0 in
      let e : (loaded file).code ≡ 0 = ap (λ (x : Loaded). x.code) g in
      whole_of r (ap sound_record (sym (ap (λ (x : Loaded). x.network) g)) ∙ read_sound file bs e) d.1),
)
