-- What the functions on whole files start from is as claimed. Assumes nothing.
use Rattle.std.specs.Prelude.{◌≡◌, ◌≢◌, ℕ, ◌≤◌, ◌<◌, leb}
use Rattle.std.proofs.Math.Path.{refl, ap}
use Rattle.std.proofs.Common.{sym, ◌∙◌, subst, arith, le-leb}
use mathlib.Core.List.{List, [], ◌∷◌}
use Rattle.std.proofs.lemmas.Bool.{lt-leb}
use Rattle.basics.specs.Refusals.{Answer, accepted, refused, ◌else◌, checks, bind}
use Rattle.basics.specs.RefusalLaws.{checks_first, checks_next, checks_none}
use Rattle.network.specs.Threshold.{Net}
use Rattle.network.specs.Sound.{Sound}
use Rattle.network.specs.Record.{net_of, layout}
use Rattle.network.specs.RecordLaws.{net_of_layout}
use Rattle.pmn_format.specs.Format.{Read, done, Bytes, file_bytes, parse_file}
use Rattle.pmn_format.proofs.WriteReadLaws.{file_read}
use Rattle.pmn_format.proofs.CodeLaws.{refused_positive}
use Rattle.pmn_reader.specs.Answers.{as_loaded, loaded}
use Rattle.pmn_reader.specs.OpenLaws.{FileAccepted, read_opened, loaded_net, opened_sound, opened_bytes}
use Rattle.pmn_reader.specs.declared.Loaded.{Loaded}
use Rattle.pmn_opening.specs.Files.{as_answer, read_net, open_net}
use Rattle.guarantees.specs.Files.{Accepted}
use Rattle.pmn_claims.specs.Reads.{net_in, ReadAlike}

-- ---- a file that a read accepts
module _ (file : List ℕ) (bs : Bytes file) (acc : Accepted file) where
  abbrev o : FileAccepted file
  o = read_opened file acc

  pub read_net_lem : net_in file ≡ o.net
  read_net_lem = ap (λ (x : Loaded). net_of x.network) (loaded_net file o) ∙ net_of_layout o.net (opened_sound file bs o)

  pub read_sound : Sound (net_in file)
  read_sound = subst Sound (sym read_net_lem) (opened_sound file bs o)

  -- its record and its bytes are those of its network
  pub read_record : (loaded file).network ≡ layout (net_in file)
  read_record = ap (λ (x : Loaded). x.network) (loaded_net file o) ∙ ap layout (sym read_net_lem)

  pub read_bytes : file ≡ file_bytes (net_in file)
  read_bytes = opened_bytes file bs o ∙ ap file_bytes (sym read_net_lem)

-- ---- a file that was written
pub written_read : (M : Net) → Sound M → (Accepted (file_bytes M)) × (net_in (file_bytes M) ≡ M)
unfolding loaded as_loaded
written_read M t =
    let l : loaded (file_bytes M) ≡ record { code = 0; network = layout M } = ap as_loaded (file_read M t) in
    (ap (λ (x : Loaded). x.code) l, ap (λ (x : Loaded). net_of x.network) l ∙ net_of_layout M t)

-- ---- the claim
module _ (file : List ℕ) (bs : Bytes file) where
  gives : Accepted file → read_net file ≡ accepted (net_in file)
  unfolding read_net as_answer
  gives acc = ap as_answer (read_opened file acc).reads ∙ ap accepted (sym (read_net_lem file bs acc))

  refuses : (loaded file).code ≢ 0 → read_net file ≡ refused (loaded file).code
  unfolding read_net as_answer loaded as_loaded
  refuses = go (parse_file file)
    where
      go : (r : Read Net) → (as_loaded r).code ≢ 0 → as_answer r ≡ refused (as_loaded r).code
      go (Read.refused k) h = refl
      go (done N l) h = absurd (h refl)

  module _ (places needed : ℕ) where
    abbrev tested : Net → Answer Net
    tested N = checks ((leb needed places else 18) ∷ []) (accepted N)

    opens : Accepted file → needed ≤ places → open_net file places needed ≡ accepted (net_in file)
    unfolding open_net bind
    opens acc h = ap (λ (a : Answer Net). bind a tested) (gives acc)
        ∙ checks_next (leb needed places) 18 [] (accepted (net_in file)) (le-leb needed places h) ∙ checks_none (accepted (net_in file))

    too_few : Accepted file → places < needed → open_net file places needed ≡ refused 18
    unfolding open_net bind
    too_few acc h = ap (λ (a : Answer Net). bind a tested) (gives acc)
        ∙ checks_first (leb needed places) 18 [] (accepted (net_in file)) (lt-leb needed places h)

    not_opened : (loaded file).code ≢ 0 → open_net file places needed ≡ refused (loaded file).code
    unfolding open_net bind
    not_opened h = ap (λ (a : Answer Net). bind a tested) (refuses h)

  pub read_alike : ReadAlike file
  read_alike = record { gives = gives; refuses = refuses; opens = opens; too_few = too_few; not_opened = not_opened }
