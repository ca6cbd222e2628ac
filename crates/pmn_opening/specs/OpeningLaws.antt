-- Laws of the opening of a file, with which the functions begin. Assumes nothing.
use Rattle.std.specs.Prelude.{◌≡◌, refl, true, ℕ, ◌<◌, ◌≤◌, leb, get_or}
use Rattle.std.proofs.Math.Path.{sym, ap}
use Rattle.std.proofs.Common.{◌∙◌, arith, le-leb}
use mathlib.Core.List.{List, [], ◌∷◌}
use Rattle.std.proofs.lemmas.Bool.{lt-leb}
use Rattle.basics.specs.Refusals.{Answer, accepted, refused, ◌else◌, checks, bind, code_of}
use Rattle.basics.specs.RefusalLaws.{checks_first, checks_next, checks_none}
use Rattle.basics.specs.TestLaws.{is_true}
use Rattle.network.specs.Threshold.{Net}
use Rattle.network.specs.Record.{net_of, sound_record}
use Rattle.network.specs.RecordLaws.{net_of_layout, sound_layout}
use Rattle.network.specs.declared.Network.{Network}
use Rattle.pmn_format.specs.Format.{Read, done, parse_file}
use Rattle.pmn_format.proofs.LengthLaws.{bytes_of}
use Rattle.pmn_reader.specs.Answers.{as_loaded, loaded}
use Rattle.pmn_reader.specs.OpenLaws.{read_opened, loaded_net, opened_sound}
use Rattle.pmn_reader.specs.declared.Loaded.{Loaded}
use Rattle.pmn_opening.specs.Files.{as_answer, read_net, open_net}
use Rattle.pmn_opening.specs.Opening.{FileOpen, Opening}
use Rattle.pmn_opening.specs.AnswerLaws.{bind_code}

-- ---- an accepted file
module _ {file : List ℕ} {places needed : ℕ} {r : Network} (a : FileOpen file places needed r) where
  -- its record is sound
  pub file_sound : sound_record r ≡ true
  file_sound = ap sound_record a.laid ∙ is_true _ (sound_layout a.net a.sound)

  -- its network is the record's
  pub open_record : a.net ≡ net_of r
  open_record = sym (ap net_of a.laid ∙ net_of_layout a.net a.sound)

  -- what follows is given the network
  pub read_on : {A : Type 0} (f : Net → Answer A) → bind (read_net file) f ≡ f a.net
  unfolding bind read_net as_answer
  read_on f = ap (λ (x : Read Net). bind (as_answer x) f) a.reads

  pub open_net_lem : open_net file places needed ≡ accepted a.net
  unfolding open_net
  open_net_lem = read_on _ ∙ checks_next (leb needed places) 18 [] (accepted a.net) (le-leb needed places a.room) ∙ checks_none (accepted a.net)

  pub open_on : {A : Type 0} (f : Net → Answer A) → bind (open_net file places needed) f ≡ f a.net
  unfolding bind
  open_on f = ap (λ (x : Answer Net). bind x f) open_net_lem

-- ---- the codes

-- that of a read
pub read_code : (file : List ℕ) {l : Loaded} → l ≡ loaded file → l.code ≡ code_of (read_net file)
unfolding loaded as_loaded read_net as_answer code_of
read_code file e = ap (λ (x : Loaded). x.code) e ∙ go (parse_file file)
  where
    go : (r : Read Net) → (as_loaded r).code ≡ code_of (as_answer r)
    go (Read.refused k) = refl
    go (done N l) = refl

-- that of an opening which needs no places
open_none : (file : List ℕ) → open_net file 0 0 ≡ read_net file
unfolding open_net bind checks
open_none file = go (read_net file)
  where
    go : (a : Answer Net) → bind a (λ N. checks ((leb 0 0 else 18) ∷ []) (accepted N)) ≡ a
    go (accepted N) = refl
    go (refused k) = refl

-- a code that is not 0 is the answer, whatever follows
module _ {A : Type 0} {file : List ℕ} {k : ℕ} {r : Network} where
  pub open_refused : {places needed : ℕ} → Opening file places needed k r → (f : Net → Answer A) → (k ≡ 0 → ⊥) → bind (open_net file places needed) f ≡ refused k
  open_refused o f h = bind_code _ f o.code h

  pub read_refused : Opening file 0 0 k r → (f : Net → Answer A) → (k ≡ 0 → ⊥) → bind (read_net file) f ≡ refused k
  read_refused o f h = bind_code _ f (o.code ∙ ap code_of (open_none file)) h

-- ---- a file that was read, and the places that are needed
module _ (file : List ℕ) (small : (i : ℕ) → get_or file i 0 < 256) {l : Loaded} (e : l ≡ loaded file) where
  file_open : {places needed : ℕ} → l.code ≡ 0 → needed ≤ places → FileOpen file places needed l.network
  file_open h room =
      let o = read_opened file (sym (ap (λ (x : Loaded). x.code) e) ∙ h) in
      let bytes = bytes_of file small in
      record {
        bytes = bytes;
        net = o.net;
        rest = o.rest;
        reads = o.reads;
        sound = opened_sound file bytes o;
        laid = ap (λ (x : Loaded). x.network) (e ∙ loaded_net file o);
        room = room;
      }

  module _ (places needed : ℕ) where
    -- a refusal
    pub opening_refused : (l.code ≡ 0 → ⊥) → Opening file places needed l.code l.network
    unfolding open_net code_of
    opening_refused h = record { code = sym (ap code_of (bind_code _ _ (read_code file e) h)); gives = λ z. absurd (h z) }

    -- too few places
    pub opening_short : l.code ≡ 0 → places < needed → Opening file places needed 18 l.network
    unfolding open_net code_of
    opening_short h few =
        let a : FileOpen file 0 0 l.network = file_open h (omega arith) in
        record {
          code = sym (ap code_of (read_on a _ ∙ checks_first (leb needed places) 18 [] (accepted a.net) (lt-leb needed places few)));
          gives = λ z. absurd (omega arith);
        }

    -- enough of them
    pub opening_enough : l.code ≡ 0 → needed ≤ places → Opening file places needed 0 l.network
    unfolding code_of
    opening_enough h room = let a = file_open h room in record { code = sym (ap code_of (open_net_lem a)); gives = λ z. a }
