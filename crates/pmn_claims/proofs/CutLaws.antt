-- The cut of a file is as claimed. Assumes nothing.
use Rattle.std.specs.Prelude.{◌≡◌, ◌≢◌, ℕ, ◌≤◌, ◌<◌, leb, length}
use Rattle.std.proofs.Common.{sym, ◌∙◌, subst, arith, le-leb}
use Rattle.std.proofs.Math.Path.{ap}
use mathlib.Core.List.{List, [], ◌∷◌}
use Rattle.std.proofs.lemmas.Bool.{lt-leb}
use Rattle.basics.specs.Refusals.{Answer, accepted, refused, ◌else◌, checks, bind}
use Rattle.basics.specs.RefusalLaws.{checks_first, checks_next, checks_none}
use Rattle.network.specs.Threshold.{Net}
use Rattle.network.specs.Sound.{Sound}
use Rattle.network.specs.LimitLaws.{sound_of}
use Rattle.pmn_format.specs.Format.{Bytes, file_bytes}
use Rattle.pmn_reader.specs.Answers.{loaded}
use Rattle.pmn_opening.specs.Files.{open_net}
use Rattle.pmn_files.specs.Files.{file_in}
use Rattle.cut_theory.specs.Cut.{named, cut_net, cut}
use Rattle.cut_theory.specs.Claims.{CutOut}
use Rattle.cut_theory.proofs.CutLaws.{cut_accepts, cut_stray, cut_only}
use Rattle.cut_files.specs.Answers.{cut_places}
use Rattle.guarantees.specs.Files.{Accepted}
use Rattle.pmn_claims.specs.Reads.{net_in}
use Rattle.pmn_claims.proofs.ReadLaws.{read_sound, written_read, read_alike}
use Rattle.pmn_claims.specs.Cuts.{FileCut, CutClaim}

module _ (file : List ℕ) (bs : Bytes file) (output : ℕ) where
  abbrev N : Net
  N = net_in file

  as_read : (loaded file).code ≢ 0 → (room places : ℕ) → cut_places file output room places ≡ refused (loaded file).code
  unfolding cut_places bind
  as_read h room places = ap (λ (a : Answer Net). bind a (λ N. bind (cut N output) (file_in room))) ((read_alike file bs).not_opened places 1 h)

  no_place : Accepted file → (room : ℕ) → cut_places file output room 0 ≡ refused 18
  unfolding cut_places bind
  no_place acc room = ap (λ (a : Answer Net). bind a (λ N. bind (cut N output) (file_in room))) ((read_alike file bs).too_few 0 1 acc (omega arith))

  -- the cut of the network that was read
  on_net : Accepted file → (room places : ℕ) → 1 ≤ places → (a : Answer Net) → cut N output ≡ a → cut_places file output room places ≡ bind a (file_in room)
  unfolding cut_places bind
  on_net acc room places h a e =
      ap (λ (x : Answer Net). bind x (λ N. bind (cut N output) (file_in room))) ((read_alike file bs).opens places 1 acc h)
      ∙ ap (λ (x : Answer Net). bind x (file_in room)) e

  stray : Accepted file → length N.outputs ≤ output → (room places : ℕ) → 1 ≤ places → cut_places file output room places ≡ refused 8
  unfolding bind
  stray acc k room places h = on_net acc room places h (refused 8) (cut_stray N output (read_sound file bs acc) k)

  module _ (acc : Accepted file) (k : output < length N.outputs) where
    abbrev M : Net
    M = cut_net N (named N output)

    abbrev b : List ℕ
    b = file_bytes M

    cut_is : cut N output ≡ accepted M
    cut_is = cut_accepts N output (read_sound file bs acc) k

    cut_out : CutOut N output M
    cut_out = (cut_only N output (read_sound file bs acc) M cut_is).1

    put_out : (room places : ℕ) → 1 ≤ places → length b ≤ room → cut_places file output room places ≡ accepted b
    unfolding bind file_in
    put_out room places h l = on_net acc room places h (accepted M) cut_is
        ∙ checks_next (leb (length b) room) 18 [] (accepted b) (le-leb (length b) room l) ∙ checks_none (accepted b)

    too_long : (room places : ℕ) → 1 ≤ places → room < length b → cut_places file output room places ≡ refused 18
    unfolding bind file_in
    too_long room places h l = on_net acc room places h (accepted M) cut_is ∙ checks_first (leb (length b) room) 18 [] (accepted b) (lt-leb (length b) room l)

    given : FileCut file output
    given =
        let w = written_read M (sound_of M cut_out.sound_after) in
        record {
          bytes = b;
          accepts = w.0;
          is_cut = subst (CutOut N output) (sym w.1) cut_out;
          put_out = put_out;
          too_long = too_long;
        }

  pub cut_claim : CutClaim file output
  cut_claim = record { as_read = as_read; no_place = no_place; stray = stray; given = given }
