-- Laws of the converter: writing the record of the other version gives the answer. Assumes nothing.
use Rattle.std.specs.Prelude.{◌≡◌, refl, true, false, List, [], ◌∷◌, ℕ, leb}
use Rattle.std.proofs.Math.Path.{sym, ap}
use Rattle.std.proofs.Common.{◌∙◌}
use Rattle.std.proofs.Math.ListN.{length}
use Rattle.basics.specs.Refusals.{Answer, accepted, refused, stored, ◌else◌, checks}
use Rattle.basics.specs.RefusalLaws.{checks_first, checks_next}
use Rattle.network.specs.Threshold.{Net}
use Rattle.network.specs.Record.{net_of, sound_record}
use Rattle.network.specs.declared.Network.{Network}
use Rattle.pmn_format.specs.Format.{file_bytes}
use Rattle.pmn_writer.specs.Answers.{write_answer, as_written, written, bytes_after}
use Rattle.pmn_writer.specs.declared.Written.{Written}
use Rattle.pmn_files.specs.Files.{file_in}
use Rattle.pmn_versions.specs.Versions.{convertible, converted}
use Rattle.pmn_versions.specs.OtherRecord.{other_record}
use Rattle.pmn_versions.proofs.VersionLaws.{other_sound}
use Rattle.pmn_converter.specs.Conversion.{conversion, as_converted}
use Rattle.pmn_converter.specs.declared.Converted.{Converted}

-- ---- the answer
module _ (N : Net) (room : ℕ) where
  pub conversion_refused : convertible N.board ≡ false → conversion N room ≡ refused 25
  unfolding conversion
  conversion_refused e = checks_first (convertible N.board) 25 _ _ e

  pub conversion_on : convertible N.board ≡ true
      → conversion N room ≡ checks ((leb (length (file_bytes (converted N))) room else 18) ∷ []) (accepted (file_bytes (converted N)))
  unfolding conversion
  conversion_on e = checks_next (convertible N.board) 25 _ _ e

-- an answer as the writer gives it
as_written_lem : (a : Answer (List ℕ)) → record { code = (as_written a).code; length = (as_written a).length } ≡ as_converted a
unfolding as_written as_converted
as_written_lem (accepted bytes) = refl
as_written_lem (refused k) = refl

-- a sound record that can be converted
module _ (r : Network) (t : sound_record r ≡ true) (c : convertible r.board ≡ true) where
  other_file : (room : ℕ) → file_in room (net_of (other_record r)) ≡ conversion (net_of r) room
  unfolding file_in net_of converted other_record
  other_file room = sym (conversion_on (net_of r) room c)

  other_answer : (room : ℕ) → write_answer (other_record r) room ≡ conversion (net_of r) room
  unfolding write_answer file_in
  other_answer room = checks_next (sound_record (other_record r)) 20 _ _ (other_sound r t c) ∙ other_file room

  module _ {q : Network} (e : q ≡ other_record r) where
    -- its file is the answer
    pub with_file : (room : ℕ) → conversion (net_of r) room ≡ file_in room (net_of q)
    with_file room = sym (ap (λ (x : Network). file_in room (net_of x)) e ∙ other_file room)

    with_answer : (room : ℕ) → write_answer q room ≡ conversion (net_of r) room
    with_answer room = ap (λ (x : Network). write_answer x room) e ∙ other_answer room

    -- writing it gives the answer
    pub with_written : (room : ℕ) {w : Written} → w ≡ written q room
        → record { code = w.code; length = w.length } ≡ as_converted (conversion (net_of r) room)
    unfolding written
    with_written room {w} d =
        let made : Written → Converted = λ x. record { code = x.code; length = x.length } in
        ap made d ∙ as_written_lem (write_answer q room) ∙ ap as_converted (with_answer room)

    -- and leaves its bytes
    pub with_bytes : (out : List ℕ) {after : List ℕ} → after ≡ bytes_after q out → after ≡ stored (conversion (net_of r) (length out)) out
    unfolding bytes_after
    with_bytes out d = d ∙ ap (λ (a : Answer (List ℕ)). stored a out) (with_answer (length out))
