-- Laws of what `write` answers: each of its three answers. Assumes nothing.
use Rattle.std.specs.Prelude.{◌≡◌, true, false, List, ◌++◌, ℕ, ◌≤◌, ◌<◌, leb, length, drop}
use Rattle.std.proofs.Common.{sym, ap, ◌∙◌, le-leb}
use Rattle.std.proofs.lemmas.Bool.{lt-leb}
use Rattle.basics.specs.Refusals.{Answer, accepted, refused, stored}
use Rattle.basics.specs.RefusalLaws.{checks_first, checks_next, checks_none}
use Rattle.network.specs.declared.Network.{Network}
use Rattle.network.specs.Record.{net_of, sound_record}
use Rattle.pmn_format.specs.Format.{file_bytes}
use Rattle.pmn_writer.specs.Answers.{write_answer, as_written, written, bytes_after}

-- 20, broken record
pub write_broken : (r : Network) (room : ℕ) → sound_record r ≡ false → write_answer r room ≡ refused 20
unfolding write_answer
write_broken r room h = checks_first (sound_record r) 20 _ _ h

-- 18, short buffer
pub write_short : (r : Network) (room : ℕ) → sound_record r ≡ true → room < length (file_bytes (net_of r)) → write_answer r room ≡ refused 18
unfolding write_answer
write_short r room h k =
    checks_next (sound_record r) 20 _ _ h ∙ checks_first (leb (length (file_bytes (net_of r))) room) 18 _ _ (lt-leb (length (file_bytes (net_of r))) room k)

-- the file
pub write_whole : (r : Network) (room : ℕ) → sound_record r ≡ true → length (file_bytes (net_of r)) ≤ room → write_answer r room ≡ accepted (file_bytes (net_of r))
unfolding write_answer
write_whole r room h k =
    checks_next (sound_record r) 20 _ _ h ∙ checks_next (leb (length (file_bytes (net_of r))) room) 18 _ _ (le-leb (length (file_bytes (net_of r))) room k)
    ∙ checks_none _

-- a refusal's number, and the bytes untouched
pub written_refused : (r : Network) (k : ℕ) (out : List ℕ) → write_answer r (length out) ≡ refused k
    → (record { code = k; length = 0 } ≡ written r (length out)) × (out ≡ bytes_after r out)
unfolding written as_written bytes_after stored
written_refused r k out e = (sym (ap as_written e), sym (ap (λ (a : Answer (List ℕ)). stored a out) e))

-- the file's length, and the file at the front
pub written_whole : (r : Network) (n : ℕ) (out : List ℕ) → write_answer r (length out) ≡ accepted (file_bytes (net_of r)) → n ≡ length (file_bytes (net_of r))
    → (record { code = 0; length = n } ≡ written r (length out)) × (file_bytes (net_of r) ++ drop n out ≡ bytes_after r out)
unfolding written as_written bytes_after stored
written_whole r n out e l = (
  ap (λ (m : ℕ). record { code = 0; length = m }) l ∙ sym (ap as_written e),
  ap (λ (m : ℕ). file_bytes (net_of r) ++ drop m out) l ∙ sym (ap (λ (a : Answer (List ℕ)). stored a out) e),
)
