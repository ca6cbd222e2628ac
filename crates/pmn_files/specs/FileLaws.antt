-- The size report of a file, and the writing of a file, by the calls on the record of its network. Assumes nothing.
use Rattle.std.specs.Prelude.{◌≡◌, refl, Bool, true, false, List, [], ◌∷◌, ℕ, leb, length}
use Rattle.std.proofs.Common.{sym, ap, ◌∙◌}
use Rattle.basics.specs.Refusals.{Answer, accepted, ◌else◌, checks, code_of, stored}
use Rattle.basics.specs.RefusalLaws.{checks_next}
use Rattle.network.specs.Threshold.{Net}
use Rattle.network.specs.Record.{net_of, sound_record}
use Rattle.network.specs.declared.Network.{Network}
use Rattle.network_report.specs.Size.{sizes, report_of, reported}
use Rattle.network_report.proofs.ReportLaws.{report_layout}
use Rattle.network_report.specs.declared.SizeReport.{SizeReport}
use Rattle.pmn_format.specs.Format.{file_bytes}
use Rattle.pmn_writer.specs.Answers.{write_answer, as_written, written, bytes_after}
use Rattle.pmn_writer.specs.declared.Written.{Written}
use Rattle.pmn_opening.specs.Files.{length_of}
use Rattle.pmn_opening.specs.Places.{answer_of, size_places}
use Rattle.pmn_opening.specs.Opening.{FileOpen}
use Rattle.pmn_opening.specs.OpeningLaws.{open_on, open_record}
use Rattle.pmn_files.specs.Files.{report_places, file_in, file_out}

-- ---- the size

size_whole : (N : Net) → accepted (sizes N) ≡ size_places (report_of (accepted N))
unfolding report_of answer_of
size_whole N = refl

pub report_answer : {file : List ℕ} {r : Network} (lent : List ℕ) → FileOpen file (length lent) 3 r → {s : SizeReport} → s ≡ reported r
    → report_places file lent ≡ answer_of s.code (s.gates ∷ s.cost ∷ s.levels ∷ [])
unfolding report_places
report_answer lent a e =
    let N = a.net in
    open_on a _
    ∙ size_whole N
    ∙ sym (ap size_places (e ∙ ap reported a.laid ∙ report_layout N a.sound))

-- ---- the file of a sound record

-- what the writing of a file leaves: the answer's number, the bytes, and their length in its place
abbrev pub WritingLeft : Answer (List ℕ) → Written → List ℕ → List ℕ → List ℕ → Type 0
WritingLeft a w out after lent =
    (w.code ≡ code_of a) × ((after ≡ stored a out) × (stored (answer_of w.code (w.length ∷ [])) lent ≡ stored (length_of a) lent))

left_test : (b : Bool) (file out lent : List ℕ) → let a = checks ((b else 18) ∷ []) (accepted file) in WritingLeft a (as_written a) out (stored a out) lent
unfolding checks as_written code_of stored answer_of length_of
left_test true file out lent = (refl, (refl, refl))
left_test false file out lent = (refl, (refl, refl))

left_file : (N : Net) (out lent : List ℕ) → let a = file_in (length out) N in WritingLeft a (as_written a) out (stored a out) lent
unfolding file_in
left_file N out lent = left_test (leb (length (file_bytes N)) (length out)) (file_bytes N) out lent

pub file_left : (r : Network) → sound_record r ≡ true → (out lent : List ℕ) {w : Written} {after : List ℕ} → w ≡ written r (length out)
    → after ≡ bytes_after r out → WritingLeft (file_in (length out) (net_of r)) w out after lent
unfolding written bytes_after write_answer file_in
file_left r s out lent {w} {after} d b =
    let same : write_answer r (length out) ≡ file_in (length out) (net_of r) = checks_next (sound_record r) 20 _ _ s in
    rw (d, b, same) (left_file (net_of r) out lent)

-- ---- the file written anew
pub file_answer : {file : List ℕ} {r : Network} (out lent : List ℕ) → FileOpen file (length lent) 1 r → file_out file out lent ≡ file_in (length out) (net_of r)
unfolding file_out
file_answer out lent a = open_on a _ ∙ ap (file_in (length out)) (open_record a)
