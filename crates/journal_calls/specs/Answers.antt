-- What the calls answer on a record that do not change it: the answer on its network, after the test of its journal. Nothing is proved here.
use Rattle.std.specs.Prelude.{List, ℕ, ◌^◌, length}
use Rattle.basics.specs.Refusals.{Answer, code_of}
use Rattle.network.specs.Record.{net_of}
use Rattle.frame_reading.specs.Reading.{frame_answer, as_reading}
use Rattle.frame_reading.specs.declared.Reading.{Reading}
use Rattle.frame_batch.specs.Frames.{frames_answer}
use Rattle.network_report.specs.Size.{report_of}
use Rattle.network_report.specs.declared.SizeReport.{SizeReport}
use Rattle.fold_theory.specs.Merge.{edge, distinct, agrees_at, merge}
use Rattle.fold_theory.specs.Pair.{pair}
use Rattle.fold_theory.specs.Collapse.{collapse}
use Rattle.journal.specs.Records.{tested}
use Rattle.journal.specs.declared.Record.{Record}
use Rattle.fold_merge.specs.Answers.{on_record}
use Rattle.fold_pair.specs.Answers.{as_pair}
use Rattle.fold_pair.specs.declared.PairFound.{PairFound}
use Rattle.pmn_writer.specs.Answers as writing
use Rattle.pmn_writer.specs.declared.Written.{Written}
use Rattle.question_text.specs.Answers as lines
use Rattle.question_text.specs.declared.LineWritten.{LineWritten}
use Rattle.fold_witness.specs.Witness.{Shows}
use Rattle.fold_feeds.specs.Feeds.{feeds, as_feeds}
use Rattle.fold_feeds.specs.declared.DistinctFeeds.{DistinctFeeds}
use Rattle.fold_witness.specs.declared.Witnessed.{Witnessed}
use Rattle.compare_theory.specs.Verdicts.{Pair}
use Rattle.compare_networks.specs.Answers.{compare_answer, ComparedAs}
use Rattle.compare_networks.specs.declared.Compared.{Compared}

-- the bytes of the file, or 20, 18
unfoldable pub writing_on : Record → ℕ → Answer (List ℕ)
writing_on r room = tested r (writing.write_answer r.network room)

abbrev pub as_written : Answer (List ℕ) → Written
as_written = writing.as_written

-- 20, 10
unfoldable pub reading_on : Record → ℕ → Reading
reading_on r x = as_reading (tested r (frame_answer r.network x))

-- the words, or 20, 26, 10
unfoldable pub frames_on : Record → List ℕ → List ℕ → Answer (List ℕ)
frames_on r frames lent = tested r (frames_answer r.network frames lent)

-- 20
unfoldable pub report_on : Record → SizeReport
report_on r = report_of (tested r (on_record r.network Answer.accepted))

-- the text of line n, or 20, 19, 21, 18
unfoldable pub line_on : Record → Record → ℕ → ℕ → Answer (List ℕ)
line_on a b n room = tested a (tested b (lines.line_answer a.network b.network n room))

abbrev pub as_line_written : Answer (List ℕ) → LineWritten
as_line_written = lines.as_line_written

-- 20, 11, 12, 7, 16
unfoldable pub pair_on : Record → ℕ → ℕ → PairFound
pair_on r u v = as_pair (tested r (on_record r.network (λ N. pair N u v)))

-- "gates, cost and levels afterwards, or the refusal"
unfoldable pub preview_on : Record → ℕ → SizeReport
preview_on r s = report_of (tested r (on_record r.network (λ N. collapse N s)))

-- the number of the merge on this record
unfoldable pub merge_number : Record → ℕ → ℕ → ℕ → ℕ → ℕ
merge_number r u v k l = code_of (tested r (on_record r.network (λ N. merge N u v k l)))

-- a witness of the merge, "with the merge's own number"
abbrev pub WitnessOn : Record → ℕ → ℕ → ℕ → ℕ → Witnessed → Type 0
WitnessOn r u v k l w =
    Shows (merge_number r u v k l) (2 ^ length (distinct (edge (net_of r.network) u v))) (agrees_at (edge (net_of r.network) u v) k l) w

-- 20, 11, 12, 7
unfoldable pub feeds_on : Record → ℕ → ℕ → DistinctFeeds
feeds_on r u v = as_feeds (tested r (on_record r.network (λ N. feeds N u v)))

-- the two networks, or 20 for either record, 19
unfoldable pub compared_on : Record → Record → Answer Pair
compared_on a b = tested a (tested b (compare_answer a.network b.network))

-- a verdict on the two, which is left free where the definition leaves it so; or the refusal
abbrev pub CompareOn : Record → Record → ℕ → Compared → Type 0
CompareOn a b budget r = ComparedAs (compared_on a b) budget r
