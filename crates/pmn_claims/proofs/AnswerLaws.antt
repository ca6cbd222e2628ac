-- The functions on whole files answer as the calls on records do. Assumes nothing.
use Rattle.std.specs.Prelude.{◌≡◌, refl, true, List, [], ◌∷◌, ◌≢◌, ℕ, zero, suc, ◌^◌, ◌≤◌, length, get_or}
use Rattle.std.proofs.Math.Path.{sym, ap}
use Rattle.std.proofs.Common.{◌∙◌, subst, arith}
use Rattle.basics.specs.Refusals.{Answer, accepted, refused, bind, code_of}
use Rattle.network.specs.Threshold.{Net}
use Rattle.network.specs.Record.{net_of}
use Rattle.network_report.specs.Size.{sizes, report_of}
use Rattle.fold_theory.specs.Merge.{edge, distinct, agrees_at, merge}
use Rattle.fold_theory.specs.Pair.{Pair, pair}
use Rattle.fold_theory.specs.Collapse.{collapse}
use Rattle.fold_theory.proofs.RefusalLaws.{Numbered}
use Rattle.fold_theory.proofs.NumberLaws.{pair_numbered, collapse_numbered}
use Rattle.fold_pair.specs.Answers.{as_pair}
use Rattle.fold_pair.specs.Files.{pair_places}
use Rattle.fold_pair.specs.declared.PairFound.{PairFound}
use Rattle.fold_preview.specs.Files.{preview_places}
use Rattle.fold_witness.specs.Files.{WitnessPut, WitnessLeft}
use Rattle.network_report.specs.declared.SizeReport.{SizeReport}
use Rattle.pmn_format.specs.Format.{Bytes}
use Rattle.pmn_reader.specs.Answers.{loaded}
use Rattle.pmn_opening.specs.Files.{open_net}
use Rattle.journal.specs.Records.{sound_whole, just_read}
use Rattle.journal_calls.specs.Answers.{pair_on, preview_on, merge_number, WitnessOn}
use Rattle.guarantees.specs.Files.{Accepted}
use Rattle.guarantees.proofs.FileLaws.{read_is_written}
use Rattle.guarantees.proofs.AnswerLaws.{answer_whole}
use Rattle.pmn_claims.specs.Reads.{net_in}
use Rattle.pmn_claims.proofs.ReadLaws.{read_alike}
use Rattle.pmn_claims.specs.Answers.{record_in, numbered, AnswersAsRecord, FilesAsRecords}

-- an answer as numbers with a code
pair_numbers_lem : (a : Answer Pair) → Numbered a → bind a (λ p. accepted (p.k ∷ p.l ∷ [])) ≡ numbered (as_pair a).code ((as_pair a).k ∷ (as_pair a).l ∷ [])
unfolding bind as_pair
pair_numbers_lem (accepted p) n = refl
pair_numbers_lem (refused zero) n = absurd (n refl)
pair_numbers_lem (refused (suc k)) n = refl

size_numbers : (a : Answer Net) → Numbered a
    → bind a (λ M. accepted (sizes M)) ≡ numbered (report_of a).code ((report_of a).gates ∷ (report_of a).cost ∷ (report_of a).levels ∷ [])
unfolding bind report_of
size_numbers (accepted M) n = refl
size_numbers (refused zero) n = absurd (n refl)
size_numbers (refused (suc k)) n = refl

module _ (file : List ℕ) (bs : Bytes file) (acc : Accepted file) where
  abbrev N : Net
  N = net_in file

  whole : sound_whole (record_in file) ≡ true
  whole = (read_is_written file bs).sound_read acc

  opened : (places needed : ℕ) → needed ≤ places → open_net file places needed ≡ accepted N
  opened places needed h = (read_alike file bs).opens places needed acc h

  pair_is : (u v : ℕ) → pair_on (record_in file) u v ≡ as_pair (pair N u v)
  unfolding pair_on just_read
  pair_is u v = ap as_pair (answer_whole (record_in file) (λ N. pair N u v) whole)

  preview_is : (s : ℕ) → preview_on (record_in file) s ≡ report_of (collapse N s)
  unfolding preview_on just_read
  preview_is s = ap report_of (answer_whole (record_in file) (λ N. collapse N s) whole)

  number_is : (u v k l : ℕ) → merge_number (record_in file) u v k l ≡ code_of (merge N u v k l)
  unfolding merge_number just_read
  number_is u v k l = ap code_of (answer_whole (record_in file) (λ N. merge N u v k l) whole)

  pairs : (u v : ℕ) (answer : List ℕ) → 2 ≤ length answer
      → pair_places file u v answer ≡ numbered (pair_on (record_in file) u v).code ((pair_on (record_in file) u v).k ∷ (pair_on (record_in file) u v).l ∷ [])
  unfolding pair_places bind
  pairs u v answer h =
      ap (λ (a : Answer Net). bind a (λ N. bind (pair N u v) (λ p. accepted (p.k ∷ p.l ∷ [])))) (opened (length answer) 2 h)
      ∙ pair_numbers_lem (pair N u v) (pair_numbered N u v)
      ∙ sym (ap (λ (p : PairFound). numbered p.code (p.k ∷ p.l ∷ [])) (pair_is u v))

  previews : (s : ℕ) (answer : List ℕ) → 3 ≤ length answer → let p = preview_on (record_in file) s in
      preview_places file s answer ≡ numbered p.code (p.gates ∷ p.cost ∷ p.levels ∷ [])
  unfolding preview_places bind
  previews s answer h =
      ap (λ (a : Answer Net). bind a (λ N. bind (collapse N s) (λ M. accepted (sizes M)))) (opened (length answer) 3 h)
      ∙ size_numbers (collapse N s) (collapse_numbered N s)
      ∙ sym (ap (λ (p : SizeReport). numbered p.code (p.gates ∷ p.cost ∷ p.levels ∷ [])) (preview_is s))

  module _ (u v k l : ℕ) (before after : List ℕ) (number : ℕ) (h : 1 ≤ length before)
      (left : WitnessLeft (open_net file (length before) 1) u v k l before after number) where
    put : WitnessPut N u v k l before after number
    put = subst (λ (a : Answer Net). WitnessLeft a u v k l before after number) (opened (length before) 1 h) left

    witnesses : number ≡ 15 → WitnessOn (record_in file) u v k l (record { code = number; setting = get_or after 0 0 })
    unfolding just_read
    witnesses e = record {
      number_is = put.number_is ∙ sym (number_is u v k l);
      shown = λ q. put.shown e;
      none = λ q. absurd (q e);
    }

    no_witness_lem : number ≢ 15 → (number ≡ merge_number (record_in file) u v k l) × (after ≡ before)
    no_witness_lem e = (put.number_is ∙ sym (number_is u v k l), put.kept e)

pub files_as_records : (file : List ℕ) → Bytes file → FilesAsRecords file
files_as_records file bs acc = record {
  pairs = pairs file bs acc;
  previews = previews file bs acc;
  witnesses = witnesses file bs acc;
  no_witness_lem = no_witness_lem file bs acc;
}
