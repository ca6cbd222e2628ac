-- The claims on files hold of whatever the comparison of two files leaves. Assumes nothing.
use Rattle.std.specs.Prelude.{◌≡◌, refl, Bool, true, false, ◌≢◌, List, ℕ, ◌≤◌, ◌<◌, length, get_or}
use Rattle.std.proofs.Common.{sym, ◌∙◌, arith}
use Rattle.std.proofs.Math.Path.{ap, subst}
use Rattle.std.proofs.Math.Bool.{cond}
use Rattle.basics.specs.Refusals.{Answer, accepted, refused, bind, code_of}
use Rattle.basics.specs.TestLaws.{both_true}
use Rattle.network.specs.Threshold.{Net}
use Rattle.network.specs.Record.{net_of}
use Rattle.pmn_format.specs.Format.{Bytes}
use Rattle.pmn_reader.specs.Answers.{loaded}
use Rattle.pmn_opening.specs.Files.{read_net, open_net}
use Rattle.pmn_claims.specs.Reads.{net_in, ReadAlike}
use Rattle.pmn_claims.proofs.ReadLaws.{read_alike}
use Rattle.pmn_claims.specs.Answers.{record_in}
use Rattle.question_theory.specs.Question.{alike}
use Rattle.journal.specs.Records.{sound_whole, just_read}
use Rattle.journal_calls.specs.Answers.{compared_on}
use Rattle.guarantees.specs.Files.{Accepted}
use Rattle.guarantees.proofs.FileLaws.{read_is_written}
use Rattle.compare_theory.specs.Verdicts.{Pair, pair_of, comparable}
use Rattle.compare_networks.specs.Answers.{ComparedAs}
use Rattle.compare_networks.specs.AnswerLaws.{compared_unlike, compared_like}
use Rattle.compare_networks.specs.Files.{compared_files, CompareLeft}
use Rattle.compare_networks.specs.declared.Compared.{Compared}
use Rattle.compare_claims.proofs.ClaimLaws.{compared_is}
use Rattle.compare_claims.specs.Files.{FilesClaim, FilesCompared}

module _ (first second : List ℕ) (bytes_first : Bytes first) (bytes_second : Bytes second) (budget number : ℕ) (before after : List ℕ)
    (h : CompareLeft (compared_files first second (length before)) budget before after number) where
  -- a refusal leaves everything as it was
  refused_with : (c : ℕ) → compared_files first second (length before) ≡ refused c → (number ≡ c) × (after ≡ before)
  refused_with c e = subst (λ (x : Answer Pair). CompareLeft x budget before after number) e h

  one : ReadAlike first
  one = read_alike first bytes_first

  two : ReadAlike second
  two = read_alike second bytes_second

  abbrev N : Net
  N = net_in first

  abbrev M : Net
  M = net_in second

  not_read : (loaded first).code ≢ 0 → compared_files first second (length before) ≡ refused (loaded first).code
  unfolding compared_files bind
  not_read e = ap (λ (a : Answer Net). bind a (λ N. bind (open_net second (length before) 3) (λ M. comparable N M))) (one.refuses e)

  read_first : Accepted first → compared_files first second (length before) ≡ bind (open_net second (length before) 3) (λ M. comparable N M)
  unfolding compared_files bind
  read_first e = ap (λ (a : Answer Net). bind a (λ N. bind (open_net second (length before) 3) (λ M. comparable N M))) (one.gives e)

  opened_as : {a : Answer Net} → open_net second (length before) 3 ≡ a → Accepted first → compared_files first second (length before) ≡ bind a (λ M. comparable N M)
  opened_as e f = read_first f ∙ ap (λ (a : Answer Net). bind a (λ M. comparable N M)) e

  both_read : Accepted first → Accepted second → 3 ≤ length before → compared_files first second (length before) ≡ comparable N M
  unfolding bind
  both_read e f l = opened_as (two.opens (length before) 3 f l) e

  whole_first : Accepted first → sound_whole (record_in first) ≡ true
  whole_first e = (read_is_written first bytes_first).sound_read e

  whole_second : Accepted second → sound_whole (record_in second) ≡ true
  whole_second e = (read_is_written second bytes_second).sound_read e

  records_as : Accepted first → Accepted second → compared_on (record_in first) (record_in second) ≡ comparable N M
  unfolding just_read
  records_as e f = compared_is (record_in first) (record_in second)
      ∙ ap (λ (t : Bool). cond t (comparable N M) (refused 20)) (both_true (sound_whole (record_in first)) (sound_whole (record_in second)) (whole_first e) (whole_second f))

  -- the numbers that are left, as an answer
  abbrev given : Compared
  given = record { code = 0; verdict = get_or after 0 0; frame = get_or after 1 0; steps = get_or after 2 0 }

  pub files_claim : FilesClaim first second budget before after number
  unfolding bind
  files_claim = record {
    first_refused = λ e. refused_with _ (not_read e);
    second_refused = λ e f. refused_with _ (opened_as (two.not_opened (length before) 3 f) e);
    few_places = λ e f l. refused_with 18 (opened_as (two.too_few (length before) 3 f l) e);
    unlike = λ e f l u. refused_with 19 (both_read e f l ∙ compared_unlike N M u);
    compared = λ e f l u.
        let p = subst (λ (x : Answer Pair). CompareLeft x budget before after number) (both_read e f l ∙ compared_like N M u) h in
        (p.number_is, p.put, subst (λ (x : Answer Pair). ComparedAs x budget given) (sym (records_as e f ∙ compared_like N M u)) (refl, p.verdict));
  }
