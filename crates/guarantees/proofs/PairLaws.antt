-- The pair on a record is as claimed. Assumes nothing.
use Rattle.std.specs.Prelude.{◌≡◌, refl, true, false, ◌≢◌, ℕ}
use Rattle.std.proofs.Math.Path.{sym, ap, subst}
use Rattle.std.proofs.Common.{◌∙◌, arith}
use Rattle.basics.specs.Refusals.{Answer, accepted, refused, bind}
use Rattle.basics.specs.RefusalLaws.{accepted≢refused}
use Rattle.network.specs.Threshold.{Net}
use Rattle.network.specs.Record.{net_of}
use Rattle.fold_theory.specs.Merge.{merge}
use Rattle.fold_theory.specs.Pair.{Pair, pair}
use Rattle.fold_theory.specs.Guarantee.{HasPair, LeastPair}
use Rattle.fold_theory.proofs.GuaranteeLaws.{pair_claim}
use Rattle.fold_theory.proofs.RefusalLaws.{Numbered}
use Rattle.fold_theory.proofs.NumberLaws.{pair_numbered}
use Rattle.fold_pair.specs.Answers.{as_pair}
use Rattle.fold_pair.specs.declared.PairFound.{PairFound}
use Rattle.call_theory.specs.Calls.{without_figures, moved, reply_of}
use Rattle.call_theory.specs.declared.Call.TheVariants.{Merge}
use Rattle.journal.specs.Records.{state_of, sound_whole}
use Rattle.journal.specs.Answers.{as_call_answer, applied}
use Rattle.journal.proofs.AnswerLaws.{applied_sound}
use Rattle.journal.specs.declared.CallAnswer.{CallAnswer}
use Rattle.journal.specs.declared.Record.{Record}
use Rattle.journal_calls.specs.Answers.{pair_on}
use Rattle.guarantees.specs.Pairs.{pair_given, PairClaim}
use Rattle.guarantees.proofs.AnswerLaws.{by_test, whole_differs, answer_whole, answer_broken}

module _ (r : Record) (u v : ℕ) where
  abbrev N : Net
  N = net_of r.network

  on_net : sound_whole r ≡ true → (a : Answer Pair) → pair N u v ≡ a → pair_on r u v ≡ as_pair a
  unfolding pair_on
  on_net w a e = ap as_pair (answer_whole r (λ N. pair N u v) w ∙ e)

  broken : sound_whole r ≡ false → pair_on r u v ≡ record { code = 20; k = 0; l = 0 }
  unfolding pair_on as_pair
  broken w = ap as_pair (answer_broken r (λ N. pair N u v) w)

  -- the merge of a pair, as a call
  merged : sound_whole r ≡ true → (p : Pair) → pair N u v ≡ accepted p → (applied r (Merge u v p.k p.l)).code ≡ 0
  unfolding as_call_answer reply_of bind state_of
  merged w p e =
      let c = Merge u v p.k p.l in
      ap (λ (x : CallAnswer). x.code) (applied_sound r c w)
      ∙ ap (λ (a : Answer Net). (as_call_answer r c (bind a (λ M. accepted (without_figures (moved (state_of r) c M))))).code)
      ((pair_claim N u v).merges p e)

  whole : sound_whole r ≡ true → (a : Answer Pair) → pair N u v ≡ a → Numbered a → PairClaim r u v
  unfolding as_pair
  whole w (accepted p) e n =
      let o = on_net w (accepted p) e in
      let given : pair_given r u v ≡ p = ap (λ (x : PairFound). record { k = x.k; l = x.l }) o in
      let code = ap (λ (x : PairFound). x.code) o in
      record {
        least = λ h. subst (LeastPair N u v) (sym given) ((pair_claim N u v).least p e);
        merges = λ h. subst (λ (q : Pair). (applied r (Merge u v q.k q.l)).code ≡ 0) (sym given) (merged w p e);
        none = λ h. absurd (omega (arith, sym code ∙ h));
        given = λ s h. code;
        no_numbers = λ h. absurd (h code);
      }
  whole w (refused c) e n =
      let o = on_net w (refused c) e in
      let code = ap (λ (x : PairFound). x.code) o in
      record {
        least = λ h. absurd (n (sym code ∙ h));
        merges = λ h. absurd (n (sym code ∙ h));
        none = λ h. (pair_claim N u v).none (e ∙ ap refused (sym code ∙ h));
        given = λ s h. absurd (not_both ((pair_claim N u v).given h) e);
        no_numbers = λ h. (ap (λ (x : PairFound). x.k) o, ap (λ (x : PairFound). x.l) o);
      }
    where
      not_both : (p : Pair) × (pair N u v ≡ accepted p) → pair N u v ≡ refused c → ⊥
      not_both g e = accepted≢refused (sym g.1 ∙ e)

  pub pair_on_lem : PairClaim r u v
  pair_on_lem = by_test (sound_whole r)
      (λ w. whole w (pair N u v) refl (pair_numbered N u v))
      (λ w.
      let code = ap (λ (x : PairFound). x.code) (broken w) in
      record {
        least = λ h. absurd (omega (arith, sym code ∙ h));
        merges = λ h. absurd (omega (arith, sym code ∙ h));
        none = λ h. absurd (omega (arith, sym code ∙ h));
        given = λ s h. absurd (whole_differs r s w);
        no_numbers = λ h. (ap (λ (x : PairFound). x.k) (broken w), ap (λ (x : PairFound). x.l) (broken w));
      })
