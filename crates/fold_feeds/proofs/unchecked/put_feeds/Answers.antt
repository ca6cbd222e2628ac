-- The number stands in place 0, and the signals passed after it. Assumes nothing.
use Rattle.std.proofs.Common.{rules, ◌≡◌, ℕ, ◌+◌, List, ◌∷◌, length, take, set, sym, ap, ◌∙◌, arith, add-one}
use Rattle.std.proofs.Math.ListN.{length-set}
use Rattle.std.proofs.Math.Seq.{paste, paste-suc}
use Rattle.pmn_opening.specs.AnswerLaws.{keep_places}
use Rattle.fold_feeds.specs.FileLaws.{pasted}
use Rattle.fold_feeds.proofs.unchecked.put_feeds.Goals as goal

pub returns-then-code-ne0-clause-answer_after : goal.returns-then-code-ne0-clause-answer_after
returns-then-code-ne0-clause-answer_after c =
    let a = c.args in
    keep_places a.listed.code (a.listed.count ∷ take a.listed.count a.listed.signals) a.answer.now c.if-code-ne0.true

pub loop-i-preserved : goal.loop-i-preserved
loop-i-preserved c =
    let l = c.loop-i in
    let a = c.args in
    let d = set a.answer.now 0 a.listed.count in
    let many : length a.listed.signals ≡ 16 = search rules in
    record {
      copied = ap (λ (x : List ℕ). set x (1 + l.i) c.from.result) l.invariant.copied
          ∙ ap (λ (x : ℕ). set (paste d 1 a.listed.signals l.i) (1 + l.i) x) c.from.ensures
          ∙ paste-suc d 1 a.listed.signals l.i 0 (omega (arith, length-set a.answer.now 0 a.listed.count)) (omega (arith, many))
          ∙ ap (λ (n : ℕ). paste d 1 a.listed.signals n) (sym (add-one l.i));
      same_length = length-set l.answer (1 + l.i) c.from.result ∙ l.invariant.same_length;
    }

pub returns-clause-answer_after : goal.returns-clause-answer_after
returns-clause-answer_after c =
    let l = c.loop-i in
    let a = c.args in
    let many : length a.listed.signals ≡ 16 = search rules in
    let n : l.i ≡ a.listed.count = omega arith in
    l.invariant.copied
    ∙ ap (λ (m : ℕ). paste (set a.answer.now 0 a.listed.count) 1 a.listed.signals m) n
    ∙ pasted a.answer.now a.listed.signals a.listed.count (omega arith) (omega (arith, many)) c.if-code-ne0.false
