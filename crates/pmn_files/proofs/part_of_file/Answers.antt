-- The refusal, then the gate's bytes: an empty part says that no gate has the signal.
use Rattle.std.proofs.Common.{ap, ◌∙◌, List, ◌++◌, ℕ, length, drop}
use Rattle.pmn_opening.specs.AnswerLaws.{refused_two}
use Rattle.pmn_opening.specs.OpeningLaws.{open_refused}
use Rattle.pmn_files.specs.Files.{part_out}
use Rattle.pmn_files.specs.PartLaws.{part_none, part_long, part_fits, part_left}
use Rattle.pmn_files.proofs.part_of_file.Goals as goal

pub returns-then-code-ne0 : goal.returns-then-code-ne0
unfolding part_out
returns-then-code-ne0 c =
    let a = c.args in
    let r = refused_two a.out.now a.answer.now (open_refused c.read_refusal-code.ensures _ c.if-code-ne0.true) in
    record { value = r.0; out_after = r.1.0; answer_after = r.1.1 }

pub returns-then-length-eq0 : goal.returns-then-length-eq0
returns-then-length-eq0 c =
    let a = c.args in
    let f = c.read_refusal-code.ensures.gives c.if-code-ne0.false in
    let r = refused_two a.out.now a.answer.now (part_none a.answer.now f a.signal a.out.now c.gate_part-part.ensures c.if-length-eq0.true) in
    record { value = r.0; out_after = r.1.0; answer_after = r.1.1 }

pub returns-then-out-length : goal.returns-then-out-length
returns-then-out-length c =
    let a = c.args in
    let f = c.read_refusal-code.ensures.gives c.if-code-ne0.false in
    let r = refused_two a.out.now a.answer.now
    (part_long a.answer.now f a.signal a.out.now c.gate_part-part.ensures c.if-length-eq0.false c.if-out-length.true) in
    record { value = r.0; out_after = r.1.0; answer_after = r.1.1 }

pub returns : goal.returns
returns c =
    let p = c.put_one in
    let a = c.args in
    let f = c.read_refusal-code.ensures.gives c.if-code-ne0.false in
    let e = part_fits a.answer.now f a.signal a.out.now c.gate_part-part.ensures c.if-length-eq0.false c.if-out-length.false in
    let v = part_left a.out.now a.answer.now e in
    record {
      value = p.ensures.value ∙ v.0;
      out_after = ap (λ (l : List ℕ). l ++ drop (length c.gate_part-part.result.now) a.out.now) c.copy_from_slice.ensures.after ∙ v.1.0;
      answer_after = p.ensures.answer_after ∙ v.1.1;
    }
