-- The preview's report, or its refusal, as three numbers. Assumes nothing.
use Rattle.std.specs.Prelude.{Ok}
use Rattle.std.proofs.Common.{sym, ap, ◌∙◌}
use Rattle.refusals.specs.NumberLaws.{handed_on}
use Rattle.call_theory.specs.declared.Figures.{Figures}
use Rattle.call_preview.specs.Answers.{size_given}
use Rattle.call_preview.proofs.unchecked.preview_in.Goals as goal

pub returns-in_err-size_after : goal.returns-in_err-size_after
returns-in_err-size_after c = ap size_given (handed_on c.from_residual.ensures.1) ∙ c.in_err-size_after.ensures.size

pub returns : goal.returns
returns c =
    let z = c.in_ok-size_after.field-0 in
    ap (λ (f : Figures). size_given (Ok f)) c.shown.ensures
    ∙ (λ x. record { code = sym c.in_ok-size_after.ensures.accepts x; gates = z.gates; cost = z.cost; levels = z.levels })
    ∙ c.in_ok-size_after.ensures.size
