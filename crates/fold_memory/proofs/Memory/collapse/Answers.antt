-- Each turn lowers one hint more, and says of one gate more whether its refuser stays. Assumes nothing.
use Rattle.std.proofs.Common.{◌≡◌, ◌<◌, ℕ, ap, subst, ◌∙◌, arith, rules, get_or}
use Rattle.fold_memory.specs.Keeping.{lowered_hints, RefuserKept}
use Rattle.fold_memory.specs.KeepingLaws.{lowered_to, lowered_none, lowered_more, kept_none, kept_more}
use Rattle.fold_memory.proofs.Memory.collapse.Goals as goal

pub loop-i-init : goal.loop-i-init
loop-i-init c = record { hints = lowered_none _ _; refusers = kept_none _ _ _ (search rules) }

pub loop-i-preserved : goal.loop-i-preserved
loop-i-preserved c =
    let loop = c.loop-i in
    let a = c.args in record {
      hints = lowered_more a.self.now.hints a.g loop.i loop.invariant.hints c.former_number-from.ensures.number c.lowered_number-hint.ensures;
      refusers = kept_more loop.invariant.refusers c.kept_refuser-refuser.result (omega (arith, c.loop-i-test.true))
          (subst (λ (w : ℕ). c.kept_refuser-refuser.result < 128 → RefuserKept a.ks.now a.g w (get_or loop.self.refusers w 0) c.kept_refuser-refuser.result)
          c.former_number-from.ensures.number c.kept_refuser-refuser.ensures);
    }

pub returns-clause-hints : goal.returns-clause-hints
unfolding lowered_hints
returns-clause-hints c =
    let e : c.loop-i.i ≡ 127 = omega arith in
    c.loop-i.invariant.hints ∙ ap (lowered_to c.args.self.now.hints c.args.g) e
