use Rattle.std.proofs.Common.{refl, add-one, arith, eq-eqb, ne_eqb, length-take, get_or-take}
use Rattle.basics.specs.Lists.{all}
use Rattle.network.specs.Threshold.{fits_frame}
use Rattle.scorer_play.specs.WordLaws.{fit_next}
use Rattle.scorer_play.proofs.unchecked.short_frames.Goals as goal

pub loop-count-init : goal.loop-count-init
unfolding all
loop-count-init c = refl

pub returns-then-frame-inputs-ne0 : goal.returns-then-frame-inputs-ne0
unfolding fits_frame
returns-then-frame-inputs-ne0 c =
    let frames = c.args.frames.now in
    let count = c.loop-count.count in
    let many = length-take c.min.result frames in
    record {
      within = omega arith;
      few = omega arith;
      fit = c.loop-count.invariant;
      next = λ h k. rw (← get_or-take c.min.result frames count 0 (omega arith)) (ne_eqb _ 0 c.if-frame-inputs-ne0.true);
    }

pub loop-count-preserved : goal.loop-count-preserved
unfolding fits_frame
loop-count-preserved c =
    let frames = c.args.frames.now in
    let count = c.loop-count.count in
    let many = length-take c.min.result frames in
    rw add-one
    (fit_next _ count frames (omega arith) c.loop-count.invariant
    (rw (← get_or-take c.min.result frames count 0 (omega arith)) (eq-eqb _ 0 c.if-frame-inputs-ne0.false)))
