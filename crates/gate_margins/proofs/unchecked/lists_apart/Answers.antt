-- Each turn passes a member at either corner, and no member that was passed makes a sum between floor and ceiling. Assumes nothing.
use Rattle.std.proofs.Common.{◌-◌, inl, inr, arith, length, get_or}
use Rattle.std.specs.Prelude.{pos}
use Rattle.gate_margins.proofs.Walk.{walk_none}
use Rattle.gate_margins.proofs.Corners.{as_held, one_few, both_fits, ended, broken, passed}
use Rattle.gate_margins.proofs.unchecked.lists_apart.Goals as goal

pub loop-i-init : goal.loop-i-init
loop-i-init c =
    walk_none (λ x. get_or c.args.lows.now x (pos 0)) (λ y. get_or c.args.highs.now y (pos 0)) (length c.args.lows.now) (length c.args.highs.now)
    (as_held c.args.floor) (as_held c.args.ceiling)

pub overflow_add-lower : goal.overflow_add-lower
overflow_add-lower c =
    let l = c.loop-i in
    both_fits c.requires.lows_addable c.requires.highs_addable (l.p - 1) l.q (omega arith) (omega arith)

pub returns-then-not-clear : goal.returns-then-not-clear
returns-then-not-clear c =
    broken c.requires.lows_addable c.requires.highs_addable c.ranges.floor c.ranges.ceiling c.loop-i.invariant c.loop-i-test.true c.if-q-j.true
    c.clear.ensures c.clear-in-loop-i.ensures c.if-not-clear.true

pub overflow_sub-i : goal.overflow_sub-i
overflow_sub-i c = one_few _ c.from-high.ensures

pub overflow_sub-j : goal.overflow_sub-j
overflow_sub-j c = let h = one_few _ c.from-high.ensures in omega arith

pub overflow_sub-p : goal.overflow_sub-p
overflow_sub-p c = let h = one_few _ c.from-over.ensures in omega arith

pub overflow_sub-q : goal.overflow_sub-q
overflow_sub-q c = one_few _ c.from-over.ensures

pub loop-i-preserved : goal.loop-i-preserved
loop-i-preserved c =
    passed c.requires.lows_addable c.requires.highs_addable c.ranges.floor c.ranges.ceiling c.loop-i.invariant c.loop-i-test.true c.if-q-j.true
    c.clear.ensures c.clear-in-loop-i.ensures c.if-not-clear.false c.from-high.ensures c.from-over.ensures

pub returns-else-q-j : goal.returns-else-q-j
returns-else-q-j c =
    ended c.requires.lows_addable c.requires.highs_addable c.ranges.floor c.ranges.ceiling c.loop-i.invariant (inr c.if-q-j.false)

pub returns-after-loop-i : goal.returns-after-loop-i
returns-after-loop-i c =
    ended c.requires.lows_addable c.requires.highs_addable c.ranges.floor c.ranges.ceiling c.loop-i.invariant (inl c.loop-i-test.false)
