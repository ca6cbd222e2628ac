-- A sum of the weights is one of the first half and one of the second. Assumes nothing.
use Rattle.std.proofs.Common.{◌≡◌, sym, ap, ◌∙◌, ℕ, ◌<◌, ◌≤◌, arith, eqb, eqb→eq, to_z, of_z}
use Rattle.std.specs.Prelude.{ℤ, pos, nat_abs, ◌+ℤ◌, ◌-ℤ◌}
use Rattle.std.specs.Int.{w32}
use Rattle.basics.specs.SizeLaws.{size_add, size_sub}
use Rattle.basics.specs.TestLaws.{T_is, and_left, and_right}
use Rattle.gate_rising.specs.Sums.{every_sum}
use Rattle.gate_rising.specs.HeldLaws.{held}
use Rattle.gate_margins.specs.Sums.{apart, outside}
use Rattle.gate_margins.specs.SumLaws.{margins_always}
use Rattle.gate_margins.proofs.TableLaws.{halves, addable, listed_count, apart_listed, lone, lone_apart}
use Rattle.gate_margins.proofs.unchecked.keeps_margins.Goals as goal

-- floor and ceiling as the machine holds them
module _ (t : ℤ) {r : ℤ} {k : ℕ} (h : nat_abs t ≤ 1000000) (l : k < 256) (e : r ≡ pos k) where
  held_sub : to_z w32 (of_z w32 (to_z w32 (of_z w32 t) -ℤ to_z w32 (of_z w32 r))) ≡ t -ℤ pos k
  held_sub = rw (e, held t (omega arith), held (pos k) (omega arith)) (held (t -ℤ pos k) (omega (arith, size_sub t (pos k))))

  held_add : to_z w32 (of_z w32 (to_z w32 (of_z w32 t) +ℤ to_z w32 (of_z w32 r))) ≡ t +ℤ pos k
  held_add = rw (e, held t (omega arith), held (pos k) (omega arith)) (held (t +ℤ pos k) (omega (arith, size_add t (pos k))))

pub returns-then-on-off : goal.returns-then-on-off
returns-then-on-off c =
    let a = c.args in
    let e0 : a.on ≡ 0 = eqb→eq a.on 0 (T_is (eqb a.on 0) (and_left (eqb a.on 0) (eqb a.off 1) c.if-on-off.true)) in
    let e1 : a.off ≡ 1 = eqb→eq a.off 1 (T_is (eqb a.off 1) (and_right (eqb a.on 0) (eqb a.off 1) c.if-on-off.true)) in
    rw (e0, e1) (sym (margins_always a.threshold a.weights.now))

pub lists_apart-requires-clause-lows_addable : goal.lists_apart-requires-clause-lows_addable
lists_apart-requires-clause-lows_addable c =
    let s = halves c.requires.few c.requires.weights_small c.split_at.ensures.front c.split_at.ensures.back in
    lone c.table-lows.ensures.long (addable _ _ _ s.lows_few s.lows_small c.settings-n.ensures c.table-lows.ensures)

pub lists_apart-requires-clause-highs_addable : goal.lists_apart-requires-clause-highs_addable
lists_apart-requires-clause-highs_addable c =
    let s = halves c.requires.few c.requires.weights_small c.split_at.ensures.front c.split_at.ensures.back in
    lone c.table-highs.ensures.long (addable _ _ _ s.highs_few s.highs_small c.settings-m.ensures c.table-highs.ensures)

pub returns : goal.returns
unfolding outside
returns c =
    let off_few : c.args.off < 256 = omega arith in
    let on_few : c.args.on < 256 = omega arith in
    let s = halves c.requires.few c.requires.weights_small c.split_at.ensures.front c.split_at.ensures.back in
    let few = addable _ _ _ s.lows_few s.lows_small c.settings-n.ensures c.table-lows.ensures in
    let few' = addable _ _ _ s.highs_few s.highs_small c.settings-m.ensures c.table-highs.ensures in
    let floor = c.args.threshold -ℤ pos c.args.off in
    let ceiling = c.args.threshold +ℤ pos c.args.on in
    let e = rw (held_sub c.args.threshold c.requires.threshold_small off_few c.from.ensures, held_add c.args.threshold c.requires.threshold_small on_few c.from-2.ensures)
    at c.lists_apart.ensures in
    e ∙ lone_apart c.table-lows.result c.table-highs.result floor ceiling c.table-lows.ensures.long few.few c.table-highs.ensures.long few'.few
    ∙ apart_listed c.split_at.result.0.now c.split_at.result.1.now c.table-lows.result c.table-highs.result _ _ floor ceiling
    (listed_count _ _ _ c.settings-n.ensures c.table-lows.ensures) (listed_count _ _ _ c.settings-m.ensures c.table-highs.ensures)
    ∙ ap (every_sum (apart floor ceiling)) s.joined
