-- Each weight, from the last on, doubles the list of sums. Assumes nothing.
use Rattle.std.proofs.Common.{◌≡◌, ap, ◌∙◌, List, ℕ, ◌+◌, ◌-◌, ◌*◌, ◌<◌, ◌≤◌, arith, length, get_or, to_z, of_z}
use Rattle.std.specs.Prelude.{ℤ, pos, reverse}
use Rattle.std.specs.Int.{w32}
use Rattle.std.proofs.lemmas.List.{get_or-reverse, get_or_default, length-reverse, length_push}
use Rattle.std.proofs.lemmas.Iterator.Adapters.{YieldsList-from_rev_slice}
use Rattle.std.proofs.lemmas.Iterator.Consumers.{YieldsList-turn, YieldsList-end}
use Rattle.basics.specs.SizeLaws.{SizesWithin}
use Rattle.gate_rising.specs.HeldLaws.{held}
use Rattle.gate_rising.specs.Tables.{Growable, Grown}
use Rattle.gate_rising.proofs.TableLaws.{Filling, filling_none, filling_growable, filling_more, filling_all}
use Rattle.gate_rising.proofs.unchecked.table.Goals as goal

-- the next weight from the end, of which k are done
module _ {weights sums : List ℤ} {k n : ℕ} {w : ℤ} (s : Filling weights (length weights - k) n sums)
    (few : length weights ≤ 8) (small : SizesWithin 1000000 weights)
    (t : (k < length (reverse weights)) × (w ≡ get_or (reverse weights) k w)) where
  left : 0 < length weights - k
  left = omega (arith, length-reverse weights, t.0)

  weight : w ≡ get_or weights (length weights - k - 1) (pos 0)
  weight =
      let h : k < length weights = omega (arith, length-reverse weights, t.0) in
      let e : length weights - 1 - k ≡ length weights - k - 1 = omega arith in
      t.1 ∙ get_or-reverse weights k w h ∙ get_or_default weights (length weights - 1 - k) w (pos 0) (omega arith)
      ∙ ap (λ (i : ℕ). get_or weights i (pos 0)) e

  weight_held : to_z w32 (of_z w32 w) ≡ get_or weights (length weights - k - 1) (pos 0)
  weight_held = rw weight (held (get_or weights (length weights - k - 1) (pos 0)) (omega (arith, small (length weights - k - 1))))

  growable : Growable n (to_z w32 (of_z w32 w)) sums
  growable = rw weight_held (filling_growable weights (length weights - k) n sums s few small left)

  more : {after : List ℤ} {j : ℕ} → Grown n (to_z w32 (of_z w32 w)) sums after → j ≡ k + 1 → Filling weights (length weights - j) (n * 2) after
  more {after} {j} g e =
      let i : length weights - j ≡ length weights - k - 1 = omega arith in
      let d : n * 2 ≡ 2 * n = omega arith in
      rw (i, d) (filling_more weights (length weights - k) n sums s few small after left (rw weight_held at g))

pub loop-weight-init : goal.loop-weight-init
loop-weight-init c = filling_none c.args.weights.now _ (omega arith)

pub grow-requires : goal.grow-requires
grow-requires c =
    let t = YieldsList-turn (YieldsList-from_rev_slice c.args.weights.now cc) c.loop-weight.yielded _ c.loop-weight.yielded_by _ _ c.in-Some.weight c.in-Some.is c.next.ensures.steps in
    growable c.loop-weight.invariant c.requires.weights_len_bound c.requires.sizes_within t

pub loop-weight-preserved : goal.loop-weight-preserved
loop-weight-preserved c =
    let t = YieldsList-turn (YieldsList-from_rev_slice c.args.weights.now cc) c.loop-weight.yielded _ c.loop-weight.yielded_by _ _ c.in-Some.weight c.in-Some.is c.next.ensures.steps in
    more c.loop-weight.invariant c.requires.weights_len_bound c.requires.sizes_within t c.grow.ensures (length_push c.loop-weight.yielded c.in-Some.weight)

pub returns : goal.returns
returns c =
    let t = YieldsList-end (YieldsList-from_rev_slice c.args.weights.now cc) c.loop-weight.yielded _ c.loop-weight.yielded_by _ _ c.in-None.is c.next.ensures.steps in
    let e : length c.args.weights.now - length c.loop-weight.yielded ≡ 0 = omega (arith, t.1, length-reverse c.args.weights.now) in
    filling_all c.args.weights.now c.loop-weight.n c.loop-weight.sums (rw e at c.loop-weight.invariant)
