-- The ends are the sums of the shares so far; each mask has what its end rests on.
use Rattle.std.specs.Prelude.{◌≡◌, ◌⊎◌, ℕ, ◌+◌, ◌≤◌, ◌<◌, ℤ, pos, ◌+ℤ◌, get_or}
use Rattle.std.proofs.Common.{sym, ap, ap₂, ◌∙◌, inl, inr, ⊎_elim, arith, to_z, of_z, to_z-of_z}
use Rattle.std.specs.Int.{w32}
use Rattle.basics.specs.SizeLaws.{size_fits, read_back}
use Rattle.compare_theory.specs.Joint.{fanin}
use Rattle.compare_theory.specs.Spans.{least, most, least_at, most_at}
use Rattle.compare_theory.proofs.SpanLaws.{least_small, most_small, Added, added_none, added_next, added_all, added_small, added_fits}
use Rattle.compare_theory.proofs.ReasonLaws.{up_none, up_next, down_none, down_next}
use Rattle.compare_refutation.proofs.rules.ends_of.Goals as goal

-- a turn
module _ (c : goal.After-reason-down) where
  abbrev place : ℕ
  place = 1 + c.loop-i.i

  abbrev w : ℤ
  w = get_or c.args.weights.now place (pos 0)

  abbrev low : ℕ → ℤ
  low = least_at c.args.held.now.bits c.args.wires.now c.args.weights.now

  abbrev high : ℕ → ℤ
  high = most_at c.args.held.now.bits c.args.wires.now c.args.weights.now

  in_row : c.loop-i.i < fanin c.args.wires.now
  in_row = omega (arith, c.loop-i-test.true, c.from-i-end.ensures)

  w_is : to_z w32 (of_z w32 w) ≡ w
  w_is = to_z-of_z (size_fits w32 w (omega (arith, c.requires.small place)))

  low_is : to_z w32 (of_z w32 c.least_share-low.result) ≡ low place
  low_is = let r = c.least_share-low in
      read_back w32 r.type_inv (r.ensures ∙ ap₂ (λ (n : ℕ) (w : ℤ). least (get_or c.args.held.now.bits n 0) w) c.from-signal.ensures w_is)

  high_is : to_z w32 (of_z w32 c.most_share-high.result) ≡ high place
  high_is = let r = c.most_share-high in
      read_back w32 r.type_inv (r.ensures ∙ ap₂ (λ (n : ℕ) (w : ℤ). most (get_or c.args.held.now.bits n 0) w) c.from-signal.ensures w_is)

  low_next : Added low (fanin c.args.wires.now) (c.loop-i.i + 1) (to_z w32 c.loop-i.lowest-bits +ℤ low place)
  low_next = added_next c.loop-i.invariant.least_so_far in_row (least_small _ _ 1000000 (c.requires.small place))

  high_next : Added high (fanin c.args.wires.now) (c.loop-i.i + 1) (to_z w32 c.loop-i.highest-bits +ℤ high place)
  high_next = added_next c.loop-i.invariant.most_so_far in_row (most_small _ _ 1000000 (c.requires.small place))

  rest_is : get_or c.args.held.now.rests c.from-signal.result 0 ≡ get_or c.args.held.now.rests (get_or c.args.wires.now place 0) 0
  rest_is = ap (λ (n : ℕ). get_or c.args.held.now.rests n 0) c.from-signal.ensures

  low_free : to_z w32 (of_z w32 c.least_share.result) ≡ least 2 w
  low_free = let r = c.least_share in read_back w32 r.type_inv (r.ensures ∙ ap (least 2) w_is)

  high_free : to_z w32 (of_z w32 c.most_share.result) ≡ most 2 w
  high_free = let r = c.most_share in read_back w32 r.type_inv (r.ensures ∙ ap (most 2) w_is)

  up_more : (low place ≡ least 2 w) ⊎ (c.reason-up.result ≡ get_or c.args.held.now.rests (get_or c.args.wires.now place 0) 0)
  up_more = ⊎_elim (λ q. inl (sym low_is ∙ q ∙ low_free)) (λ r. inr (r ∙ rest_is)) c.reason-up.ensures

  down_more : (high place ≡ most 2 w) ⊎ (c.reason-down.result ≡ get_or c.args.held.now.rests (get_or c.args.wires.now place 0) 0)
  down_more = ⊎_elim (λ q. inl (sym high_is ∙ q ∙ high_free)) (λ r. inr (r ∙ rest_is)) c.reason-down.ensures

pub loop-i-init : goal.loop-i-init
loop-i-init c = record { least_so_far = added_none _ _; most_so_far = added_none _ _; holds_up = up_none 0; holds_down = down_none 0 }

pub overflow_add-lowest : goal.overflow_add-lowest
overflow_add-lowest c = rw (low_is c) (added_fits (low_next c) c.requires.few)

pub overflow_add-highest : goal.overflow_add-highest
overflow_add-highest c = rw (high_is c) (added_fits (high_next c) c.requires.few)

pub loop-i-preserved : goal.loop-i-preserved
loop-i-preserved c =
    let few = c.requires.few in
    rw (low_is c, high_is c, to_z-of_z (added_fits (low_next c) few), to_z-of_z (added_fits (high_next c) few)) (record {
      least_so_far = low_next c;
      most_so_far = high_next c;
      holds_up = up_next c.reason-up.result c.loop-i.invariant.holds_up (up_more c);
      holds_down = down_next c.reason-down.result c.loop-i.invariant.holds_down (down_more c);
    })

pub returns : goal.returns
returns c =
    let few = c.requires.few in
    let inv = c.loop-i.invariant in
    let all : fanin c.args.wires.now ≤ c.loop-i.i = omega (arith, c.loop-i-test.false, c.from-i-end.ensures) in
    let done : c.loop-i.i ≡ fanin c.args.wires.now = omega (arith, all, inv.least_so_far.within) in
    record {
      least_is = added_all inv.least_so_far all;
      most_is = added_all inv.most_so_far all;
      least_small = added_small inv.least_so_far few;
      most_small = added_small inv.most_so_far few;
      holds_up = rw done at inv.holds_up;
      holds_down = rw done at inv.holds_down;
    }
