-- Below s the distinct feeds are counted, and the first 16 listed.
use Rattle.std.proofs.Common.{◌≡◌, sym, ap, ap₂, ◌∙◌, ◌<◌, ◌≤◌, List, ℤ, pos, ◌-ℤ◌, get_or, set, arith, rules, w32, SFits, to_z, of_z, to_z-of_z}
use Rattle.basics.specs.SizeLaws.{size_fits}
use Rattle.network.specs.Record.{gate_in}
use Rattle.network.specs.PlaceLaws.{length_gate_in}
use Rattle.fold_theory.specs.Merge.{Edge, feed_weight, among}
use Rattle.fold_theory.proofs.AlignedLaws.{EdgeOk, fed_small, edge_rises}
use Rattle.pair_theory.specs.Alignments.{edge_between, weight_table, with_u}
use Rattle.pair_alignment.proofs.Gather.{in_u, in_other, table_at, other_at, among_is, other_is, listed_none, listed_few, listed_skip, listed_store, listed_full, listed_all}
use Rattle.pair_alignment.proofs.unchecked.align_with_u.Goals as goal
use Rattle.pair_alignment.proofs.unchecked.align_with_u.Goals.{then-either, then-count-lt16, else-count-lt16, else-either}

u_low : (e : Edge) → EdgeOk e → e.v ≤ 256 → e.u < 256
u_low e ok low = omega (arith, edge_rises e ok)

pub spread-in_u-requires : goal.spread-in_u-requires
spread-in_u-requires c = omega (arith, c.requires.ok.ok_u.few, length_gate_in c.args.gate_u)

pub spread-in_v-requires : goal.spread-in_v-requires
spread-in_v-requires c = omega (arith, c.requires.ok.ok_v.few, length_gate_in c.args.gate_v)

pub offset_bounds-in_v-u : goal.offset_bounds-in_v-u
offset_bounds-in_v-u c = record { fits = omega (arith, u_low _ c.requires.ok c.requires.low) }

pub bounds-in_v-u : goal.bounds-in_v-u
bounds-in_v-u c = u_low _ c.requires.ok c.requires.low

pub offset_bounds-in_v-u-2 : goal.offset_bounds-in_v-u-2
offset_bounds-in_v-u-2 c = record { fits = omega (arith, u_low _ c.requires.ok c.requires.low) }

pub array_set_of-in_v : goal.array_set_of-in_v
array_set_of-in_v c = u_low _ c.requires.ok c.requires.low

pub loop-s-init : goal.loop-s-init
loop-s-init c = listed_none (edge_between c.args.board c.args.gate_u c.args.gate_v c.args.u c.args.v)

pub overflow_add-count : goal.overflow_add-count
overflow_add-count c = record { fits = omega (arith, listed_few _ c.loop-s.s c.loop-s.count c.loop-s.invariant, c.requires.low, c.loop-s-test.true) }

pub loop-s-preserved : goal.loop-s-preserved
loop-s-preserved c =
    let e = edge_between c.args.board c.args.gate_u c.args.gate_v c.args.u c.args.v in
    let l = c.loop-s in
    let low : l.s < 256 = omega (arith, c.requires.low, c.loop-s-test.true) in
    let x_fits : SFits w32 (get_or c.spread-in_u.result l.s (pos 0)) = search rules in
    let y_fits : SFits w32 (get_or (set c.spread-in_v.result c.args.u (pos 0)) l.s (pos 0)) = search rules in
    let x : to_z w32 (of_z w32 (get_or c.spread-in_u.result l.s (pos 0))) ≡ in_u e l.s
    = to_z-of_z x_fits ∙ ap (λ t. get_or t l.s (pos 0)) c.spread-in_u.ensures ∙ table_at e.gate_u.feeds l.s low in
    let y : to_z w32 (of_z w32 (get_or (set c.spread-in_v.result c.args.u (pos 0)) l.s (pos 0))) ≡ in_other e l.s
    = to_z-of_z y_fits ∙ ap (λ t. get_or (set t c.args.u (pos 0)) l.s (pos 0)) c.spread-in_v.ensures ∙ other_at e l.s low in
    let same : among e l.s ≡ c.either.result = among_is e c.requires.ok l.s ∙ sym (rw (x, y) at c.either.ensures) in
    elim c.if-either.branch [
      | then-either w ↦
          let yes = same ∙ w.if-either.true in
          rw (w.signals-is, w.us-is, w.vs-is, w.count-is)
          (elim w.if-count-lt16.branch [
            | then-count-lt16 t ↦ rw (t.signals-is, t.us-is, t.vs-is)
                (listed_store e l.s l.count l.signals l.us l.vs l.invariant _ _ yes x (y ∙ other_is e c.requires.ok l.s yes))
            | else-count-lt16 t ↦ rw (t.signals-is, t.us-is, t.vs-is) (listed_full e l.s l.count l.signals l.us l.vs l.invariant yes t.if-count-lt16.false)
          ])
      | else-either w ↦ rw (w.signals-is, w.us-is, w.vs-is, w.count-is) (listed_skip e l.s l.count l.signals l.us l.vs l.invariant (same ∙ w.if-either.false))
    ]

-- u's weight in v, as it was read
weight_is : (e : Edge) (table : List ℤ) → EdgeOk e → e.v ≤ 256 → table ≡ weight_table e.gate_v.feeds → SFits w32 (get_or table e.u (pos 0))
    → to_z w32 (of_z w32 (get_or table e.u (pos 0))) ≡ feed_weight e
weight_is e table ok low is f = to_z-of_z f ∙ ap (λ (t : List ℤ). get_or t e.u (pos 0)) is ∙ table_at e.gate_v.feeds e.u (u_low e ok low)

on_fits : (e : Edge) → EdgeOk e → SFits w32 (e.gate_v.threshold -ℤ feed_weight e)
on_fits e ok = size_fits w32 _ (omega (arith, (fed_small e ok).on))

pub overflow_sub-result : goal.overflow_sub-result
unfolding gate_in
overflow_sub-result c =
    let e = edge_between c.args.board c.args.gate_u c.args.gate_v c.args.u c.args.v in
    let off_fits : SFits w32 c.args.gate_v.threshold = search rules in
    let b_fits : SFits w32 (get_or c.spread-in_v.result c.args.u (pos 0)) = search rules in
    rw (to_z-of_z off_fits, weight_is e c.spread-in_v.result c.requires.ok c.requires.low c.spread-in_v.ensures b_fits) (on_fits e c.requires.ok)

pub returns : goal.returns
unfolding with_u gate_in
returns c =
    let e = edge_between c.args.board c.args.gate_u c.args.gate_v c.args.u c.args.v in
    let l = c.loop-s in
    let own_fits : SFits w32 c.args.gate_u.threshold = search rules in
    let off_fits : SFits w32 c.args.gate_v.threshold = search rules in
    let b_fits : SFits w32 (get_or c.spread-in_v.result c.args.u (pos 0)) = search rules in
    let end : l.s ≡ c.args.v = omega arith in
    let b = weight_is e c.spread-in_v.result c.requires.ok c.requires.low c.spread-in_v.ensures b_fits in
    let on = ap₂ (λ (x y : ℤ). to_z w32 (of_z w32 (x -ℤ y))) (to_z-of_z off_fits) b ∙ to_z-of_z (on_fits e c.requires.ok) in
    (λ j. record {
      count = l.count;
      signals = l.signals;
      us = l.us;
      vs = l.vs;
      thresholds = record { own = to_z-of_z own_fits j; on = on j; off = to_z-of_z off_fits j; board = c.args.board };
    })
    ∙ listed_all e l.count l.signals l.us l.vs (rw end at l.invariant)
