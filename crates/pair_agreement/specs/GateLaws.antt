-- Laws of two gates by their distinct feeds: what the tests of the scale and of the settings find, feed by feed and setting by setting, is
-- the definitions' answer. Assumes nothing.
use Rattle.std.specs.Prelude.{◌≡◌, true, ℕ, ◌^◌, ◌<◌, eqb, pos, length, get_or, take}
use Rattle.std.proofs.Math.Path.{refl, fun_ext}
use Rattle.std.proofs.Common.{sym, ap, ◌∙◌, arith, eq-eqb}
use Rattle.std.proofs.Math.Bool.{false}
use Rattle.std.proofs.Math.Decide.{dec_lt}
use Rattle.std.proofs.Math.Seq.{get_or-take, length-take-le}
use Rattle.basics.specs.Lists.{below}
use Rattle.basics.specs.TestLaws.{is_true, and_true, and_false_right, eqb_no}
use Rattle.basics.specs.ListLaws.{at_below, below_no}
use Rattle.network.specs.Limits.{in_scale}
use Rattle.fold_theory.specs.Aligned.{Aligned, mix, mixed_threshold, without_margins, agrees_on, agrees_all, clears_on, clears_all, mixed_weight, scale_fits}
use Rattle.fold_theory.proofs.MarginLaws.{plain_same}
use Rattle.pair_theory.specs.declared.Alignment.{Alignment}
use Rattle.pair_theory.specs.Alignments.{aligned_in, Searchable}
use Rattle.gate_sums.specs.Tables.{sum_at}
use Rattle.pair_blocks.specs.Blocks.{ClearSettings}
use Rattle.pair_agreement.specs.Agreement.{plainly}

module _ (a : Alignment) where
  abbrev pub gates : Aligned
  gates = aligned_in a

  pub feed_count : Searchable a → length gates.us ≡ a.count
  unfolding aligned_in
  feed_count f = length-take-le a.count a.us (omega (arith, f.few, f.fair.placed))

  pub mix_is : (k l i : ℕ) → i < a.count → mixed_weight gates k l i ≡ mix k l (get_or a.us i (pos 0)) (get_or a.vs i (pos 0))
  unfolding mixed_weight aligned_in
  mix_is k l i h = rw (get_or-take a.count a.us i (pos 0) h, get_or-take a.count a.vs i (pos 0) h)

  pub threshold_is : (k l : ℕ) → mixed_threshold gates.thresholds k l ≡ mixed_threshold a.thresholds k l
  unfolding aligned_in
  threshold_is k l = refl

  module _ (f : Searchable a) (k l : ℕ) where
    -- ---- the scale
    pub weights_off : below a.count (λ i. in_scale (mixed_weight gates k l i)) ≡ false → scale_fits gates k l ≡ false
    unfolding scale_fits
    weights_off e = rw (feed_count f, e) (and_false_right (in_scale (mixed_threshold gates.thresholds k l)) false refl)

    pub weights_on : below a.count (λ i. in_scale (mixed_weight gates k l i)) ≡ true → scale_fits gates k l ≡ in_scale (mixed_threshold gates.thresholds k l)
    unfolding scale_fits
    weights_on e = rw (feed_count f, e) (and_true (in_scale (mixed_threshold gates.thresholds k l)))

    -- ---- every setting
    pub every_setting : clears_all gates k l ≡ below (2 ^ a.count) (clears_on gates k l)
    unfolding clears_all
    every_setting = rw (feed_count f)

    pub one_short : (s : ℕ) → s < 2 ^ a.count → clears_on gates k l s ≡ false → clears_all gates k l ≡ false
    one_short s h e = every_setting ∙ below_no (2 ^ a.count) (clears_on gates k l) s h e

-- every setting is clear where so many are as there are
pub clear_all : {a : Alignment} → Searchable a → (k l : ℕ) {r : ℕ} → ClearSettings (2 ^ a.count) (clears_on (aligned_in a) k l) r
    → eqb r (2 ^ a.count) ≡ clears_all (aligned_in a) k l
clear_all {a} f k l {r} s = elim (dec_lt r (2 ^ a.count)) as (λ d. eqb r (2 ^ a.count) ≡ clears_all (aligned_in a) k l) [
  | yes h ↦ eqb_no r (2 ^ a.count) (λ (q : r ≡ 2 ^ a.count). absurd (omega (arith, h, q))) ∙ sym (every_setting a f k l ∙ s.short h)
  | no h ↦
      let last : r ≡ 2 ^ a.count = omega (arith, h, s.within) in
      let all = is_true _ (at_below (2 ^ a.count) (clears_on (aligned_in a) k l) λ j i. s.clear j (omega (arith, i, last))) in
      eq-eqb r (2 ^ a.count) last ∙ sym (every_setting a f k l ∙ all)
]

-- ---- agreement is clearing without margins
pub plain_searchable : (a : Alignment) → Searchable a → Searchable (plainly a)
unfolding plainly without_margins
plain_searchable a f = record {
  few = f.few;
  fair = record {
    placed = f.fair.placed;
    us_small = f.fair.us_small;
    vs_small = f.fair.vs_small;
    near = record { own_small = f.fair.near.own_small; on_small = f.fair.near.on_small; off_small = f.fair.near.off_small };
  };
}

pub plain_on : (a : Alignment) (k l s : ℕ) → clears_on (aligned_in (plainly a)) k l s ≡ agrees_on (aligned_in a) k l s
unfolding clears_on agrees_on aligned_in plainly
plain_on a k l s = plain_same a.thresholds k l (sum_at (take a.count a.us) s) (sum_at (take a.count a.vs) s)

pub plain_all : (a : Alignment) (k l : ℕ) → clears_all (aligned_in (plainly a)) k l ≡ agrees_all (aligned_in a) k l
unfolding clears_all agrees_all aligned_in plainly
plain_all a k l = ap (below (2 ^ length (take a.count a.us))) (fun_ext (plain_on a k l))
