-- Laws of a block: that one which the ends of its sums settle is clear, and its test from the merged gate's sums. Assumes nothing.
use Rattle.std.specs.Prelude.{◌≡◌, Bool, true, false, cond, ◌&&◌, List, ℕ, ◌+◌, ◌-◌, ◌<◌, ℤ, pos, ◌+ℤ◌, ◌-ℤ◌, get_or}
use Rattle.std.proofs.Common.{sym, arith}
use Rattle.std.proofs.Math.Path.{subst}
use Rattle.std.proofs.Math.Bool.{not}
use Rattle.std.proofs.Math.Decide.{dec_lt}
use Rattle.std.proofs.Math.Dec.{T}
use Rattle.std.specs.Int.Signed.{le_z}
use Rattle.basics.specs.Lists.{below}
use Rattle.basics.specs.TestLaws.{is_true, is_false, T_is, test_same, T_and}
use Rattle.basics.specs.ListLaws.{below_at, at_below}
use Rattle.basics.specs.IntegerLaws.{#, le_of, gt_of, of_gt}
use Rattle.fold_theory.specs.Aligned.{composed_bit, mixed_threshold, clears}
use Rattle.fold_theory.specs.declared.Thresholds.{Thresholds}
use Rattle.pair_clearing.specs.Clearing.{clears_between}
use Rattle.pair_spans.specs.declared.Span.{Span}
use Rattle.pair_spans.specs.Spans.{MixedSums, Spanned}
use Rattle.pair_spans.specs.SpanLaws.{le_trans}
use Rattle.pair_blocks.specs.Blocks.{block_between, settled_off, settled_on, block_clear}

-- ---- what the ends settle

-- the composed pair where v's sum is below both of v's thresholds, and where it is above both
composed_off : (t : Thresholds) (su sv : ℤ) → le_z t.on sv ≡ false → le_z t.off sv ≡ false → composed_bit t su sv ≡ false
unfolding composed_bit
composed_off t su sv on off = elim (le_z t.own su) as (λ b. le_z (cond b t.on t.off) sv ≡ false) [ true ↦ on | false ↦ off ]

composed_on : (t : Thresholds) (su sv : ℤ) → le_z t.on sv ≡ true → le_z t.off sv ≡ true → composed_bit t su sv ≡ true
unfolding composed_bit
composed_on t su sv on off = elim (le_z t.own su) as (λ b. le_z (cond b t.on t.off) sv ≡ true) [ true ↦ on | false ↦ off ]

above_not : (a b c : ℤ) → T (not (le_z a b)) → T (le_z c b) → le_z a c ≡ false
above_not a b c h k = is_false _ (of_gt (# a) (# c) (omega (arith, gt_of (# a) (# b) h, le_of (# c) (# b) k)))

module _ (t : Thresholds) (upper lower : ℤ) (us : List ℤ) {n : ℕ} {vs mixes : List ℤ} {ends_v ends : Span}
    (v : Spanned n vs ends_v) (m : Spanned n mixes ends) where
  abbrev u : ℕ → ℤ
  u j = get_or us j (pos 0)

  abbrev w : ℕ → ℤ
  w j = get_or vs j (pos 0)

  abbrev sum : ℕ → ℤ
  sum j = get_or mixes j (pos 0)

  abbrev test : ℕ → Bool
  test j = clears_between t upper lower (u j) (w j) (sum j)

  pub clear_off : settled_off t lower ends_v ends ≡ true → block_between t upper lower n us vs mixes ≡ true
  unfolding block_between settled_off clears_between
  clear_off e = is_true _ (at_below n test λ j h.
      let parts = T_and (not (le_z t.on ends_v.most) && not (le_z t.off ends_v.most)) (le_z ends.most lower) (T_is _ e) in
      let high = T_and (not (le_z t.on ends_v.most)) (not (le_z t.off ends_v.most)) parts.0 in
      let on = above_not t.on ends_v.most (w j) high.0 (v.to_most j h) in
      let off = above_not t.off ends_v.most (w j) high.1 (v.to_most j h) in
      rw (composed_off t (u j) (w j) on off) (le_trans (sum j) ends.most lower (m.to_most j h) parts.1))

  pub clear_on : settled_on t upper ends_v ends ≡ true → block_between t upper lower n us vs mixes ≡ true
  unfolding block_between settled_on clears_between
  clear_on e = is_true _ (at_below n test λ j h.
      let parts = T_and (le_z t.on ends_v.least && le_z t.off ends_v.least) (le_z upper ends.least) (T_is _ e) in
      let low = T_and (le_z t.on ends_v.least) (le_z t.off ends_v.least) parts.0 in
      let on = is_true _ (le_trans t.on ends_v.least (w j) low.0 (v.from_least j h)) in
      let off = is_true _ (le_trans t.off ends_v.least (w j) low.1 (v.from_least j h)) in
      rw (composed_on t (u j) (w j) on off) (le_trans upper ends.least (sum j) parts.1 (m.from_least j h)))

-- ---- a block, from the sums

module _ (t : Thresholds) (k l : ℕ) {upper lower : ℤ} {n : ℕ} {us vs mixes : List ℤ} (m : MixedSums k l n us vs mixes)
    (u : upper ≡ mixed_threshold t k l +ℤ pos t.board.on) (d : lower ≡ mixed_threshold t k l -ℤ pos t.board.off) where
  abbrev between : ℕ → Bool
  between j = clears_between t upper lower (get_or us j (pos 0)) (get_or vs j (pos 0)) (get_or mixes j (pos 0))

  setting_is : (j : ℕ) → j < n → between j ≡ clears t k l (get_or us j (pos 0)) (get_or vs j (pos 0))
  unfolding clears_between clears
  setting_is j h = rw (u, d, m.same j h)

  pub block_is : block_between t upper lower n us vs mixes ≡ block_clear t k l n us vs
  unfolding block_between block_clear
  block_is =
      test_same (below n between) _ (λ all. at_below n _ λ j h. subst T (setting_is j h) (below_at n between all j h))
      (λ all. at_below n between λ j h. subst T (sym (setting_is j h)) (below_at n _ all j h))

-- the settings before a block, and the first m of it
pub block_more : (p : ℕ → Bool) (n m : ℕ) → ((j : ℕ) → j < n → T (p j)) → ((j : ℕ) → j < m → T (p (n + j))) → (s : ℕ) → s < n + m → T (p s)
block_more p n m past block s h = elim (dec_lt s n) as (λ d. T (p s)) [
  | yes k ↦ past s k
  | no k ↦ let same : n + (s - n) ≡ s = omega arith in subst (λ (i : ℕ). T (p i)) same (block (s - n) (omega arith))
]
