-- Laws of the merged gate's sums, setting by setting, and of the ends between which sums lie. Assumes nothing.
use Rattle.std.specs.Prelude.{◌≡◌, false, List, ℕ, ◌+◌, ◌<◌, T, ℤ, pos, length, get_or, set}
use Rattle.std.proofs.Common.{◌∙◌, arith, below_more, length-set, get_or-set_same, get_or-set_other}
use Rattle.std.specs.Int.Signed.{le_z}
use Rattle.basics.specs.TestLaws.{T_isnt}
use Rattle.basics.specs.IntegerLaws.{#, le_of, gt_of, of_le}
use Rattle.fold_theory.specs.Aligned.{mix}
use Rattle.pair_spans.specs.declared.Span.{Span}
use Rattle.pair_spans.specs.Spans.{MixedSums, Spanned}

-- ---- the merged gate's sums

pub mixed_none : (k l : ℕ) (us vs mixes : List ℤ) → length mixes ≡ 256 → MixedSums k l 0 us vs mixes
mixed_none k l us vs mixes e = record { long = e; same = λ j h. absurd (omega arith) }

-- one setting more
pub mixed_more : {k l n : ℕ} {us vs mixes : List ℤ} → MixedSums k l n us vs mixes → n < 256 → (x : ℤ)
    → x ≡ mix k l (get_or us n (pos 0)) (get_or vs n (pos 0)) → MixedSums k l (n + 1) us vs (set mixes n x)
mixed_more {k} {l} {n} {us} {vs} {mixes} m h x e = record {
  long = length-set mixes n x ∙ m.long;
  same = below_more (λ (j : ℕ). get_or (set mixes n x) j (pos 0) ≡ mix k l (get_or us j (pos 0)) (get_or vs j (pos 0))) n
      (λ j i. get_or-set_other mixes n j x (pos 0) (λ q. absurd (omega arith)) ∙ m.same j i)
      (get_or-set_same mixes n x (pos 0) (omega (arith, m.long)) ∙ e);
}

-- ---- the ends of sums

pub span_none : (sums : List ℤ) (ends : Span) → Spanned 0 sums ends
span_none sums ends = record { from_least = λ j h. absurd (omega arith); to_most = λ j h. absurd (omega arith) }

pub le_refl : (a : ℤ) → T (le_z a a)
le_refl a = of_le (# a) (# a) (omega arith)

pub le_swap : (a b : ℤ) → le_z a b ≡ false → T (le_z b a)
le_swap a b e = of_le (# b) (# a) (omega (arith, gt_of (# a) (# b) (T_isnt _ e)))

pub le_trans : (a b c : ℤ) → T (le_z a b) → T (le_z b c) → T (le_z a c)
le_trans a b c h k = of_le (# a) (# c) (omega (arith, le_of (# a) (# b) h, le_of (# b) (# c) k))

-- one setting more, between wider ends
pub span_more : {n : ℕ} {sums : List ℤ} {ends : Span} → Spanned n sums ends → (wider : Span) → T (le_z wider.least ends.least)
    → T (le_z ends.most wider.most) → T (le_z wider.least (get_or sums n (pos 0))) → T (le_z (get_or sums n (pos 0)) wider.most)
    → Spanned (n + 1) sums wider
span_more {n} {sums} {ends} s wider l m from to = record {
  from_least = below_more (λ (j : ℕ). T (le_z wider.least (get_or sums j (pos 0)))) n
      (λ j h. le_trans wider.least ends.least (get_or sums j (pos 0)) l (s.from_least j h)) from;
  to_most = below_more (λ (j : ℕ). T (le_z (get_or sums j (pos 0)) wider.most)) n
      (λ j h. le_trans (get_or sums j (pos 0)) ends.most wider.most (s.to_most j h) m) to;
}
