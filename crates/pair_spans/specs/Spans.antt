-- Internal: the merged gate's sums on the settings of a block, and the ends between which sums lie. Nothing is proved here.
use Rattle.std.specs.Prelude.{List, ◌≡◌, ℕ, ◌<◌, T, ℤ, pos, length, get_or}
use Rattle.std.specs.Int.Signed.{le_z}
use Rattle.fold_theory.specs.Aligned.{mix}
use Rattle.pair_spans.specs.declared.Span.{Span}

-- the merged gate's sum on each setting below n
pub record MixedSums (k l n : ℕ) (us vs mixes : List ℤ) : Type 0 where
  pub long : length mixes ≡ 256
  pub same : (j : ℕ) → j < n → get_or mixes j (pos 0) ≡ mix k l (get_or us j (pos 0)) (get_or vs j (pos 0))

-- the sums on the settings below n lie between two ends
pub record Spanned (n : ℕ) (sums : List ℤ) (ends : Span) : Type 0 where
  pub from_least : (j : ℕ) → j < n → T (le_z ends.least (get_or sums j (pos 0)))
  pub to_most : (j : ℕ) → j < n → T (le_z (get_or sums j (pos 0)) ends.most)
