-- The places of a list: a list of one value, and a value put into a list. Assumes nothing.
use mathlib.Core.Path.{◌≡◌, refl}
use mathlib.Core.Bool.{cond}
use mathlib.Core.List.{List}
use Prim.Native.Nat.{ℕ, zero, suc, ◌<◌}
use lib.Dec.{eqb, eqb→eq}
use lib.ListN.{length, get_or, set, replicate}
use lib.Seq.{get_or-set_same, get_or-set_other}
use Rattle.basics.specs.Lists.{other}
use Rattle.basics.specs.TestLaws.{cond_case, other_ne}

module _ {A : Type 0} where
  pub get_or_repeated : (n s : ℕ) (d : A) → get_or (replicate n d) s d ≡ d
  get_or_repeated zero s d = refl
  get_or_repeated (suc n) zero d = refl
  get_or_repeated (suc n) (suc s) d = get_or_repeated n s d

  pub get_d_set : (a : List A) (n : ℕ) (v d : A) (s : ℕ) → n < length a → get_or (set a n v) s d ≡ cond (eqb s n) v (get_or a s d)
  unfolding other
  get_d_set a n v d s h = cond_case (λ x. get_or (set a n v) s d ≡ x) (eqb s n)
      (λ t. rw (eqb→eq s n t) (get_or-set_same a n v d h))
      (λ t. get_or-set_other a n s v d (other_ne n s t))
