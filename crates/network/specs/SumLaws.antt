-- Laws of a gate's sum: of minus its weights, and without the feeds of weight 0. Assumes nothing.
use Rattle.std.specs.Prelude.{◌≡◌, refl, Bool, true, false, not, cond, List, [], ◌∷◌, map, T, ℤ, pos, neg_ℤ, ◌+ℤ◌}
use Rattle.std.proofs.Common.{sym, ◌∙◌, arith}
use Rattle.std.proofs.Math.IntN.{+ℤ_idl}
use Rattle.basics.specs.Lists.{keep}
use Rattle.basics.specs.IntegerLaws.{#, nat, ◌⊕◌, minus, eq_of}
use Rattle.network.specs.Threshold.{Feed, negated, Assignment, sum}
use Rattle.network.specs.Limits.{is_zero, weighs}
use Rattle.network.specs.LimitLaws.{zero_is}

-- minus a weight that counts or not, and minus the rest
pub term_negated : (b : Bool) (w y : ℤ) → cond b (neg_ℤ w) (pos 0) +ℤ neg_ℤ y ≡ neg_ℤ (cond b w (pos 0) +ℤ y)
term_negated true w y = eq_of (minus (# w) ⊕ minus (# y)) (minus (# w ⊕ # y)) (omega arith)
term_negated false w y = eq_of (nat 0 ⊕ minus (# y)) (minus (nat 0 ⊕ # y)) (omega arith)

pub sum_negated : (ρ : Assignment) (fs : List Feed) → sum ρ (map negated fs) ≡ neg_ℤ (sum ρ fs)
unfolding sum negated
sum_negated ρ [] = refl
sum_negated ρ (f ∷ fs) = rw (sum_negated ρ fs) (term_negated (ρ f.signal) f.weight (sum ρ fs))

-- ---- a weight of 0
pub cond_zero : (b : Bool) → cond b (pos 0) (pos 0) ≡ pos 0
cond_zero true = refl
cond_zero false = refl

pub no_weight : (b : Bool) (w x : ℤ) → w ≡ pos 0 → cond b w (pos 0) +ℤ x ≡ x
no_weight b w x e = rw (e, cond_zero b) (+ℤ_idl x)

-- a feed of weight 0 adds nothing
pub sum_stays : (ρ : Assignment) (fs : List Feed) → sum ρ (keep weighs fs) ≡ sum ρ fs
unfolding sum keep weighs
sum_stays ρ [] = refl
sum_stays ρ (f ∷ fs) = elim (is_zero f.weight) as
    (λ b. (T b → f.weight ≡ pos 0) → sum ρ (cond (not b) (f ∷ keep weighs fs) (keep weighs fs)) ≡ cond (ρ f.signal) f.weight (pos 0) +ℤ sum ρ fs)
    [ true ↦ λ e. sum_stays ρ fs ∙ sym (no_weight (ρ f.signal) f.weight (sum ρ fs) (e tt)) | false ↦ λ e. rw (sum_stays ρ fs) ]
    (zero_is f.weight)
