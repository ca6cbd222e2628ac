-- The agreement test: the settings of the distinct feeds stand for all assignments, so where the test holds the merged gate has the bit
-- of v under every assignment that gives u its bit. Assumes nothing.
use Rattle.std.specs.Prelude.{◌≡◌, refl, Bool, true, false, not, cond, List, [], ◌∷◌, map, ◌↔◌, ℕ, suc, ◌+◌, ◌*◌, ◌/◌, ◌%◌, ◌^◌, ◌<◌, T, eqb, length}
use Rattle.std.proofs.Common.{sym, ap, ◌∙◌, arith}
use Rattle.std.proofs.Math.Dec.{eqb_refl}
use Rattle.basics.specs.Lists.{keep, other, Each}
use Rattle.basics.specs.TestLaws.{is_true, beq_eq, eq_beq, T_or, or_T, and_T, cond_case}
use Rattle.basics.specs.ListLaws.{each_imp, below_at, at_below, range_at, each_has, has_each}
use Rattle.network.specs.Threshold.{Assignment, bit, assign, digit}
use Rattle.network.specs.Limits.{signals_of, weighs}
use Rattle.network_equivalence.specs.Consistent.{Agree}
use Rattle.network_equivalence.proofs.ConsistentLaws.{bit_local, choice_own, assign_own}
use Rattle.fold_theory.specs.Merge.{silent, reads, Edge, among, distinct, merged_feed, merged, composed, setting, agrees_at, agrees}
use Rattle.fold_theory.specs.Guarantee.{Alike, AlikeUnderAll}

-- ---- each assignment is a setting of a list of signals

-- its number
setting_number : Assignment → List ℕ → ℕ
setting_number ρ [] = 0
setting_number ρ (y ∷ ys) = digit (ρ y) + 2 * setting_number ρ ys

number_lt : (ρ : Assignment) (ys : List ℕ) → setting_number ρ ys < 2 ^ length ys
unfolding setting_number
number_lt ρ [] = omega arith
number_lt ρ (y ∷ ys) = elim (ρ y) as (λ b. digit b + 2 * setting_number ρ ys < 2 ^ suc (length ys))
    [ true ↦ omega (arith, number_lt ρ ys) | false ↦ omega (arith, number_lt ρ ys) ]

low_bit : (b : Bool) (n : ℕ) → eqb ((digit b + 2 * n) % 2) 1 ≡ b
low_bit true n = rw (let e : (1 + 2 * n) % 2 ≡ 1 = omega arith in e)
low_bit false n = rw (let e : (0 + 2 * n) % 2 ≡ 0 = omega arith in e)

high_bits : (b : Bool) (n : ℕ) → (digit b + 2 * n) / 2 ≡ n
high_bits true n = omega arith
high_bits false n = omega arith

setting_step : (ρ : Assignment) (y : ℕ) (ys : List ℕ) (x : ℕ)
    → setting (y ∷ ys) (setting_number ρ (y ∷ ys)) x ≡ cond (eqb x y) (ρ y) (setting ys (setting_number ρ ys) x)
unfolding setting setting_number
setting_step ρ y ys x = rw (low_bit (ρ y) (setting_number ρ ys), high_bits (ρ y) (setting_number ρ ys))

setting_agrees : (ρ : Assignment) (ys : List ℕ) → Agree (setting ys (setting_number ρ ys)) ρ ys
setting_agrees ρ [] = tt
setting_agrees ρ (y ∷ ys) = (
  setting_step ρ y ys y ∙ rw (is_true (eqb y y) (eqb_refl y)),
  each_imp (λ s. setting ys (setting_number ρ ys) s ≡ ρ s) (λ s. setting (y ∷ ys) (setting_number ρ (y ∷ ys)) s ≡ ρ s)
      (λ s h. setting_step ρ y ys s ∙ choice_own ρ y s (setting ys (setting_number ρ ys) s) h) ys (setting_agrees ρ ys),
)

-- ---- what the merged gate and the composed pair read is among the distinct feeds
pub merged_signals : (P : ℕ → Type 0) (e : Edge) (k l : ℕ) (ss : List ℕ) → Each P ss → Each P (signals_of (keep weighs (map (merged_feed e k l) ss)))
unfolding signals_of keep merged_feed
merged_signals P e k l [] h = tt
merged_signals P e k l (s ∷ ss) h =
    let rest = merged_signals P e k l ss h.1 in
    cond_case (λ r. Each P (signals_of r)) (weighs (merged_feed e k l s)) (λ t. (h.0, rest)) (λ t. rest)

assign_agrees : (σ ρ : Assignment) (u : ℕ) (b : Bool) (s : ℕ) → (T (other u s) → σ s ≡ ρ s) → assign σ u b s ≡ assign ρ u b s
unfolding other assign
assign_agrees σ ρ u b s h = elim (eqb s u) as (λ t. (T (not t) → σ s ≡ ρ s) → cond t b (σ s) ≡ cond t b (ρ s)) [ true ↦ λ h. refl | false ↦ λ h. h tt ] h

-- both gates' feeds lie below v
abbrev pub FeedsBelow : Edge → Type 0
FeedsBelow e = Each (λ s. s < e.v) (signals_of e.gate_u.feeds) × Each (λ s. s < e.v) (signals_of e.gate_v.feeds)

-- ---- where the test holds, merged gate and composed pair have the same bit under every assignment
pub agrees_all_lem : (e : Edge) (k l : ℕ) → FeedsBelow e → T (agrees e k l) → (ρ : Assignment) → bit ρ (merged e k l) ≡ composed ρ e
unfolding agrees agrees_at merged distinct among composed reads silent
agrees_all_lem e k l low t ρ = sym (bit_local σ ρ (merged e k l) (merged_signals (λ s. σ s ≡ ρ s) e k l (distinct e) a))
    ∙ beq_eq _ _ (below_at (2 ^ length (distinct e)) (agrees_at e k l) t (setting_number ρ (distinct e)) (number_lt ρ (distinct e)))
    ∙ ap (λ (b : Bool). bit (assign σ e.u b) e.gate_v) (bit_local σ ρ e.gate_u (each_has (λ s. σ s ≡ ρ s) (signals_of e.gate_u.feeds) λ s t.
    at s (has_each (λ s. s < e.v) (signals_of e.gate_u.feeds) low.0 s t) (T_or (reads s e.gate_u) _ t)))
    ∙ bit_local (assign σ e.u (bit ρ e.gate_u)) (assign ρ e.u (bit ρ e.gate_u)) e.gate_v (each_has _ (signals_of e.gate_v.feeds) λ s t.
    assign_agrees σ ρ e.u (bit ρ e.gate_u) s λ o.
    at s (has_each (λ s. s < e.v) (signals_of e.gate_v.feeds) low.1 s t) (or_T (reads s e.gate_u) _ (and_T (other e.u s) _ o t)))
  where
    σ : Assignment
    σ = setting (distinct e) (setting_number ρ (distinct e))

    a : Agree σ ρ (distinct e)
    a = setting_agrees ρ (distinct e)

    at : (s : ℕ) → s < e.v → T (among e s) → σ s ≡ ρ s
    at s h t = range_at (λ s. σ s ≡ ρ s) (among e) 0 e.v a s (omega arith) (omega arith) t

-- where u has its bit, the merged gate has v's
pub merged_bit_lem : (e : Edge) (k l : ℕ) → FeedsBelow e → T (agrees e k l) → (ρ : Assignment)
    → ρ e.u ≡ bit ρ e.gate_u → bit ρ (merged e k l) ≡ bit ρ e.gate_v
unfolding composed
merged_bit_lem e k l low t ρ h =
    agrees_all_lem e k l low t ρ
    ∙ ap (λ (b : Bool). bit (assign ρ e.u b) e.gate_v) (sym h)
    ∙ ap (λ (σ : Assignment). bit σ e.gate_v) (assign_own ρ e.u)

-- ---- the test as a fact, both ways
pub alike_of : (e : Edge) (k l : ℕ) → T (agrees e k l) → Alike e k l
unfolding agrees agrees_at
alike_of e k l t s h = beq_eq _ _ (below_at (2 ^ length (distinct e)) (agrees_at e k l) t s h)

pub of_alike : (e : Edge) (k l : ℕ) → Alike e k l → T (agrees e k l)
unfolding agrees agrees_at
of_alike e k l h = at_below (2 ^ length (distinct e)) (agrees_at e k l) λ s i. eq_beq _ _ (h s i)

-- on every setting is under every assignment
pub alike_all : (e : Edge) (k l : ℕ) → FeedsBelow e → Alike e k l ↔ AlikeUnderAll e k l
alike_all e k l low = ((λ h. agrees_all_lem e k l low (of_alike e k l h)), (λ h s i. h (setting (distinct e) s)))
