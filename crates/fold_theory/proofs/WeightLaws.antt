-- The sum of a gate as a sum over signals: each signal once, with the weight that it has among the feeds. Assumes nothing.
use Rattle.std.specs.Prelude.{◌≡◌, Bool, true, false, not, cond, ◌&&◌, List, [], ◌∷◌, map, ◌≢◌, ℕ, zero, suc, ◌+◌, ◌/◌, ◌%◌, ◌≤◌, ◌<◌, T, eqb, ℤ, pos, nat_abs, neg_ℤ, ◌+ℤ◌, ◌*ℤ◌}
use Rattle.std.proofs.Math.Path.{refl}
use Rattle.std.proofs.Common.{sym, ap, ◌∙◌, arith, leb→le}
use Rattle.std.proofs.Math.Decide.{dec_lt}
use Rattle.std.proofs.Math.Dec.{eqb_refl}
use Rattle.std.proofs.Math.IntN.{+ℤ_idl}
use Rattle.basics.specs.Lists.{all, keep, range, other}
use Rattle.basics.specs.TestLaws.{is_true, is_false, T_and, eqb_no, cond_case}
use Rattle.basics.specs.IntegerLaws.{#, nat, ◌⊕◌, ◌⊙◌, eq_of}
use Rattle.network_equivalence.proofs.ConsistentLaws.{assign_same, assign_other}
use Rattle.network.specs.Threshold.{Feed, negated, Assignment, sum, assign}
use Rattle.network.specs.SumLaws.{term_negated, cond_zero, no_weight}
use Rattle.network.specs.Limits.{signals_of, in_scale, is_zero, weight_ok}
use Rattle.network.specs.Sound.{Rise}
use Rattle.fold_theory.specs.Merge.{weight_of, setting}
use Rattle.gate_sums.specs.Tables.{sum_at}

-- a feed for each signal of a list, with the weights w
abbrev pub weighted : (ℕ → ℤ) → List ℕ → List Feed
weighted w ds = map (λ s. record { signal = s; weight = w s }) ds

-- ---- the weight of a signal

-- a signal below all feeds has none
weight_none : (x low own : ℕ) (fs : List Feed) → Rise low own (signals_of fs) → x < low → weight_of x fs ≡ pos 0
unfolding weight_of signals_of
weight_none x low own [] h k = refl
weight_none x low own (f ∷ fs) h k = rw (eqb_no f.signal x (λ e. omega arith)) (weight_none x (suc f.signal) own fs h.2 (omega arith))

-- weights are not 0, so the weight tells whether the signal is a feed's
pub weight_zero : (x : ℕ) (fs : List Feed) → T (all weight_ok fs) → is_zero (weight_of x fs) ≡ all (other x) (signals_of fs)
unfolding weight_of signals_of all other weight_ok is_zero
weight_zero x [] h = refl
weight_zero x (f ∷ fs) h =
    let t = T_and (weight_ok f) (all weight_ok fs) h in
    elim (eqb f.signal x) as (λ b. is_zero (cond b f.weight (weight_of x fs)) ≡ (not b && all (other x) (signals_of fs)))
    [ true ↦ is_false (is_zero f.weight) (T_and (in_scale f.weight) (not (is_zero f.weight)) t.0).1 | false ↦ weight_zero x fs t.1 ]

-- weights are on the scale
pub weight_small : (x : ℕ) (fs : List Feed) → T (all weight_ok fs) → nat_abs (weight_of x fs) ≤ 1000000
unfolding weight_of all weight_ok in_scale
weight_small x [] h = omega arith
weight_small x (f ∷ fs) h =
    let t = T_and (weight_ok f) (all weight_ok fs) h in
    cond_case (λ z. nat_abs z ≤ 1000000) (eqb f.signal x)
    (λ e. leb→le (nat_abs f.weight) 1000000 (T_and (in_scale f.weight) (not (is_zero f.weight)) t.0).0)
    (λ e. weight_small x fs t.1)

-- minus each weight
pub weight_negated : (x : ℕ) (fs : List Feed) → weight_of x (map negated fs) ≡ neg_ℤ (weight_of x fs)
unfolding weight_of negated
weight_negated x [] = refl
weight_negated x (f ∷ fs) = elim (eqb f.signal x) as
    (λ b. cond b (neg_ℤ f.weight) (weight_of x (map negated fs)) ≡ neg_ℤ (cond b f.weight (weight_of x fs)))
    [ true ↦ refl | false ↦ weight_negated x fs ]

-- ---- sums

-- a gate's sum over a range that has all its feeds' signals; w is the weight among the feeds
pub sum_range : (ρ : Assignment) (w : ℕ → ℤ) (a n own : ℕ) (fs : List Feed) → Rise a own (signals_of fs) → own ≤ a + n
    → ((x : ℕ) → a ≤ x → w x ≡ weight_of x fs) → sum ρ (weighted w (range a n)) ≡ sum ρ fs
unfolding range sum weight_of signals_of
sum_range ρ w a zero own [] h k e = refl
sum_range ρ w a zero own (f ∷ fs) h k e = absurd (omega arith)
sum_range ρ w a (suc n) own [] h k e =
    no_weight (ρ a) (w a) _ (e a (omega arith)) ∙ sum_range ρ w (suc a) n own [] tt (omega arith) (λ x l. e x (omega arith))
sum_range ρ w a (suc n) own (f ∷ fs) h k e = elim (dec_lt a f.signal) as (λ d. sum ρ (weighted w (range a (suc n))) ≡ sum ρ (f ∷ fs)) [
  | yes j ↦ no_weight (ρ a) (w a) _ (e a (omega arith) ∙ weight_none a f.signal own (f ∷ fs) (omega arith, h.1, h.2) j)
      ∙ sum_range ρ w (suc a) n own (f ∷ fs) (j, h.1, h.2) (omega arith) (λ x l. e x (omega arith))
  | no j ↦ let q : f.signal ≡ a = omega arith in
      rw (e a (omega arith), q, is_true (eqb a a) (eqb_refl a))
      (ap (λ (z : ℤ). cond (ρ a) f.weight (pos 0) +ℤ z) (sum_range ρ w (suc a) n own fs (rw q at h.2) (omega arith)
      (λ x l. e x (omega arith) ∙ rw (eqb_no f.signal x (λ (i : f.signal ≡ x). omega arith)))))
]

-- the first signal of a list of which some are kept
sum_first : (ρ : Assignment) (w : ℕ → ℤ) (p : ℕ → Bool) (x : ℕ) (xs : List ℕ)
    → sum ρ (weighted w (keep p (x ∷ xs))) ≡ cond (p x) (cond (ρ x) (w x) (pos 0)) (pos 0) +ℤ sum ρ (weighted w (keep p xs))
unfolding sum keep
sum_first ρ w p x xs = elim (p x) as
    (λ b. sum ρ (weighted w (cond b (x ∷ keep p xs) (keep p xs))) ≡ cond b (cond (ρ x) (w x) (pos 0)) (pos 0) +ℤ sum ρ (weighted w (keep p xs)))
    [ true ↦ refl | false ↦ sym (+ℤ_idl _) ]

-- the same term from two assignments, where a signal that is not kept has no weight
same_term : (b s t : Bool) (w : ℤ) → (T b → s ≡ t) → (T (not b) → w ≡ pos 0) → cond s w (pos 0) ≡ cond b (cond t w (pos 0)) (pos 0)
same_term true s t w h k = rw (h tt)
same_term false s t w h k = rw (k tt) (cond_zero s)

-- signals that are not kept have no weight
pub sum_kept : (σ ρ : Assignment) (w : ℕ → ℤ) (p : ℕ → Bool) (a n : ℕ)
    → ((x : ℕ) → a ≤ x → T (p x) → σ x ≡ ρ x) → ((x : ℕ) → a ≤ x → T (not (p x)) → w x ≡ pos 0)
    → sum σ (weighted w (range a n)) ≡ sum ρ (weighted w (keep p (range a n)))
unfolding range sum
sum_kept σ ρ w p a zero h k = unfold keep in refl
sum_kept σ ρ w p a (suc n) h k = rw (
  sum_first ρ w p a (range (suc a) n),
  same_term (p a) (σ a) (ρ a) (w a) (h a (omega arith)) (k a (omega arith)),
  sum_kept σ ρ w p (suc a) n (λ x l. h x (omega arith)) (λ x l. k x (omega arith)),
)

-- u, which is not kept, has the bit b; other signals that are not kept have no weight
pub sum_split : (ρ : Assignment) (w : ℕ → ℤ) (p : ℕ → Bool) (u : ℕ) (b : Bool) (a n : ℕ)
    → T (not (p u)) → ((x : ℕ) → x ≢ u → T (not (p x)) → w x ≡ pos 0) → a ≤ u → u < a + n
    → sum (assign ρ u b) (weighted w (range a n)) ≡ cond b (w u) (pos 0) +ℤ sum ρ (weighted w (keep p (range a n)))
unfolding range sum
sum_split ρ w p u b a zero t k l m = absurd (omega arith)
sum_split ρ w p u b a (suc n) t k l m = elim (dec_lt a u) as
    (λ d. sum (assign ρ u b) (weighted w (range a (suc n))) ≡ cond b (w u) (pos 0) +ℤ sum ρ (weighted w (keep p (range a (suc n))))) [
      | yes j ↦
          let x = cond (p a) (cond (ρ a) (w a) (pos 0)) (pos 0) in
          let y = cond b (w u) (pos 0) in
          let z = sum ρ (weighted w (keep p (range (suc a) n))) in
          rw (
            sum_first ρ w p a (range (suc a) n),
            same_term (p a) (assign ρ u b a) (ρ a) (w a) (λ i. assign_other ρ u b a (λ q. omega arith)) (k a (λ q. omega arith)),
            sum_split ρ w p u b (suc a) n t k j (omega arith),
          ) (eq_of (# x ⊕ (# y ⊕ # z)) (# y ⊕ (# x ⊕ # z)) (omega arith))
      | no j ↦
          let e : a ≡ u = omega arith in
          rw (
            sum_first ρ w p a (range (suc a) n),
            e,
            is_false (p u) t,
            assign_same ρ u b,
            +ℤ_idl (sum ρ (weighted w (keep p (range (suc u) n)))),
            sum_kept (assign ρ u b) ρ w p (suc u) n (λ x i q. assign_other ρ u b x (λ r. omega arith)) (λ x i q. k x (λ r. omega arith) q),
          )
    ]

-- ---- a setting's bits in turn are the bits of the signals

rise_lower : (low own : ℕ) (ss : List ℕ) → Rise (suc low) own ss → Rise low own ss
rise_lower low own [] h = tt
rise_lower low own (s ∷ ss) h = (omega arith, h.1, h.2)

-- what is kept of a range rises
pub rise_kept : (p : ℕ → Bool) (a n own : ℕ) → a + n ≤ own → Rise a own (keep p (range a n))
unfolding keep range
rise_kept p a zero own h = tt
rise_kept p a (suc n) own h =
    let r = rise_kept p (suc a) n own (omega arith) in
    cond_case (Rise a own) (p a) (λ t. (omega arith, omega arith, r)) (λ t. rise_lower a own (keep p (range (suc a) n)) r)

-- on a setting of a rising list of signals
pub sum_setting : (ρ : Assignment) (w : ℕ → ℤ) (low own : ℕ) (ds : List ℕ) (s : ℕ) → Rise low own ds → ((x : ℕ) → low ≤ x → ρ x ≡ setting ds s x)
    → sum ρ (weighted w ds) ≡ sum_at (map w ds) s
unfolding sum sum_at setting
sum_setting ρ w low own [] s h e = refl
sum_setting ρ w low own (y ∷ ys) s h e = rw (
  e y h.0,
  is_true (eqb y y) (eqb_refl y),
  sum_setting ρ w (suc y) own ys (s / 2) h.2 (λ x l. e x (omega arith) ∙ rw (eqb_no x y (λ (q : x ≡ y). omega arith))),
)

-- k times one sum plus l times another
pub sum_mixed : (k l : ℕ) (f g : ℕ → ℤ) (ds : List ℕ) (s : ℕ)
    → sum_at (map (λ x. pos k *ℤ f x +ℤ pos l *ℤ g x) ds) s ≡ pos k *ℤ sum_at (map f ds) s +ℤ pos l *ℤ sum_at (map g ds) s
unfolding sum_at
sum_mixed k l f g [] s = eq_of (nat 0) (k ⊙ nat 0 ⊕ l ⊙ nat 0) (omega arith)
sum_mixed k l f g (x ∷ ds) s =
    let y = sum_at (map f ds) (s / 2) in
    let z = sum_at (map g ds) (s / 2) in
    rw (sum_mixed k l f g ds (s / 2)) (elim (eqb (s % 2) 1) as
    (λ b. cond b (pos k *ℤ f x +ℤ pos l *ℤ g x) (pos 0) +ℤ (pos k *ℤ y +ℤ pos l *ℤ z)
    ≡ pos k *ℤ (cond b (f x) (pos 0) +ℤ y) +ℤ pos l *ℤ (cond b (g x) (pos 0) +ℤ z)) [
      | true ↦ eq_of ((k ⊙ # (f x) ⊕ l ⊙ # (g x)) ⊕ (k ⊙ # y ⊕ l ⊙ # z)) (k ⊙ (# (f x) ⊕ # y) ⊕ l ⊙ (# (g x) ⊕ # z)) (omega arith)
      | false ↦ eq_of (nat 0 ⊕ (k ⊙ # y ⊕ l ⊙ # z)) (k ⊙ (nat 0 ⊕ # y) ⊕ l ⊙ (nat 0 ⊕ # z)) (omega arith)
    ])

-- ---- minus each weight

pub sum_at_negated : (fs : List Feed) (ds : List ℕ) (s : ℕ) → sum_at (map (λ x. weight_of x (map negated fs)) ds) s ≡ neg_ℤ (sum_at (map (λ x. weight_of x fs) ds) s)
unfolding sum_at
sum_at_negated fs [] s = refl
sum_at_negated fs (x ∷ ds) s =
    rw (weight_negated x fs, sum_at_negated fs ds (s / 2))
    (term_negated (eqb (s % 2) 1) (weight_of x fs) (sum_at (map (λ x. weight_of x fs) ds) (s / 2)))
