-- The pair search: every pair with k and l from 1 to 32 is tried, in rising order, so its answer is the least pair that qualifies, and
-- it refuses only where none does. Assumes nothing.
use Rattle.std.specs.Prelude.{◌≡◌, refl, Bool, not, ◌↔◌, ℕ, zero, suc, ◌+◌, ◌-◌, ◌≤◌, ◌<◌}
use Rattle.std.proofs.Common.{sym, ◌∙◌, inl, inr, arith, T_not}
use Rattle.std.proofs.Math.Path.{subst}
use mathlib.Core.List.{List, [], ◌∷◌}
use Rattle.std.proofs.Math.Decide.{dec_lt}
use Rattle.std.proofs.Math.Dec.{T}
use Rattle.basics.specs.Lists.{range, Each}
use Rattle.basics.specs.TestLaws.{cond_case, every_of, of_every, between_of}
use Rattle.basics.specs.ListLaws.{each_imp}
use Rattle.basics.specs.Refusals.{Answer, accepted, refused, checks}
use Rattle.basics.specs.RefusalLaws.{Refused, accepted≢refused, accepted_inj, checks_accepted, passed_checks}
use Rattle.network.specs.Threshold.{Net}
use Rattle.network.specs.Limits.{scale_ok}
use Rattle.fold_theory.specs.Merge.{Edge, edge, merged, agrees, merge_keeps, on_dial, narrow, feed_tests}
use Rattle.fold_theory.specs.Pair.{Pair, pairs_of, gather, pairs, qualifies, first, pair_tests, pair_of, pair}
use Rattle.fold_theory.specs.Guarantee.{MarginsKept, NotAfter, Qualifying, HasPair, LeastPair}
use Rattle.fold_theory.proofs.LimitLaws.{FeedsGate, fed_of, of_fed, PairSearched, searched_of, of_searched}
use Rattle.fold_theory.proofs.LimitLaws.{narrow_few, MergeInLimits, limited_of, of_limited}
use Rattle.fold_theory.proofs.MemberLaws.{each_append, append_left, append_right, Ascending, ascending_append, each_range, range_each, ascending_range}
use Rattle.fold_theory.proofs.AgreeLaws.{alike_of, of_alike}
use Rattle.fold_theory.proofs.SoundLaws.{merged_ok}
use Rattle.fold_theory.proofs.MarginLaws.{keeps_all_lem}

-- ---- the first member of which a test holds
module _ {A : Type 0} (p : A → Bool) where
  first_accepted : (xs : List A) (c : ℕ) {x : A} → first p xs c ≡ accepted x → T (p x)
  unfolding first
  first_accepted [] c e = accepted≢refused (sym e)
  first_accepted (y ∷ xs) c {x} e =
      cond_case (λ r. r ≡ accepted x → T (p x)) (p y) (λ t e. subst (λ z. T (p z)) (accepted_inj e) t) (λ t e. first_accepted xs c e) e

  first_least : (R : A → A → Type 0) → ((x : A) → R x x) → (xs : List A) (c : ℕ) (x : A)
      → Ascending R xs → first p xs c ≡ accepted x → Each (λ y. T (p y) → R x y) xs
  unfolding first
  first_least R same [] c x h e = tt
  first_least R same (y ∷ xs) c x h e = cond_case (λ r. r ≡ accepted x → Each (λ z. T (p z) → R x z) (y ∷ xs)) (p y)
      (λ t e. subst (λ z. Each (λ w. T (p w) → R z w) (y ∷ xs)) (accepted_inj e) ((λ b. same y), each_imp (R y) (λ w. T (p w) → R y w) (λ w r b. r) xs h.0))
      (λ t e. ((λ b. absurd (T_not (p y) t b)), first_least R same xs c x h.1 e)) e

  pub first_none : (xs : List A) (c : ℕ) → Refused (first p xs c) → Each (λ y. T (not (p y))) xs
  unfolding first
  first_none [] c h = tt
  first_none (y ∷ xs) c h = cond_case {A = Answer A} (λ r. Refused r → Each (λ z. T (not (p z))) (y ∷ xs)) (p y) {x = accepted y} {y = first p xs c}
      (λ t h. absurd h) (λ t h. (t, first_none xs c h)) h

-- ---- what qualifies

-- the tests as facts
pub record Qualified (e : Edge) (p : Pair) : Type 0 where
  pub k_dial : T (on_dial p.k)
  pub l_dial : T (on_dial p.l)
  pub scaled : T (scale_ok (merged e p.k p.l))
  pub kept : T (merge_keeps e p.k p.l)
  pub agreed : T (agrees e p.k p.l)

pub qualified_of : (e : Edge) (p : Pair) → T (qualifies e p) → Qualified e p
unfolding qualifies
qualified_of e p t =
    let h = every_of (on_dial p.k ∷ on_dial p.l ∷ scale_ok (merged e p.k p.l) ∷ merge_keeps e p.k p.l ∷ agrees e p.k p.l ∷ []) t in
    record { k_dial = h.0; l_dial = h.1.0; scaled = h.1.1.0; kept = h.1.1.1.0; agreed = h.1.1.1.1.0 }

of_qualified : (e : Edge) (p : Pair) → Qualified e p → T (qualifies e p)
unfolding qualifies
of_qualified e p h =
    of_every (on_dial p.k ∷ on_dial p.l ∷ scale_ok (merged e p.k p.l) ∷ merge_keeps e p.k p.l ∷ agrees e p.k p.l ∷ [])
    (h.k_dial, (h.l_dial, (h.scaled, (h.kept, (h.agreed, tt)))))

-- ---- every pair with k and l from 1 to 32 is among the pairs
gather_at : (P : Pair → Type 0) (a n : ℕ) → Each P (gather (range a n)) → (s : ℕ) → a ≤ s → s < a + n
    → (k : ℕ) → 1 ≤ k → k < s → P (record { k = k; l = s - k })
unfolding gather range pairs_of
gather_at P a zero h s i j k p q = absurd (omega arith)
gather_at P a (suc n) h s i j k p q = elim (dec_lt a s) as (λ d. P (record { k = k; l = s - k })) [
  | yes r ↦ gather_at P (suc a) n (append_right P (pairs_of a) (gather (range (suc a) n)) h) s r (omega arith) k p q
  | no r ↦
      let e : s ≡ a = omega arith in
      rw e (range_each P (λ k. record { k = k; l = a - k }) 1 (a - 1) (append_left P (pairs_of a) (gather (range (suc a) n)) h) k p (omega arith))
]

pub dial_of : (k : ℕ) → T (on_dial k) → (1 ≤ k) × (k ≤ 32)
unfolding on_dial
dial_of k t = between_of 1 32 k t

each_pairs : (P : Pair → Type 0) → Each P pairs → (p : Pair) → T (on_dial p.k) → T (on_dial p.l) → P p
unfolding pairs
each_pairs P h p s t = let a = dial_of p.k s in let b = dial_of p.l t in
    subst (λ x. P (record { k = p.k; l = x })) (let e : p.k + p.l - p.k ≡ p.l = omega arith in e)
    (gather_at P 2 63 h (p.k + p.l) (omega arith) (omega arith) p.k a.0 (omega arith))

-- ---- the pairs rise
not_after_self : (p : Pair) → NotAfter p p
not_after_self p = inr (refl, omega arith)

pairs_sum : (s : ℕ) → Each (λ p. p.k + p.l ≡ s) (pairs_of s)
unfolding pairs_of
pairs_sum s = each_range (λ p. p.k + p.l ≡ s) (λ k. record { k = k; l = s - k }) 1 (s - 1) λ i h j. omega arith

gather_sums : (a n : ℕ) → Each (λ p. a ≤ p.k + p.l) (gather (range a n))
unfolding gather range
gather_sums a zero = tt
gather_sums a (suc n) = each_append (λ p. a ≤ p.k + p.l) (pairs_of a) (gather (range (suc a) n))
    (each_imp (λ p. p.k + p.l ≡ a) (λ p. a ≤ p.k + p.l) (λ p h. omega arith) (pairs_of a) (pairs_sum a))
    (each_imp (λ p. suc a ≤ p.k + p.l) (λ p. a ≤ p.k + p.l) (λ p h. omega arith) (gather (range (suc a) n)) (gather_sums (suc a) n))

pairs_of_ascending : (s : ℕ) → Ascending NotAfter (pairs_of s)
unfolding pairs_of
pairs_of_ascending s = ascending_range NotAfter (λ k. record { k = k; l = s - k }) 1 (s - 1) λ i j h k l. inr (omega arith, omega arith)

gather_ascending : (a n : ℕ) → Ascending NotAfter (gather (range a n))
unfolding gather range
gather_ascending a zero = tt
gather_ascending a (suc n) =
    let later = gather (range (suc a) n) in
    ascending_append NotAfter (pairs_of a) later (pairs_of_ascending a) (gather_ascending (suc a) n)
    (each_imp (λ p. p.k + p.l ≡ a) (λ p. Each (NotAfter p) later)
    (λ p h. each_imp (λ q. suc a ≤ q.k + q.l) (NotAfter p) (λ q i. inl (omega arith)) later (gather_sums (suc a) n)) (pairs_of a) (pairs_sum a))

pairs_ascending : Ascending NotAfter pairs
unfolding pairs
pairs_ascending = gather_ascending 2 63

-- ---- the search over two gates

-- what an accepted pair says: the tests before the search hold, the pair qualifies, and none before it does
pub record PairAccepted (e : Edge) (p : Pair) : Type 0 where
  pub searched : PairSearched e
  pub qualified : T (qualifies e p)
  pub least : (q : Pair) → T (qualifies e q) → NotAfter p q

pub pair_of_found : (e : Edge) (p : Pair) → pair_of e ≡ accepted p → PairAccepted e p
unfolding pair_of
pair_of_found e p h =
    let c = checks_accepted (pair_tests e) (first (qualifies e) pairs 16) h in
    record {
      searched = searched_of e c.0;
      qualified = first_accepted (qualifies e) pairs 16 c.1;
      least = λ q t. let d = qualified_of e q t in
          each_pairs (λ q. T (qualifies e q) → NotAfter p q) (first_least (qualifies e) NotAfter not_after_self pairs 16 p pairs_ascending c.1) q
          d.k_dial d.l_dial t;
    }

-- where some pair qualifies, one is found
pub pair_of_given : (e : Edge) (q : Pair) → PairSearched e → T (qualifies e q) → (p : Pair) × (pair_of e ≡ accepted p)
unfolding pair_of
pair_of_given e q s t = go (first (qualifies e) pairs 16) refl
  where
    go : (r : Answer Pair) → first (qualifies e) pairs 16 ≡ r → (p : Pair) × (checks (pair_tests e) (first (qualifies e) pairs 16) ≡ accepted p)
    go (accepted p) x = (p, passed_checks (pair_tests e) _ (of_searched e s) ∙ x)
    go (refused c) x =
        let d = qualified_of e q t in
        let none = first_none (qualifies e) pairs 16 (subst Refused (sym x) tt) in
        absurd (T_not (qualifies e q) (each_pairs (λ q. T (not (qualifies e q))) none q d.k_dial d.l_dial) t)

-- ---- a pair qualifies where its merge is within the limits, agrees and keeps the margins
pub qualifying_limited : (N : Net) (u v : ℕ) (p : Pair) → Qualifying N u v p → MergeInLimits N u v p.k p.l
qualifying_limited N u v p q = limited_of N u v p.k p.l q.0

-- a merged gate within the limits keeps the margins where the test says so
pub margins_kept : (e : Edge) (k l : ℕ) → T (narrow e) → T (scale_ok (merged e k l)) → T (merge_keeps e k l) ↔ MarginsKept e k l
unfolding merge_keeps
margins_kept e k l n s = keeps_all_lem e.board e.v (merged e k l) (merged_ok e k l (narrow_few e n) s)

pub qualifying_test : (N : Net) (u v : ℕ) (p : Pair) → Qualifying N u v p → T (qualifies (edge N u v) p)
qualifying_test N u v p q =
    let h = qualifying_limited N u v p q in
    let e = edge N u v in
    of_qualified e p (record {
      k_dial = h.k_dial;
      l_dial = h.l_dial;
      scaled = h.scaled;
      kept = (margins_kept e p.k p.l h.searched.is_narrow h.scaled).1 q.2;
      agreed = of_alike e p.k p.l q.1;
    })

pub test_qualifying : (N : Net) (u v : ℕ) (p : Pair) → FeedsGate N u v → PairSearched (edge N u v) → T (qualifies (edge N u v) p) → Qualifying N u v p
test_qualifying N u v p f s t = let d = qualified_of (edge N u v) p t in (
  of_limited N u v p.k p.l (record { fed = f; searched = s; k_dial = d.k_dial; l_dial = d.l_dial; scaled = d.scaled }),
  alike_of (edge N u v) p.k p.l d.agreed,
  (margins_kept (edge N u v) p.k p.l s.is_narrow d.scaled).0 d.kept,
)

-- ---- the call
pub pair_least : (N : Net) (u v : ℕ) (p : Pair) → pair N u v ≡ accepted p → LeastPair N u v p
unfolding pair
pair_least N u v p h =
    let c = checks_accepted (feed_tests N u v) (pair_of (edge N u v)) h in
    let f = pair_of_found (edge N u v) p c.1 in
    record { qualified = test_qualifying N u v p (fed_of N u v c.0) f.searched f.qualified; least = λ q x. f.least q (qualifying_test N u v q x) }

pub pair_given_lem : (N : Net) (u v : ℕ) → HasPair N u v → (p : Pair) × (pair N u v ≡ accepted p)
unfolding pair
pair_given_lem N u v h =
    let l = qualifying_limited N u v h.0 h.1 in
    let g = pair_of_given (edge N u v) h.0 l.searched (qualifying_test N u v h.0 h.1) in
    (g.0, passed_checks (feed_tests N u v) (pair_of (edge N u v)) (of_fed N u v l.fed) ∙ g.1)

pub pair_none : (N : Net) (u v : ℕ) → pair N u v ≡ refused 16 → HasPair N u v → ⊥
pair_none N u v e h = accepted≢refused (sym (pair_given_lem N u v h).1 ∙ e)
