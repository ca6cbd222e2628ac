-- The margins of a gate are kept under every assignment exactly where the test says so; those of a merged gate by its distinct feeds; and
-- agreement and margins are one comparison on each setting. Assumes nothing.
use Rattle.std.specs.Prelude.{◌≡◌, refl, Bool, true, false, cond, ◌&&◌, ◌||◌, List, [], ◌∷◌, map, ◌↔◌, ℕ, suc, ◌+◌, ◌*◌, ◌/◌, ◌%◌, ◌^◌, ◌≤◌, ◌<◌, T, eqb, ℤ, pos, ◌+ℤ◌, ◌-ℤ◌, length}
use Rattle.std.proofs.Common.{sym, ap, ap₂, ◌∙◌, subst, arith}
use Rattle.std.proofs.Math.Path.{fun_ext}
use Rattle.std.specs.Bool.{beq}
use Rattle.std.proofs.lemmas.Simd.{map-map}
use Rattle.std.proofs.Math.Nat.{two-pow-succ}
use Rattle.std.proofs.Math.IntN.{+ℤ_idl}
use Rattle.std.specs.Int.Signed.{le_z}
use Rattle.std.proofs.lemmas.List.{length-map}
use Rattle.basics.specs.Lists.{below}
use Rattle.basics.specs.ListLaws.{below_at, at_below}
use Rattle.basics.specs.IntegerLaws.{#, nat, ◌⊕◌, ◌⊖◌, le_of, of_le, of_gt}
use Rattle.basics.specs.TestLaws.{is_true, is_false, T_and, and_T, and_true, T_or, or_T, or_case, test_same, beq_eq, eq_beq}
use Rattle.gate_rising.specs.Sums.{every_sum}
use Rattle.gate_margins.specs.Sums.{apart, outside}
use Rattle.gate_margins.specs.SumLaws.{outside_always}
use Rattle.gate_sums.specs.Tables.{sum_at}
use Rattle.network.specs.Threshold.{Feed, Gate, Assignment, sum, assign}
use Rattle.network.specs.Limits.{signals_of, weights_of, keeps, Keeps}
use Rattle.network.specs.MarginLaws.{every_stays}
use Rattle.network.specs.Sound.{Rise, GateOk}
use Rattle.network.specs.declared.Board.{Board}
use Rattle.network_equivalence.proofs.ConsistentLaws.{assign_same, assign_other}
use Rattle.fold_theory.specs.Merge.{Edge, weight_of, distinct, voter, merged_feed, merged_threshold, merged, merge_keeps}
use Rattle.fold_theory.specs.Aligned.{Aligned, aligned, edge_thresholds, mix, composed_bit, mixed_threshold, merged_bit, same_bits, clears, without_margins}
use Rattle.fold_theory.specs.Aligned.{agrees_on, agrees_all, clears_on, clears_all}
use Rattle.fold_theory.proofs.WeightLaws.{sum_mixed}
use Rattle.fold_theory.specs.declared.Thresholds.{Thresholds}

-- ---- the test, and the document's words

-- a sum under an assignment is one of the sums
every_at : (p : ℤ → Bool) (ρ : Assignment) (fs : List Feed) → T (every_sum p (weights_of fs)) → T (p (sum ρ fs))
unfolding every_sum weights_of sum
every_at p ρ [] t = t
every_at p ρ (f ∷ fs) t =
    let h = T_and (every_sum p (weights_of fs)) (every_sum (λ z. p (f.weight +ℤ z)) (weights_of fs)) t in
    elim (ρ f.signal) as (λ b. T (p (cond b f.weight (pos 0) +ℤ sum ρ fs))) [
      | true ↦ every_at (λ z. p (f.weight +ℤ z)) ρ fs h.1
      | false ↦ rw (+ℤ_idl (sum ρ fs)) (every_at p ρ fs h.0)
    ]

-- a signal below all feeds does not matter
sum_apart : (ρ : Assignment) (s : ℕ) (b : Bool) (low own : ℕ) (fs : List Feed) → Rise low own (signals_of fs) → s < low → sum (assign ρ s b) fs ≡ sum ρ fs
unfolding sum signals_of
sum_apart ρ s b low own [] h k = refl
sum_apart ρ s b low own (f ∷ fs) h k =
    rw (assign_other ρ s b f.signal (λ q. omega arith), sum_apart ρ s b (suc f.signal) own fs h.2 (omega arith))

-- signals that rise are distinct, so every choice of weights is that of an assignment
at_every : (p : ℤ → Bool) (low own : ℕ) (fs : List Feed) → Rise low own (signals_of fs) → ((ρ : Assignment) → T (p (sum ρ fs))) → T (every_sum p (weights_of fs))
unfolding every_sum weights_of sum signals_of
at_every p low own [] h k = k (λ s. false)
at_every p low own (f ∷ fs) h k = and_T (every_sum p (weights_of fs)) (every_sum (λ z. p (f.weight +ℤ z)) (weights_of fs))
    (at_every p (suc f.signal) own fs h.2 λ ρ. subst (λ (z : ℤ). T (p z)) (chosen ρ false ∙ +ℤ_idl (sum ρ fs)) (k (assign ρ f.signal false)))
    (at_every (λ z. p (f.weight +ℤ z)) (suc f.signal) own fs h.2 λ ρ. subst (λ (z : ℤ). T (p z)) (chosen ρ true) (k (assign ρ f.signal true)))
  where
    chosen : (ρ : Assignment) (b : Bool)
        → cond (assign ρ f.signal b f.signal) f.weight (pos 0) +ℤ sum (assign ρ f.signal b) fs ≡ cond b f.weight (pos 0) +ℤ sum ρ fs
    chosen ρ b = rw (assign_same ρ f.signal b, sum_apart ρ f.signal b (suc f.signal) own fs h.2 (omega arith))

-- a gate within the limits passes the test exactly if it keeps the margins under every assignment
pub keeps_all_lem : (b : Board) (own : ℕ) (g : Gate) → GateOk own g → T (keeps b g) ↔ Keeps b g
unfolding keeps
keeps_all_lem b own g o = (
  λ t ρ. every_at (outside b.on b.off g.threshold) ρ g.feeds t,
  λ k. at_every (outside b.on b.off g.threshold) 0 own g.feeds o.rise k,
)

-- ---- the sums of some weights are the sums on settings
every_settings : (p : ℤ → Bool) (ws : List ℤ) → every_sum p ws ≡ below (2 ^ length ws) (λ s. p (sum_at ws s))
unfolding every_sum sum_at below
every_settings p [] = refl
every_settings p (w ∷ ws) =
    ap₂ ◌&&◌ (every_settings p ws) (every_settings (λ z. p (w +ℤ z)) ws) ∙ test_same (below m q && below m r) (below (2 ^ suc (length ws)) whole) joined parted
  where
    m : ℕ
    m = 2 ^ length ws

    q : ℕ → Bool
    q s = p (sum_at ws s)

    r : ℕ → Bool
    r s = p (w +ℤ sum_at ws s)

    whole : ℕ → Bool
    whole s = p (cond (eqb (s % 2) 1) w (pos 0) +ℤ sum_at ws (s / 2))

    joined : T (below m q && below m r) → T (below (2 ^ suc (length ws)) whole)
    joined t =
        let h = T_and (below m q) (below m r) t in
        at_below (2 ^ suc (length ws)) whole λ s k. elim (eqb (s % 2) 1) as (λ b. T (p (cond b w (pos 0) +ℤ sum_at ws (s / 2)))) [
          | true ↦ below_at m r h.1 (s / 2) (omega (arith, two-pow-succ (length ws)))
          | false ↦ rw (+ℤ_idl (sum_at ws (s / 2))) (below_at m q h.0 (s / 2) (omega (arith, two-pow-succ (length ws))))
        ]

    parted : T (below (2 ^ suc (length ws)) whole) → T (below m q && below m r)
    parted t = and_T (below m q) (below m r)
        (at_below m q λ s k. subst (λ (z : ℤ). T (p z)) (even s) (below_at (2 ^ suc (length ws)) whole t (2 * s) (omega (arith, two-pow-succ (length ws)))))
        (at_below m r λ s k. subst (λ (z : ℤ). T (p z)) (odd s) (below_at (2 ^ suc (length ws)) whole t (2 * s + 1) (omega (arith, two-pow-succ (length ws)))))
      where
        even : (s : ℕ) → cond (eqb ((2 * s) % 2) 1) w (pos 0) +ℤ sum_at ws ((2 * s) / 2) ≡ sum_at ws s
        even s = rw (let e : (2 * s) % 2 ≡ 0 = omega arith in e, let e : (2 * s) / 2 ≡ s = omega arith in e) (+ℤ_idl (sum_at ws s))

        odd : (s : ℕ) → cond (eqb ((2 * s + 1) % 2) 1) w (pos 0) +ℤ sum_at ws ((2 * s + 1) / 2) ≡ w +ℤ sum_at ws s
        odd s = rw (let e : (2 * s + 1) % 2 ≡ 1 = omega arith in e, let e : (2 * s + 1) / 2 ≡ s = omega arith in e)

-- ---- a merged gate, by the distinct feeds

-- the merged gate's sum on setting s keeps the margins
keeps_on : Aligned → ℕ → ℕ → ℕ → Bool
keeps_on a k l s =
    outside a.thresholds.board.on a.thresholds.board.off (mixed_threshold a.thresholds k l) (mix k l (sum_at a.us s) (sum_at a.vs s))

keeps_all : Aligned → ℕ → ℕ → Bool
keeps_all a k l = below (2 ^ length a.us) (keeps_on a k l)

merged_keeps : (e : Edge) (k l : ℕ) → merge_keeps e k l ≡ keeps_all (aligned e) k l
unfolding merge_keeps keeps keeps_all keeps_on merged merged_feed merged_threshold mixed_threshold aligned edge_thresholds weights_of
merged_keeps e k l =
    let f : ℕ → ℤ = λ x. weight_of x (voter e).feeds in
    let g : ℕ → ℤ = λ x. weight_of x e.gate_v.feeds in
    let mixed : ℕ → ℤ = λ x. mix k l (f x) (g x) in
    let p = outside e.board.on e.board.off (merged_threshold e k l) in
    every_stays p (map (merged_feed e k l) (distinct e))
    ∙ ap (every_sum p) (map-map (λ h. h.weight) (merged_feed e k l) (distinct e))
    ∙ every_settings p (map mixed (distinct e))
    ∙ ap₂ (λ (n : ℕ) (q : ℕ → Bool). below (2 ^ n) q) (length-map (distinct e) mixed ∙ sym (length-map (distinct e) f))
    (fun_ext λ s. ap p (sum_mixed k l f g (distinct e) s))

-- ---- agreement and margins in one comparison

-- a bit, its threshold and its sum
one_test : (on off : ℕ) (t z : ℤ) (c : Bool) → 1 ≤ off → (beq (le_z t z) c && outside on off t z) ≡ cond c (le_z (t +ℤ pos on) z) (le_z z (t -ℤ pos off))
unfolding outside apart
one_test on off t z true h = test_same (beq (le_z t z) true && (high || low)) high
    (λ b.
    let s = T_and (beq (le_z t z) true) (high || low) b in
    or_case high low s.1 (λ x. x) (λ x. absurd (beneath x (beq_eq (le_z t z) true s.0))))
    (λ x.
    let reached = is_true (le_z t z) (of_le (# t) (# z) (omega (arith, le_of (# t ⊕ nat on) (# z) x))) in
    and_T (beq (le_z t z) true) (high || low) (eq_beq (le_z t z) true reached) (T_or high low x))
  where
    high : Bool
    high = le_z (t +ℤ pos on) z

    low : Bool
    low = le_z z (t -ℤ pos off)

    beneath : T low → le_z t z ≡ true → ⊥
    beneath x e = omega (arith, le_of (# z) (# t ⊖ nat off) x, le_of (# t) (# z) (subst T (sym e) tt))
one_test on off t z false h = test_same (beq (le_z t z) false && (high || low)) low
    (λ b.
    let s = T_and (beq (le_z t z) false) (high || low) b in
    or_case high low s.1 (λ x. absurd (above x (beq_eq (le_z t z) false s.0))) (λ x. x))
    (λ x.
    let missed = is_false (le_z t z) (of_gt (# t) (# z) (omega (arith, le_of (# z) (# t ⊖ nat off) x))) in
    and_T (beq (le_z t z) false) (high || low) (eq_beq (le_z t z) false missed) (or_T high low x))
  where
    high : Bool
    high = le_z (t +ℤ pos on) z

    low : Bool
    low = le_z z (t -ℤ pos off)

    above : T high → le_z t z ≡ false → ⊥
    above x e = subst T e (of_le (# t) (# z) (omega (arith, le_of (# t ⊕ nat on) (# z) x)))

-- from the two sums
clears_is : (t : Thresholds) (k l : ℕ) (su sv : ℤ) → 1 ≤ t.board.off
    → clears t k l su sv ≡ (same_bits t k l su sv && outside t.board.on t.board.off (mixed_threshold t k l) (mix k l su sv))
unfolding clears same_bits merged_bit
clears_is t k l su sv h = sym (one_test t.board.on t.board.off (mixed_threshold t k l) (mix k l su sv) (composed_bit t su sv) h)

-- two tests of each number
below_both : (n : ℕ) (p q : ℕ → Bool) → below n (λ s. p s && q s) ≡ (below n p && below n q)
below_both n p q = test_same (below n (λ s. p s && q s)) (below n p && below n q)
    (λ t. and_T (below n p) (below n q)
    (at_below n p λ s k. (T_and (p s) (q s) (below_at n (λ s. p s && q s) t s k)).0)
    (at_below n q λ s k. (T_and (p s) (q s) (below_at n (λ s. p s && q s) t s k)).1))
    (λ t.
    let h = T_and (below n p) (below n q) t in
    at_below n (λ s. p s && q s) λ s k. and_T (p s) (q s) (below_at n p h.0 s k) (below_at n q h.1 s k))

-- on every setting
pub clears_all_lem : (e : Edge) (k l : ℕ) → 1 ≤ e.board.off → clears_all (aligned e) k l ≡ (agrees_all (aligned e) k l && merge_keeps e k l)
unfolding clears_all clears_on agrees_all agrees_on keeps_all keeps_on aligned edge_thresholds
clears_all_lem e k l h =
    let a = aligned e in
    ap (below (2 ^ length a.us)) (fun_ext λ s. clears_is a.thresholds k l (sum_at a.us s) (sum_at a.vs s) h)
    ∙ below_both (2 ^ length a.us) (agrees_on a k l) (keeps_on a k l)
    ∙ ap (λ (b : Bool). agrees_all a k l && b) (sym (merged_keeps e k l))

-- ---- the margins of version 1 ask for equal bits and no more
pub plain_same : (t : Thresholds) (k l : ℕ) (su sv : ℤ) → clears (without_margins t) k l su sv ≡ same_bits t k l su sv
unfolding without_margins same_bits merged_bit composed_bit mixed_threshold
plain_same t k l su sv =
    clears_is (without_margins t) k l su sv (omega arith)
    ∙ ap (λ (b : Bool). same_bits t k l su sv && b) (is_true _ (outside_always (mixed_threshold t k l) (mix k l su sv)))
    ∙ and_true (same_bits t k l su sv)
