-- The two gates of an edge by their distinct feeds give the merge of document 01: the same sums, bits and scale on each setting, and
-- the same pairs that qualify. Assumes nothing.
use Rattle.std.specs.Prelude.{◌≡◌, Bool, not, ◌&&◌, ◌||◌, List, [], ◌∷◌, map, ◌≢◌, T, eqb, pos, negsuc, nat_abs, ◌+ℤ◌, ◌-ℤ◌, length, get_or}
use Rattle.std.proofs.Math.Path.{refl, sym, ap, ap₂, fun_ext}
use Rattle.std.proofs.Common.{◌∙◌, arith, leb→le}
use Rattle.std.proofs.Math.Bool.{true, false, cond, beq}
use Prim.Native.Nat.{ℕ, zero, suc, ◌^◌, ◌≤◌, ◌<◌}
use Rattle.std.proofs.Math.Dec.{eqb_refl}
use Rattle.std.proofs.Math.IntN.{ℤ, neg_ℤ, +ℤ_idl}
use Rattle.std.specs.Int.Signed.{le_z, non_neg}
use Rattle.std.proofs.lemmas.List.{length-map}
use Rattle.basics.specs.Lists.{all, below, every, keep, other}
use Rattle.basics.specs.TestLaws.{is_true, is_false, not_not, test_same, cond_case, T_and, and_true, and_assoc, ne_other}
use Rattle.basics.specs.IntegerLaws.{#, nat, ◌⊕◌, ◌⊖◌, minus, le_of, gt_of, of_le, of_gt}
use Rattle.basics.specs.SizeLaws.{size_neg, size_sub}
use Rattle.basics.specs.ListLaws.{of_each, has_each}
use Rattle.network.specs.Threshold.{Feed, negated, Gate, Assignment, sum, bit, assign}
use Rattle.network.specs.SumLaws.{sum_negated, sum_stays}
use Rattle.network.specs.Limits.{signals_of, in_scale, is_zero, weighs, weight_ok, scale_ok, board_ok}
use Rattle.network.specs.Sound.{Rise, GateOk}
use Rattle.network.specs.LimitLaws.{rise_below, zero_is, board_margins}
use Rattle.fold_theory.specs.Merge.{silent, reads, weight_of, Edge, feed_weight, among, distinct, merged_feed, merged_threshold, merged, composed}
use Rattle.fold_theory.specs.Merge.{setting, agrees_at, agrees, merge_keeps, on_dial, complement, votes_for, voter, where_on}
use Rattle.fold_theory.specs.Aligned.{where_off}
use Rattle.fold_theory.specs.Pair.{Pair, pairs, qualifies, first}
use Rattle.gate_sums.specs.Tables.{sum_at}
use Rattle.fold_theory.specs.Aligned.{Aligned, edge_thresholds, aligned, fed_by, mix, composed_bit, mixed_threshold, merged_bit, same_bits, agrees_on}
use Rattle.fold_theory.specs.Aligned.{agrees_all, mixed_weight, scale_fits, qualifies_on}
use Rattle.fold_theory.proofs.WeightLaws.{weighted, weight_zero, weight_small, weight_negated, sum_at_negated, sum_range, sum_kept, sum_split}
use Rattle.fold_theory.proofs.WeightLaws.{rise_kept, sum_setting, sum_mixed}
use Rattle.fold_theory.proofs.MarginLaws.{clears_all_lem}

-- two gates within the limits, of which one feeds the other, on a sound board
pub record EdgeOk (e : Edge) : Type 0 where
  pub on_board : T (board_ok e.board)
  pub ok_u : GateOk e.u e.gate_u
  pub ok_v : GateOk e.v e.gate_v
  pub joined : T (reads e.u e.gate_v)

-- ---- whether a gate reads a signal, by the signal's weight

-- the weights of a gate within the limits
weights_ok : {own : ℕ} {g : Gate} → GateOk own g → T (all weight_ok g.feeds)
unfolding scale_ok
weights_ok {own} {g} o = (T_and (in_scale g.threshold) (all weight_ok g.feeds) o.scaled).1

-- a signal is read if its weight is not 0
pub reads_weight : {own : ℕ} {g : Gate} → GateOk own g → (x : ℕ) → reads x g ≡ not (is_zero (weight_of x g.feeds))
unfolding reads silent
reads_weight {own} {g} o x = ap not (sym (weight_zero x g.feeds (weights_ok o)))

-- else its weight is 0
unread_weight : {own : ℕ} {g : Gate} → GateOk own g → (x : ℕ) → T (not (reads x g)) → weight_of x g.feeds ≡ pos 0
unread_weight {own} {g} o x t = zero_is (weight_of x g.feeds) (not_not (is_zero (weight_of x g.feeds)) (rw (reads_weight o x) at t))

not_or : (a b : Bool) → T (not (a || b)) → T (not a) × T (not b)
not_or true b t = absurd t
not_or false b t = (tt, t)

not_and_right : (a b : Bool) → T (not (a && b)) → T a → T (not b)
not_and_right true b t h = t
not_and_right false b t h = absurd h

-- ---- the scale

-- the first number by itself
below_first : (n : ℕ) (p : ℕ → Bool) → below (suc n) p ≡ (p 0 && below n (λ i. p (suc i)))
unfolding below
below_first zero p = sym (and_true (p 0))
below_first (suc n) p = rw (below_first n p) (and_assoc (p 0) (below n (λ i. p (suc i))) (p (suc n)))

-- 0 is on the scale, so a feed of weight 0 may be kept or not
scale_stays : (fs : List Feed) → all weight_ok (keep weighs fs) ≡ all (λ f. in_scale f.weight) fs
unfolding all keep weighs weight_ok in_scale
scale_stays [] = refl
scale_stays (f ∷ fs) = elim (is_zero f.weight) as
    (λ b. (T b → f.weight ≡ pos 0) → is_zero f.weight ≡ b
    → all weight_ok (cond (not b) (f ∷ keep weighs fs) (keep weighs fs)) ≡ (in_scale f.weight && all (λ f. in_scale f.weight) fs))
    [ true ↦ λ z q. rw (z tt) (scale_stays fs) | false ↦ λ z q. rw (q, and_true (in_scale f.weight), scale_stays fs) ]
    (zero_is f.weight) refl

-- the same test by number
scale_below : (k l : ℕ) (f g : ℕ → ℤ) (ds : List ℕ) → all (λ h. in_scale h.weight) (weighted (λ x. mix k l (f x) (g x)) ds)
    ≡ below (length (map f ds)) (λ i. in_scale (mix k l (get_or (map f ds) i (pos 0)) (get_or (map g ds) i (pos 0))))
unfolding all
scale_below k l f g [] = unfold below in refl
scale_below k l f g (x ∷ ds) = rw (
  below_first (length (map f ds)) (λ i. in_scale (mix k l (get_or (map f (x ∷ ds)) i (pos 0)) (get_or (map g (x ∷ ds)) i (pos 0)))),
  scale_below k l f g ds,
)

-- the merged gate's scale
pub scale_ok_fits : (e : Edge) (k l : ℕ) → scale_ok (merged e k l) ≡ scale_fits (aligned e) k l
unfolding scale_ok scale_fits merged merged_feed merged_threshold mixed_threshold mixed_weight aligned edge_thresholds
scale_ok_fits e k l =
    let fits = scale_below k l (λ x. weight_of x (voter e).feeds) (λ x. weight_of x e.gate_v.feeds) (distinct e) in
    ap (λ (b : Bool). in_scale (mixed_threshold (aligned e).thresholds k l) && b) (scale_stays (map (merged_feed e k l) (distinct e)) ∙ fits)

-- ---- lengths and sizes

-- one weight for each distinct feed
pub us_length : (e : Edge) → length (aligned e).us ≡ length (distinct e)
unfolding aligned
us_length e = length-map (distinct e) (λ x. weight_of x (voter e).feeds)

pub vs_length : (e : Edge) → length (aligned e).vs ≡ length (distinct e)
unfolding aligned
vs_length e = length-map (distinct e) (λ x. weight_of x e.gate_v.feeds)

-- the weights of a gate by signal, in any order of signals
weights_small : {own : ℕ} {g : Gate} → GateOk own g → (ds : List ℕ) (i : ℕ) → nat_abs (get_or (map (λ x. weight_of x g.feeds) ds) i (pos 0)) ≤ 1000000
weights_small o [] i = omega arith
weights_small {own} {g} o (x ∷ ds) zero = weight_small x g.feeds (weights_ok o)
weights_small o (x ∷ ds) (suc i) = weights_small o ds i

-- those of its complement
weights_other : {own : ℕ} {g : Gate} → GateOk own g → (ds : List ℕ) (i : ℕ)
    → nat_abs (get_or (map (λ x. weight_of x (map negated g.feeds)) ds) i (pos 0)) ≤ 1000000
weights_other o [] i = omega arith
weights_other {own} {g} o (x ∷ ds) zero = rw (weight_negated x g.feeds, size_neg) (weight_small x g.feeds (weights_ok o))
weights_other o (x ∷ ds) (suc i) = weights_other o ds i

-- the threshold of a gate
threshold_small : {own : ℕ} {g : Gate} → GateOk own g → nat_abs g.threshold ≤ 1000000
unfolding scale_ok in_scale
threshold_small {own} {g} o = leb→le (nat_abs g.threshold) 1000000 (T_and (in_scale g.threshold) (all weight_ok g.feeds) o.scaled).0

-- weights of at most 1,000,000 in size, thresholds of at most 2,000,000
pub record AlignedOnScale (a : Aligned) : Type 0 where
  pub us : (i : ℕ) → nat_abs (get_or a.us i (pos 0)) ≤ 1000000
  pub vs : (i : ℕ) → nat_abs (get_or a.vs i (pos 0)) ≤ 1000000
  pub own : nat_abs a.thresholds.own ≤ 2000000
  pub on : nat_abs a.thresholds.on ≤ 2000000
  pub off : nat_abs a.thresholds.off ≤ 2000000

-- the voter's weights are u's or minus u's
voter_weights : (e : Edge) → GateOk e.u e.gate_u → (ds : List ℕ) (i : ℕ) → nat_abs (get_or (map (λ x. weight_of x (voter e).feeds) ds) i (pos 0)) ≤ 1000000
unfolding voter complement
voter_weights e o ds i =
    elim (votes_for e) as (λ b. nat_abs (get_or (map (λ x. weight_of x (cond b e.gate_u (complement e.gate_u)).feeds) ds) i (pos 0)) ≤ 1000000) [
      | true ↦ weights_small o ds i
      | false ↦ weights_other o ds i
    ]

voter_threshold : (e : Edge) → GateOk e.u e.gate_u → nat_abs (voter e).threshold ≤ 2000000
unfolding voter complement
voter_threshold e o = elim (votes_for e) as (λ b. nat_abs (cond b e.gate_u (complement e.gate_u)).threshold ≤ 2000000) [
  | true ↦ omega (arith, threshold_small o)
  | false ↦ omega (arith, threshold_small o, size_sub (pos 1) e.gate_u.threshold)
]

-- the two gates are small with u itself as the gate that votes
pub fed_small : (e : Edge) → EdgeOk e → AlignedOnScale (fed_by e)
fed_small e ok =
    let v = threshold_small ok.ok_v in
    let b = weight_small e.u e.gate_v.feeds (weights_ok ok.ok_v) in
    record {
      us = weights_small ok.ok_u (distinct e);
      vs = weights_small ok.ok_v (distinct e);
      own = omega (arith, threshold_small ok.ok_u);
      on = omega (arith, size_sub e.gate_v.threshold (feed_weight e));
      off = omega arith;
    }

-- and with the one that votes
pub aligned_small : (e : Edge) → EdgeOk e → AlignedOnScale (aligned e)
unfolding aligned edge_thresholds where_on where_off
aligned_small e ok =
    let f = fed_small e ok in
    record {
      us = voter_weights e ok.ok_u (distinct e);
      vs = f.vs;
      own = voter_threshold e ok.ok_u;
      on = cond_case (λ z. nat_abs z ≤ 2000000) (votes_for e) (λ t. f.on) (λ t. f.off);
      off = cond_case (λ z. nat_abs z ≤ 2000000) (votes_for e) (λ t. f.off) (λ t. f.on);
    }

-- ---- the weight b, as it moves v's threshold

-- b counts where u is 1
vote_moved : (c : Bool) (t b y : ℤ) → le_z t (cond c b (pos 0) +ℤ y) ≡ le_z (cond c (t -ℤ b) t) y
vote_moved true t b y = test_same (le_z t (b +ℤ y)) (le_z (t -ℤ b) y)
    (λ h. of_le (# t ⊖ # b) (# y) (omega (arith, le_of (# t) (# b ⊕ # y) h)))
    (λ h. of_le (# t) (# b ⊕ # y) (omega (arith, le_of (# t ⊖ # b) (# y) h)))
vote_moved false t b y = ap (le_z t) (+ℤ_idl y)

-- b is not negative
pub vote_for : (t b : ℤ) → non_neg b ≡ le_z (t -ℤ b) t
vote_for t (pos n) = sym (is_true (le_z (t -ℤ pos n) t) (of_le (# t ⊖ nat n) (# t) (omega arith)))
vote_for t (negsuc n) = sym (is_false (le_z (t -ℤ negsuc n) t) (of_gt (# t ⊕ nat (suc n)) (# t) (omega arith)))

-- the complement is 1 exactly where the gate is 0
complement_le : (t s : ℤ) → le_z (pos 1 -ℤ t) (neg_ℤ s) ≡ not (le_z t s)
complement_le t s = test_same (le_z (pos 1 -ℤ t) (neg_ℤ s)) (not (le_z t s))
    (λ h. of_gt (# t) (# s) (omega (arith, le_of (nat 1 ⊖ # t) (minus (# s)) h)))
    (λ h. of_le (nat 1 ⊖ # t) (minus (# s)) (omega (arith, gt_of (# t) (# s) h)))

complement_bit : (ρ : Assignment) (g : Gate) → bit ρ (complement g) ≡ not (bit ρ g)
unfolding bit complement
complement_bit ρ g = ap (le_z (pos 1 -ℤ g.threshold)) (sum_negated ρ g.feeds) ∙ complement_le g.threshold (sum ρ g.feeds)

cond_not : {A : Type 0} (b : Bool) (x y : A) → cond b x y ≡ cond (not b) y x
cond_not true x y = refl
cond_not false x y = refl

-- ---- an edge within the limits

module _ (e : Edge) (ok : EdgeOk e) where
  -- u is a lower signal than v
  pub edge_rises : e.u < e.v
  unfolding reads silent
  edge_rises = has_each (λ s. s < e.v) (signals_of e.gate_v.feeds) (rise_below 0 e.v (signals_of e.gate_v.feeds) ok.ok_v.rise) e.u ok.joined

  -- u is no distinct feed
  pub u_apart : T (not (among e e.u))
  unfolding among reads silent other
  u_apart =
      let h = of_each (other e.u) (λ s. s < e.u) (λ s (l : s < e.u). ne_other e.u s (λ (q : s ≡ e.u). omega arith)) (signals_of e.gate_u.feeds)
      (rise_below 0 e.u (signals_of e.gate_u.feeds) ok.ok_u.rise) in
      rw (is_true (all (other e.u) (signals_of e.gate_u.feeds)) h, is_true (eqb e.u e.u) (eqb_refl e.u)) tt

  -- a signal that is no distinct feed has no weight in u, and none in v unless it is u
  apart_u : (x : ℕ) → T (not (among e x)) → weight_of x e.gate_u.feeds ≡ pos 0
  unfolding among
  apart_u x t = unread_weight ok.ok_u x (not_or (reads x e.gate_u) (other e.u x && reads x e.gate_v) t).0

  apart_v : (x : ℕ) → x ≢ e.u → T (not (among e x)) → weight_of x e.gate_v.feeds ≡ pos 0
  unfolding among
  apart_v x h t =
      unread_weight ok.ok_v x
      (not_and_right (other e.u x) (reads x e.gate_v) (not_or (reads x e.gate_u) (other e.u x && reads x e.gate_v) t).1 (ne_other e.u x h))

  -- the distinct feeds rise
  pub distinct_rise : Rise 0 e.v (distinct e)
  unfolding distinct
  distinct_rise = rise_kept (among e) 0 e.v e.v (omega arith)

  -- ---- sums on a setting

  -- any weights on the distinct feeds
  sum_of : (w : ℕ → ℤ) (s : ℕ) → sum (setting (distinct e) s) (weighted w (distinct e)) ≡ sum_at (map w (distinct e)) s
  sum_of w s = sum_setting (setting (distinct e) s) w 0 e.v (distinct e) s distinct_rise (λ x l. refl)

  -- u's sum
  sum_u : (s : ℕ) → sum (setting (distinct e) s) e.gate_u.feeds ≡ sum_at (map (λ x. weight_of x e.gate_u.feeds) (distinct e)) s
  unfolding distinct
  sum_u s =
      let ρ = setting (distinct e) s in
      let w : ℕ → ℤ = λ x. weight_of x e.gate_u.feeds in
      sym (sum_range ρ w 0 e.v e.u e.gate_u.feeds ok.ok_u.rise (omega (arith, edge_rises)) (λ x l. refl))
      ∙ sum_kept ρ ρ w (among e) 0 e.v (λ x l t. refl) (λ x l t. apart_u x t)
      ∙ sum_of w s

  -- the voter's
  sum_voter : (s : ℕ) → sum (setting (distinct e) s) (voter e).feeds ≡ sum_at (aligned e).us s
  unfolding voter complement aligned
  sum_voter s = elim (votes_for e) as
      (λ b. sum (setting (distinct e) s) (cond b e.gate_u (complement e.gate_u)).feeds
      ≡ sum_at (map (λ x. weight_of x (cond b e.gate_u (complement e.gate_u)).feeds) (distinct e)) s) [
        | true ↦ sum_u s
        | false ↦ sum_negated (setting (distinct e) s) e.gate_u.feeds ∙ ap neg_ℤ (sum_u s)
            ∙ sym (sum_at_negated e.gate_u.feeds (distinct e) s)
      ]

  -- v's sum where u has the bit b
  sum_v : (s : ℕ) (b : Bool) → sum (assign (setting (distinct e) s) e.u b) e.gate_v.feeds ≡ cond b (feed_weight e) (pos 0) +ℤ sum_at (aligned e).vs s
  unfolding distinct aligned
  sum_v s b =
      let ρ = setting (distinct e) s in
      let w : ℕ → ℤ = λ x. weight_of x e.gate_v.feeds in
      sym (sum_range (assign ρ e.u b) w 0 e.v e.v e.gate_v.feeds ok.ok_v.rise (omega arith) (λ x l. refl))
      ∙ sum_split ρ w (among e) e.u b 0 e.v u_apart apart_v (omega arith) (omega (arith, edge_rises))
      ∙ ap (λ (z : ℤ). cond b (feed_weight e) (pos 0) +ℤ z) (sum_of w s)

  -- ---- bits on a setting

  -- the composed pair by the voter's bit
  composed_voter : (s : ℕ)
      → composed (setting (distinct e) s) e ≡ le_z (cond (bit (setting (distinct e) s) (voter e)) (where_on e) (where_off e)) (sum_at (aligned e).vs s)
  unfolding composed voter where_on where_off
  composed_voter s =
      let ρ = setting (distinct e) s in
      let y = sum_at (aligned e).vs s in
      let t = e.gate_v.threshold in
      let m = t -ℤ feed_weight e in
      let c = bit ρ e.gate_u in
      let put : bit (assign ρ e.u c) e.gate_v ≡ le_z t (cond c (feed_weight e) (pos 0) +ℤ y) = unfold bit in ap (le_z t) (sum_v s c) in
      put ∙ vote_moved c t (feed_weight e) y
      ∙ (elim (votes_for e) as (λ b. le_z (cond c m t) y ≡ le_z (cond (bit ρ (cond b e.gate_u (complement e.gate_u))) (cond b m t) (cond b t m)) y) [
        | true ↦ refl
        | false ↦ ap (λ (z : ℤ). le_z z y) (cond_not c m t ∙ ap (λ (b : Bool). cond b t m) (sym (complement_bit ρ e.gate_u)))
      ])

  -- the composed pair
  composed_on : (s : ℕ) → composed (setting (distinct e) s) e ≡ composed_bit (aligned e).thresholds (sum_at (aligned e).us s) (sum_at (aligned e).vs s)
  unfolding bit composed_bit aligned edge_thresholds
  composed_on s =
      let ρ = setting (distinct e) s in
      let y = sum_at (aligned e).vs s in
      composed_voter s ∙ ap (λ (z : ℤ). le_z (cond (le_z (voter e).threshold z) (where_on e) (where_off e)) y) (sum_voter s)

  -- the merged gate
  merged_on : (k l s : ℕ)
      → bit (setting (distinct e) s) (merged e k l) ≡ merged_bit (aligned e).thresholds k l (sum_at (aligned e).us s) (sum_at (aligned e).vs s)
  unfolding bit merged merged_feed merged_threshold merged_bit mixed_threshold aligned edge_thresholds
  merged_on k l s =
      let f : ℕ → ℤ = λ x. weight_of x (voter e).feeds in
      let g : ℕ → ℤ = λ x. weight_of x e.gate_v.feeds in
      let stay = sum_stays (setting (distinct e) s) (map (merged_feed e k l) (distinct e)) in
      ap (le_z (mixed_threshold (aligned e).thresholds k l)) (stay ∙ sum_of (λ x. mix k l (f x) (g x)) s ∙ sum_mixed k l f g (distinct e) s)

  -- ---- agreement, and the pairs that qualify

  -- on one setting
  pub agrees_at_on : (k l s : ℕ) → agrees_at e k l s ≡ agrees_on (aligned e) k l s
  unfolding agrees_at agrees_on same_bits
  agrees_at_on k l s = ap₂ beq (merged_on k l s) (composed_on s)

  -- on every setting
  pub agrees_all_lem : (k l : ℕ) → agrees e k l ≡ agrees_all (aligned e) k l
  unfolding agrees agrees_all aligned
  agrees_all_lem k l =
      ap₂ (λ (n : ℕ) (p : ℕ → Bool). below (2 ^ n) p) (sym (length-map (distinct e) (λ x. weight_of x (voter e).feeds))) (fun_ext (agrees_at_on k l))

  -- the pairs that qualify
  qualifies_on_lem : (p : Pair) → qualifies e p ≡ qualifies_on (aligned e) p
  unfolding qualifies qualifies_on
  qualifies_on_lem p =
      let some = (board_margins e.board ok.on_board).1 in
      rw (scale_ok_fits e p.k p.l, agrees_all_lem p.k p.l, clears_all_lem e p.k p.l some)
      (last_swap (on_dial p.k) (on_dial p.l) (scale_fits (aligned e) p.k p.l) (merge_keeps e p.k p.l) (agrees_all (aligned e) p.k p.l))
    where
      last_swap : (a b c x y : Bool) → every (a ∷ b ∷ c ∷ x ∷ y ∷ []) ≡ every (a ∷ b ∷ c ∷ (y && x) ∷ [])
      last_swap a b c x y = unfold every in ap (λ (z : Bool). a && (b && (c && z))) (swap x y)
        where
          swap : (x y : Bool) → x && (y && true) ≡ (y && x) && true
          swap true true = refl
          swap true false = refl
          swap false true = refl
          swap false false = refl

  -- the first of them
  pub first_on : first (qualifies e) pairs 16 ≡ first (qualifies_on (aligned e)) pairs 16
  first_on = ap (λ (q : Pair → Bool). first q pairs 16) (fun_ext qualifies_on_lem)
