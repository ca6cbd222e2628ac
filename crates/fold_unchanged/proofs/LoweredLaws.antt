-- The pair of two gates depends only on what the pair search works on, and that is the same after another gate is gone which neither of
-- them reads: lowered signals keep the order of the distinct feeds, and their weights. Assumes nothing.
use Rattle.std.specs.Prelude.{◌≡◌, Bool, ◌≢◌, leb, ℤ}
use Rattle.std.proofs.Math.Path.{refl, sym, ap, subst}
use Rattle.std.proofs.Common.{ap₂, ◌∙◌, add-one, eqb→eq}
use Rattle.std.proofs.Math.Bool.{true, false, not, cond}
use mathlib.Core.List.{List, [], ◌∷◌, ◌++◌, map, map-append}
use Prim.Native.Nat.{ℕ, zero, suc, ◌+◌}
use native.Mathlib.Omega.{arith}
use borrow.Author.Tests.{eqb-true, eqb-false}
use Rattle.std.proofs.Math.Dec.{T, eqb, eqb_refl}
use Rattle.std.proofs.Math.IntN.{neg_ℤ}
use Rattle.std.specs.Int.Signed.{non_neg}
use Rattle.basics.specs.Lists.{keep, range, other, Each}
use Rattle.basics.specs.TestLaws.{is_true, test_same, and_false_right}
use Rattle.basics.specs.ListLaws.{range_more, each_imp, kept}
use Rattle.basics.specs.PlaceLaws.{keep_last}
use Rattle.basics.specs.Refusals.{Answer, ◌else◌, checks}
use Rattle.network.specs.Threshold.{Feed, Gate}
use Rattle.network.specs.Limits.{signals_of, is_zero}
use Rattle.network.specs.Changes.{lowered, lowered_feed, lowered_gate}
use Rattle.network.specs.ChangeLaws.{lowered_low, lowered_high, lowered_suc, lowered_inj}
use Rattle.network.specs.Sound.{GateOk}
use Rattle.fold_theory.specs.Merge.{Edge, silent, reads, weight_of, feed_weight, among, distinct, complement, votes_for, voter, where_on, narrow}
use Rattle.fold_theory.specs.Pair.{Pair, pair_tests, pair_of}
use Rattle.fold_theory.specs.Aligned.{where_off, edge_thresholds, aligned}
use Rattle.fold_theory.proofs.AlignedLaws.{EdgeOk, reads_weight, us_length, first_on}
use Rattle.fold_theory.proofs.LowerLaws.{DoesNotRead, free_silent}
use Rattle.fold_theory.proofs.SoundLaws.{lowered_ok}
use Rattle.fold_theory.proofs.WeightLaws.{weight_negated}
use Rattle.fold_unchanged.specs.Unchanged.{lowered_edge, NeitherReads, pair_of_aligned}

-- ---- what is kept of the signals below n
keep_next : (p : ℕ → Bool) (n : ℕ) → keep p (range 0 (suc n)) ≡ cond (p n) (keep p (range 0 n) ++ (n ∷ [])) (keep p (range 0 n))
keep_next p n = ap (keep p) (ap (range 0) (sym (add-one n)) ∙ range_more 0 n
    ∙ ap (λ (k : ℕ). range 0 n ++ (k ∷ [])) (let e : 0 + n ≡ n = omega arith in e)) ∙ keep_last p (range 0 n) n

module _ (gone : ℕ) where
  -- by p before, and by q after
  module _ (p q : ℕ → Bool) (none : p gone ≡ false) (same : (s : ℕ) → s ≢ gone → q (lowered gone s) ≡ p s) where
    keep_lowered : (n : ℕ) → keep q (range 0 (lowered gone n)) ≡ map (lowered gone) (keep p (range 0 n))
    keep_lowered zero = rw (lowered_low gone 0 (omega arith)) (unfold range keep in refl)
    keep_lowered (suc n) = elim (eqb n gone) as
        (λ b. eqb n gone ≡ b → keep q (range 0 (lowered gone (suc n))) ≡ map (lowered gone) (keep p (range 0 (suc n)))) [
          | true ↦ λ t.
              let e = eqb-true n gone t in
              let falls : lowered gone (suc n) ≡ n = lowered_high gone (suc n) (omega arith) ∙ omega arith in
              let stays = lowered_low gone n (omega arith) in
              ap (λ (m : ℕ). keep q (range 0 m)) (falls ∙ sym stays) ∙ keep_lowered n
              ∙ sym (ap (map (lowered gone)) (keep_next p n ∙ ap (λ (b : Bool). cond b (keep p (range 0 n) ++ (n ∷ [])) (keep p (range 0 n))) (ap p e ∙ none)))
          | false ↦ λ t.
              let differs = eqb-false n gone t in
              ap (λ (m : ℕ). keep q (range 0 m)) (lowered_suc gone n differs) ∙ keep_next q (lowered gone n)
              ∙ rw (same n differs, keep_lowered n) (both (p n) (keep p (range 0 n)) n) ∙ sym (ap (map (lowered gone)) (keep_next p n))
        ] refl
      where
        both : (b : Bool) (ss : List ℕ) (s : ℕ) → cond b (map (lowered gone) ss ++ (lowered gone s ∷ [])) (map (lowered gone) ss)
            ≡ map (lowered gone) (cond b (ss ++ (s ∷ [])) ss)
        both true ss s = sym (map-append (lowered gone) ss (s ∷ []))
        both false ss s = refl

  -- ---- one gate
  eqb_lowered : (a b : ℕ) → a ≢ gone → b ≢ gone → eqb (lowered gone a) (lowered gone b) ≡ eqb a b
  eqb_lowered a b h k = test_same (eqb (lowered gone a) (lowered gone b)) (eqb a b)
      (λ t. let e = lowered_inj gone a b h k (eqb→eq (lowered gone a) (lowered gone b) t) in rw e (eqb_refl b))
      (λ t. let e = eqb→eq a b t in rw e (eqb_refl (lowered gone b)))

  -- the weight of a signal
  weight_lowered : (x : ℕ) (fs : List Feed) → x ≢ gone → Each (λ s. s ≢ gone) (signals_of fs)
      → weight_of (lowered gone x) (map (lowered_feed gone) fs) ≡ weight_of x fs
  unfolding weight_of lowered_feed signals_of
  weight_lowered x [] h r = refl
  weight_lowered x (f ∷ fs) h r = rw (eqb_lowered f.signal x r.0 h, weight_lowered x fs h r.1)

  -- whether it is read
  pub reads_lowered : {own : ℕ} (x : ℕ) (g : Gate) → GateOk own g → x ≢ gone → DoesNotRead gone g → reads (lowered gone x) (lowered_gate gone g) ≡ reads x g
  unfolding lowered_gate
  reads_lowered {own} x g ok h r =
      reads_weight (lowered_ok gone own g r ok) (lowered gone x) ∙ ap (λ (z : ℤ). not (is_zero z)) (weight_lowered x g.feeds h r) ∙ sym (reads_weight ok x)

  reads_gone : (g : Gate) → DoesNotRead gone g → reads gone g ≡ false
  unfolding reads
  reads_gone g r = ap not (is_true (silent gone g) (free_silent gone g r))

  -- weights in the order of signals
  map_lowered : (f g : ℕ → ℤ) → ((s : ℕ) → s ≢ gone → g (lowered gone s) ≡ f s) → (ss : List ℕ) → Each (λ s. s ≢ gone) ss
      → map g (map (lowered gone) ss) ≡ map f ss
  map_lowered f g h [] r = refl
  map_lowered f g h (s ∷ ss) r = rw (h s r.0, map_lowered f g h ss r.1)

  -- ---- two gates
  module _ (e : Edge) (ok : EdgeOk e) (apart : NeitherReads gone e) where
    -- the distinct feeds, in the same order
    among_gone : among e gone ≡ false
    unfolding among
    among_gone = rw (reads_gone e.gate_u apart.u_free, reads_gone e.gate_v apart.v_free) (and_false_right (other e.u gone) false refl)

    among_lowered : (s : ℕ) → s ≢ gone → among (lowered_edge gone e) (lowered gone s) ≡ among e s
    unfolding among lowered_edge other
    among_lowered s h = rw (
      reads_lowered s e.gate_u ok.ok_u h apart.u_free,
      reads_lowered s e.gate_v ok.ok_v h apart.v_free,
      eqb_lowered s e.u h apart.u_other,
    )

    distinct_lowered : distinct (lowered_edge gone e) ≡ map (lowered gone) (distinct e)
    unfolding distinct lowered_edge
    distinct_lowered = keep_lowered (among e) (among (lowered_edge gone e)) among_gone among_lowered e.v

    distinct_others : Each (λ s. s ≢ gone) (distinct e)
    unfolding distinct
    distinct_others = each_imp (λ s. T (among e s)) (λ s. s ≢ gone) (λ s t q. subst T (ap (among e) q ∙ among_gone) t)
        (distinct e) (kept (among e) (range 0 e.v))

    -- b, and with it the gate that votes
    feed_weight_lowered : feed_weight (lowered_edge gone e) ≡ feed_weight e
    unfolding lowered_edge lowered_gate
    feed_weight_lowered = weight_lowered e.u e.gate_v.feeds apart.u_other apart.v_free

    votes_for_lowered : votes_for (lowered_edge gone e) ≡ votes_for e
    unfolding votes_for
    votes_for_lowered = ap non_neg feed_weight_lowered

    voter_lowered : (s : ℕ) → s ≢ gone → weight_of (lowered gone s) (voter (lowered_edge gone e)).feeds ≡ weight_of s (voter e).feeds
    unfolding voter complement lowered_edge lowered_gate
    voter_lowered s h =
        let g = lowered_gate gone e.gate_u in
        let same = weight_lowered s e.gate_u.feeds h apart.u_free in
        rw votes_for_lowered (elim (votes_for e) as
        (λ b. weight_of (lowered gone s) (cond b g (complement g)).feeds ≡ weight_of s (cond b e.gate_u (complement e.gate_u)).feeds) [
          | true ↦ same
          | false ↦ weight_negated (lowered gone s) g.feeds ∙ ap neg_ℤ same ∙ sym (weight_negated s e.gate_u.feeds)
        ])

    thresholds_lowered : edge_thresholds (lowered_edge gone e) ≡ edge_thresholds e
    unfolding edge_thresholds voter complement where_on where_off lowered_edge lowered_gate
    thresholds_lowered =
        let g = lowered_gate gone e.gate_u in
        let own : (voter (lowered_edge gone e)).threshold ≡ (voter e).threshold = rw votes_for_lowered (elim (votes_for e) as
        (λ b. (cond b g (complement g)).threshold ≡ (cond b e.gate_u (complement e.gate_u)).threshold) [ true ↦ refl | false ↦ refl ]) in
        let on : where_on (lowered_edge gone e) ≡ where_on e = rw (votes_for_lowered, feed_weight_lowered) in
        let off : where_off (lowered_edge gone e) ≡ where_off e = rw (votes_for_lowered, feed_weight_lowered) in
        λ x. record { own = own x; on = on x; off = off x; board = e.board }

    -- what the pair search works on: weights by distinct feed, and thresholds
    aligned_lowered : aligned (lowered_edge gone e) ≡ aligned e
    unfolding aligned
    aligned_lowered =
        let at : (f g : ℕ → ℤ) → ((s : ℕ) → s ≢ gone → g (lowered gone s) ≡ f s) → map g (distinct (lowered_edge gone e)) ≡ map f (distinct e)
        = λ f g h. ap (map g) distinct_lowered ∙ map_lowered f g h (distinct e) distinct_others in
        λ x. record {
          us = at (λ s. weight_of s (voter e).feeds) (λ s. weight_of s (voter (lowered_edge gone e)).feeds) voter_lowered x;
          vs = at (λ s. weight_of s e.gate_v.feeds) (λ s. weight_of s (lowered_edge gone e).gate_v.feeds)
              (λ s h. unfold lowered_edge lowered_gate in weight_lowered s e.gate_v.feeds h apart.v_free) x;
          thresholds = thresholds_lowered x;
        }

    -- the two are within the limits, and one feeds the other
    edge_ok_lowered : EdgeOk (lowered_edge gone e)
    unfolding lowered_edge
    edge_ok_lowered = record {
      on_board = ok.on_board;
      ok_u = lowered_ok gone e.u e.gate_u apart.u_free ok.ok_u;
      ok_v = lowered_ok gone e.v e.gate_v apart.v_free ok.ok_v;
      joined = subst T (sym (reads_lowered e.u e.gate_v ok.ok_v apart.u_other apart.v_free)) ok.joined;
    }

-- ---- the pair depends on nothing else
pub pair_of_aligned_lem : (e : Edge) → EdgeOk e → pair_of e ≡ pair_of_aligned (aligned e)
unfolding pair_of pair_tests narrow pair_of_aligned
pair_of_aligned_lem e ok = ap₂ (λ (n : ℕ) (a : Answer Pair). checks ((leb n 16 else 7) ∷ []) a) (sym (us_length e)) (first_on e ok)

-- so it is the same, or its refusal, after another gate is gone
pub pair_of_lowered : (gone : ℕ) (e : Edge) → EdgeOk e → NeitherReads gone e → pair_of (lowered_edge gone e) ≡ pair_of e
pair_of_lowered gone e ok apart =
    pair_of_aligned_lem (lowered_edge gone e) (edge_ok_lowered gone e ok apart) ∙ ap pair_of_aligned (aligned_lowered gone e ok apart) ∙ sym (pair_of_aligned_lem e ok)
