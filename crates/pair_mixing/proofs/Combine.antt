-- The feeds of the merged gate, as they are listed one by one. Assumes nothing.
use mathlib.Core.Path.{◌≡◌, refl, sym, ◌∙◌}
use mathlib.Core.Bool.{true, false, not, cond}
use mathlib.Core.List.{List, [], ◌∷◌, ◌++◌, map}
use Prim.Native.Nat.{ℕ, ◌+◌, ◌≤◌, ◌<◌}
use native.Mathlib.Omega.{arith}
use lib.IntN.{ℤ, pos}
use lib.ListN.{length, get_or, set, replicate, length-append, length-map}
use lib.Seq.{get_or-take}
use Rattle.basics.specs.Lists.{keep, range, places}
use Rattle.basics.specs.ListLaws.{length_keep, length_range, range_more}
use Rattle.network.specs.Threshold.{Feed}
use Rattle.network.specs.Limits.{signals_of, is_zero, weighs}
use Rattle.network.specs.Record.{gate_record}
use Rattle.network.specs.declared.GateRecord.{GateRecord}
use Rattle.fold_theory.specs.Aligned.{mix, mixed_threshold, mixed_weight}
use Rattle.pair_theory.specs.Alignments.{aligned_in, mixed_feed, merged_of, Mergeable}
use Rattle.pair_theory.proofs.AlignmentLaws.{gate_places_lem}
use Rattle.pair_mixing.specs.Mixing.{Mixable}
use Rattle.basics.specs.PlaceLaws.{keep_last, map_last, places_none, placed_last}
use Rattle.pair_theory.specs.declared.Alignment.{Alignment}

module _ (a : Alignment) (k l : ℕ) where
  -- the merged gate's feeds among the first i distinct feeds
  abbrev pub feeds_to : ℕ → List Feed
  feeds_to i = keep weighs (map (mixed_feed a k l) (range 0 i))

  -- ---- the mixes

  -- a mix is made of the two weights listed
  pub mix_at : (i : ℕ) → i < a.count → mixed_weight (aligned_in a) k l i ≡ mix k l (get_or a.us i (pos 0)) (get_or a.vs i (pos 0))
  unfolding mixed_weight aligned_in
  mix_at i h = rw (get_or-take a.count a.us i (pos 0) h, get_or-take a.count a.vs i (pos 0) h)

  -- each weight, and the threshold, as the mix that the code makes
  pub weight_mixable : Mergeable a k l → (i : ℕ) → Mixable k l (get_or a.us i (pos 0)) (get_or a.vs i (pos 0))
  weight_mixable m i =
      let fair = m.searchable.fair in
      record { dial = m.dial; x_small = omega (arith, fair.us_small i); y_small = omega (arith, fair.vs_small i) }

  pub threshold_mixable : Mergeable a k l → Mixable k l a.thresholds.own a.thresholds.on
  threshold_mixable m =
      let near = m.searchable.fair.near in
      record { dial = m.dial; x_small = omega (arith, near.own_small); y_small = omega (arith, near.on_small) }

  -- ---- the lists

  -- the merged gate's feeds among the first i distinct feeds: their number, signals and weights
  pub record Combined (i fanin : ℕ) (signals : List ℕ) (weights : List ℤ) : Type 0 where
    pub counted : fanin ≡ length (feeds_to i)
    pub named : signals ≡ places 16 0 (map (λ f. f.signal) (feeds_to i))
    weighed : weights ≡ places 16 (pos 0) (map (λ f. f.weight) (feeds_to i))

  -- among none there are none
  pub combined_none : Combined 0 0 (replicate 16 0) (replicate 16 (pos 0))
  unfolding keep range
  combined_none = record { counted = refl; named = places_none 16 0; weighed = places_none 16 (pos 0) }

  -- among i there are at most i
  pub combined_few : (i fanin : ℕ) (signals : List ℕ) (weights : List ℤ) → Combined i fanin signals weights → fanin ≤ i
  combined_few i fanin signals weights c =
      let kept = length_keep weighs (map (mixed_feed a k l) (range 0 i)) in
      omega (arith, c.counted, kept, length-map (range 0 i) (mixed_feed a k l), length_range 0 i)

  -- whether distinct feed i gives one more
  feeds_more : (i : ℕ) → feeds_to (i + 1) ≡ cond (weighs (mixed_feed a k l i)) (feeds_to i ++ (mixed_feed a k l i ∷ [])) (feeds_to i)
  feeds_more i =
      let q : 0 + i ≡ i = omega arith in
      rw (range_more 0 i, q, map_last (mixed_feed a k l) (range 0 i) i)
      (keep_last weighs (map (mixed_feed a k l) (range 0 i)) (mixed_feed a k l i))

  module _ (i fanin : ℕ) (signals : List ℕ) (weights : List ℤ) (c : Combined i fanin signals weights) (w : ℤ) (w_is : w ≡ mixed_weight (aligned_in a) k l i) where
    stay_is : weighs (mixed_feed a k l i) ≡ not (is_zero w)
    unfolding weighs mixed_feed
    stay_is = rw w_is

    -- a sum of 0 drops the feed
    pub combined_drop : is_zero w ≡ true → Combined (i + 1) fanin signals weights
    combined_drop h =
        let q : feeds_to (i + 1) ≡ feeds_to i = feeds_more i ∙ rw (stay_is, h) in
        record { counted = rw q c.counted; named = rw q c.named; weighed = rw q c.weighed }

    -- any other is stored
    pub combined_store : is_zero w ≡ false → Combined (i + 1) (fanin + 1) (set signals fanin (get_or a.signals i 0)) (set weights fanin w)
    combined_store h =
        let q : feeds_to (i + 1) ≡ feeds_to i ++ (mixed_feed a k l i ∷ []) = feeds_more i ∙ rw (stay_is, h) in
        record {
          counted = rw q (omega (arith, c.counted, length-append (feeds_to i) (mixed_feed a k l i ∷ [])));
          named = rw q (placed_last 16 0 (λ f. f.signal) (feeds_to i) (mixed_feed a k l i) fanin signals c.named c.counted
              (get_or a.signals i 0) (unfold mixed_feed in refl));
          weighed = rw q (placed_last 16 (pos 0) (λ f. f.weight) (feeds_to i) (mixed_feed a k l i) fanin weights c.weighed c.counted
              w (unfold mixed_feed in w_is));
        }

  -- among all: the merged gate
  pub combined_all : (fanin : ℕ) (signals : List ℕ) (weights : List ℤ) → Combined a.count fanin signals weights
      → ◌≡◌ {A = GateRecord} (record { fanin = fanin; threshold = mixed_threshold a.thresholds k l; signals = signals; weights = weights })
      (gate_record (merged_of a k l))
  unfolding merged_of signals_of
  combined_all fanin signals weights c =
      (λ j. record { fanin = c.counted j; threshold = mixed_threshold a.thresholds k l; signals = c.named j; weights = c.weighed j })
      ∙ sym (gate_places_lem (merged_of a k l))
