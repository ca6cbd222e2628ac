-- Laws of the record of two gates by their distinct feeds: what it stands for, and that its merged gate is that of document 01.
-- Assumes nothing.
use Rattle.std.specs.Prelude.{◌≡◌, refl, true, false, List, [], ◌∷◌, map, ℕ, ◌≤◌, ◌<◌, ℤ, pos, nat_abs, neg_ℤ, length, get_or, take}
use Rattle.std.proofs.Common.{sym, ap, ap₂, ◌∙◌, arith}
use Rattle.std.proofs.Math.Decide.{dec_lt}
use Rattle.std.specs.Int.Signed.{le_z}
use Rattle.std.proofs.Math.ListN
use Rattle.std.proofs.lemmas.List.{length-map}
use Rattle.std.proofs.Math.ListN.{get_or-eq_default}
use Rattle.basics.specs.Lists.{keep, tab, places}
use Rattle.basics.specs.SizeLaws.{SizesWithin}
use Rattle.basics.specs.ListLaws.{tab_of, tab_same}
use Rattle.network.specs.Threshold.{Feed, negated, Gate}
use Rattle.network.specs.Limits.{signals_of, weighs}
use Rattle.network.specs.Record.{no_feed, gate_record}
use Rattle.fold_theory.specs.Merge.{Edge, weight_of, feed_weight, distinct, complement, votes_for, voter, where_on, merged_feed, merged_threshold, merged}
use Rattle.fold_theory.specs.Aligned.{where_off, Aligned, edge_thresholds, aligned, mix, mixed_threshold, mixed_weight}
use Rattle.fold_theory.proofs.AlignedLaws.{EdgeOk, us_length, vs_length, fed_small, aligned_small, vote_for}
use Rattle.fold_theory.proofs.WeightLaws.{weight_negated}
use Rattle.pair_theory.specs.Alignments.{alignment_of, with_u, complement_in, aligned_in, mixed_feed, merged_of, AlignmentOnScale, Searchable, Mergeable}
use Rattle.basics.specs.TableLaws.{get_d_map, map_tab}
use Rattle.basics.specs.PlaceLaws.{length_places, get_or_places, take_places}

-- of a list's 16 places, so many as it has members are the list
taken_places : (n : ℕ) → n ≤ 16 → (ws : List ℤ) → length ws ≡ n → take n (places 16 (pos 0) ws) ≡ ws
taken_places n h ws e = ap (λ (k : ℕ). take k (places 16 (pos 0) ws)) (sym e) ∙ take_places 16 (pos 0) ws (omega (arith, e))

-- the record of an edge with at most 16 distinct feeds stands for its two gates
pub aligned_in_lem : (e : Edge) → length (distinct e) ≤ 16 → aligned_in (alignment_of e) ≡ aligned e
unfolding aligned_in alignment_of
aligned_in_lem e h =
    let taken = taken_places (length (distinct e)) h in
    λ j. record { us = taken (aligned e).us (us_length e) j; vs = taken (aligned e).vs (vs_length e) j; thresholds = (aligned e).thresholds }

feed_is : (e : Edge) (k l : ℕ) → length (distinct e) ≤ 16 → (i : ℕ) → i < length (distinct e)
    → mixed_feed (alignment_of e) k l i ≡ get_or (map (merged_feed e k l) (distinct e)) i no_feed
unfolding mixed_feed merged_feed mixed_weight aligned alignment_of
feed_is e k l h i n =
    let s = get_or_places 16 0 (distinct e) i (omega arith) in
    let m = ap (λ (a : Aligned). mixed_weight a k l i) (aligned_in_lem e h) in
    let f = get_d_map (λ x. weight_of x (voter e).feeds) (distinct e) i 0 (pos 0) n in
    let g = get_d_map (λ x. weight_of x e.gate_v.feeds) (distinct e) i 0 (pos 0) n in
    let w = m ∙ ap₂ (mix k l) f g in
    (λ j. record { signal = s j; weight = w j }) ∙ sym (get_d_map (merged_feed e k l) (distinct e) i 0 no_feed n)

-- its merged gate is the edge's
pub merged_is : (e : Edge) (k l : ℕ) → length (distinct e) ≤ 16 → merged_of (alignment_of e) k l ≡ merged e k l
unfolding merged_of merged merged_threshold mixed_threshold aligned edge_thresholds alignment_of
merged_is e k l h =
    let long = length-map (distinct e) (merged_feed e k l) in
    let feeds = tab_of no_feed (length (distinct e)) (mixed_feed (alignment_of e) k l) (map (merged_feed e k l) (distinct e)) (sym long)
    (λ i n. feed_is e k l h i (omega (arith, n, long))) in
    λ j. record { feeds = keep weighs (feeds j); threshold = mixed_threshold (aligned e).thresholds k l }

-- ---- the gate that votes

-- minus each number of a list's places
places_negated : (fs : List Feed) (ds : List ℕ)
    → places 16 (pos 0) (map (λ x. weight_of x (map negated fs)) ds) ≡ map neg_ℤ (places 16 (pos 0) (map (λ x. weight_of x fs) ds))
unfolding places
places_negated fs ds =
    ap (λ (ws : List ℤ). tab 16 (λ i. get_or ws i (pos 0))) (list_ext ds)
    ∙ tab_same 16 _ _ (λ i h. ListN.get_or-map neg_ℤ (map (λ x. weight_of x fs) ds) i (pos 0))
    ∙ sym (map_tab neg_ℤ 16 (λ i. get_or (map (λ x. weight_of x fs) ds) i (pos 0)))
  where
    list_ext : (xs : List ℕ) → map (λ x. weight_of x (map negated fs)) xs ≡ map neg_ℤ (map (λ x. weight_of x fs) xs)
    list_ext [] = refl
    list_ext (x ∷ xs) = ap₂ (λ (z : ℤ) (zs : List ℤ). z ∷ zs) (weight_negated x fs) (list_ext xs)

-- where b is not negative, u votes; else its complement
pub for_u : (e : Edge) → votes_for e ≡ true → alignment_of e ≡ with_u e
unfolding alignment_of with_u aligned edge_thresholds voter where_on where_off
for_u e h = rw h

pub against_u : (e : Edge) → votes_for e ≡ false → alignment_of e ≡ complement_in (with_u e)
unfolding alignment_of with_u complement_in aligned edge_thresholds voter where_on where_off complement
against_u e h = rw (h, places_negated e.gate_u.feeds (distinct e))

-- the sign of b, by the two thresholds
pub sign_is : (e : Edge) → votes_for e ≡ le_z (with_u e).thresholds.on (with_u e).thresholds.off
unfolding votes_for with_u
sign_is e = vote_for e.gate_v.threshold (feed_weight e)

-- ---- what callers have tested

-- a spare place holds 0, so no place holds more than the list
places_small : (n : ℕ) (xs : List ℤ) → SizesWithin n xs → SizesWithin n (places 16 (pos 0) xs)
places_small n xs h i = elim (dec_lt i 16) as (λ d. nat_abs (get_or (places 16 (pos 0) xs) i (pos 0)) ≤ n) [
  | yes k ↦ rw (get_or_places 16 (pos 0) xs i k) (h i)
  | no k ↦ rw (get_or-eq_default (places 16 (pos 0) xs) (pos 0) {n = i} (omega (arith, length_places 16 (pos 0) xs))) (omega arith)
]

-- two gates within the limits have numbers that can be added, whichever gate votes
pub with_u_fair : (e : Edge) → EdgeOk e → AlignmentOnScale (with_u e)
unfolding with_u
with_u_fair e ok =
    let s = fed_small e ok in
    record {
      placed = omega (arith, length_places 16 (pos 0) (map (λ x. weight_of x e.gate_u.feeds) (distinct e)));
      us_small = places_small 1000000 _ s.us;
      vs_small = places_small 1000000 _ s.vs;
      near = record { own_small = s.own; on_small = s.on; off_small = s.off };
    }

pub aligned_fair : (e : Edge) → EdgeOk e → AlignmentOnScale (alignment_of e)
unfolding alignment_of
aligned_fair e ok =
    let s = aligned_small e ok in
    record {
      placed = omega (arith, length_places 16 (pos 0) (aligned e).us);
      us_small = places_small 1000000 (aligned e).us s.us;
      vs_small = places_small 1000000 (aligned e).vs s.vs;
      near = record { own_small = s.own; on_small = s.on; off_small = s.off };
    }

aligned_searchable : (e : Edge) → EdgeOk e → length (distinct e) ≤ 16 → Searchable (alignment_of e)
unfolding alignment_of
aligned_searchable e ok h = record { few = h; fair = aligned_fair e ok }

-- what the merged gate's code asks for
pub mergeable : (e : Edge) (k l : ℕ) → EdgeOk e → length (distinct e) ≤ 16 → k ≤ 32 → l ≤ 32 → Mergeable (alignment_of e) k l
mergeable e k l ok h hk hl = record { searchable = aligned_searchable e ok h; dial = record { k_high = hk; l_high = hl } }

-- a gate's 16 places, by the lists of its signals and its weights
pub gate_places_lem : (g : Gate) → gate_record g ≡ record {
  fanin = length g.feeds;
  threshold = g.threshold;
  signals = places 16 0 (signals_of g.feeds);
  weights = places 16 (pos 0) (map (λ f. f.weight) g.feeds);
}
unfolding gate_record places signals_of
gate_places_lem g =
    let s = tab_same 16 (λ i. (get_or g.feeds i no_feed).signal) (λ i. get_or (map (λ f. f.signal) g.feeds) i 0)
    (λ i h. sym (ListN.get_or-map (λ f. f.signal) g.feeds i no_feed)) in
    let w = tab_same 16 (λ i. (get_or g.feeds i no_feed).weight) (λ i. get_or (map (λ f. f.weight) g.feeds) i (pos 0))
    (λ i h. sym (ListN.get_or-map (λ f. f.weight) g.feeds i no_feed)) in
    λ j. record { fanin = length g.feeds; threshold = g.threshold; signals = s j; weights = w j }
