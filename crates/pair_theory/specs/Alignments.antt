-- Internal: the record of two gates by their distinct feeds, what it stands for, and the merged gate that it gives. Nothing is proved here.
use Rattle.std.specs.Prelude.{List, map, ℕ, ◌≤◌, ℤ, pos, nat_abs, neg_ℤ, ◌-ℤ◌, length, get_or, take}
use Rattle.basics.specs.Lists.{keep, range, tab, places}
use Rattle.basics.specs.SizeLaws.{SizesWithin}
use Rattle.network.specs.Threshold.{Feed, Gate}
use Rattle.network.specs.Limits.{scale, weighs}
use Rattle.network.specs.Record.{gate_in}
use Rattle.network.specs.declared.Board.{Board}
use Rattle.network.specs.declared.GateRecord.{GateRecord}
use Rattle.fold_theory.specs.Merge.{Edge, edge_of, weight_of, distinct}
use Rattle.fold_theory.specs.Aligned.{Aligned, aligned, fed_by, mixed_threshold, mixed_weight}
use Rattle.fold_theory.proofs.AlignedLaws.{EdgeOk}
use Rattle.fold_theory.specs.declared.Thresholds.{Thresholds}
use Rattle.pair_theory.specs.declared.Alignment.{Alignment}

-- the weight of each signal that a byte can name
unfoldable pub weight_table : List Feed → List ℤ
weight_table fs = tab 256 (λ s. weight_of s fs)

-- two gate records as an edge
abbrev pub edge_between : Board → GateRecord → GateRecord → ℕ → ℕ → Edge
edge_between b gate_u gate_v u v = edge_of b u v (gate_in gate_u) (gate_in gate_v)

-- an edge within the limits whose signals are bytes
pub record Alignable (e : Edge) : Type 0 where
  pub ok : EdgeOk e
  pub low : e.v ≤ 256

-- the record of an edge
unfoldable pub alignment_of : Edge → Alignment
alignment_of e = record {
  count = length (distinct e);
  signals = places 16 0 (distinct e);
  us = places 16 (pos 0) (aligned e).us;
  vs = places 16 (pos 0) (aligned e).vs;
  thresholds = (aligned e).thresholds;
}

-- the same with u itself as the gate that votes, whatever the sign of b
unfoldable pub with_u : Edge → Alignment
with_u e = record {
  count = length (distinct e);
  signals = places 16 0 (distinct e);
  us = places 16 (pos 0) (fed_by e).us;
  vs = places 16 (pos 0) (fed_by e).vs;
  thresholds = (fed_by e).thresholds;
}

-- the complement of the gate that votes in its place
unfoldable pub complement_in : Alignment → Alignment
complement_in a = record {
  count = a.count;
  signals = a.signals;
  us = map neg_ℤ a.us;
  vs = a.vs;
  thresholds = record { own = pos 1 -ℤ a.thresholds.own; on = a.thresholds.off; off = a.thresholds.on; board = a.thresholds.board };
}

-- what a record stands for
unfoldable pub aligned_in : Alignment → Aligned
aligned_in a = record { us = take a.count a.us; vs = take a.count a.vs; thresholds = a.thresholds }

-- ---- the merged gate

-- its feed at distinct feed i
unfoldable pub mixed_feed : Alignment → ℕ → ℕ → ℕ → Feed
mixed_feed a k l i = record { signal = get_or a.signals i 0; weight = mixed_weight (aligned_in a) k l i }

unfoldable pub merged_of : Alignment → ℕ → ℕ → Gate
merged_of a k l = record { feeds = keep weighs (map (mixed_feed a k l) (range 0 a.count)); threshold = mixed_threshold a.thresholds k l }

-- ---- what callers have tested

-- no threshold is above n in size
pub record ThresholdsWithin (n : ℕ) (t : Thresholds) : Type 0 where
  pub own_small : nat_abs t.own ≤ n
  pub on_small : nat_abs t.on ≤ n
  pub off_small : nat_abs t.off ≤ n

-- the weights, each with its place, are on the scale, and the thresholds at most twice that
pub record AlignmentOnScale (a : Alignment) : Type 0 where
  pub placed : 16 ≤ length a.us
  pub us_small : SizesWithin scale a.us
  pub vs_small : SizesWithin scale a.vs
  pub near : ThresholdsWithin 2000000 a.thresholds

-- at most 16 distinct feeds, whose numbers can be added
pub record Searchable (a : Alignment) : Type 0 where
  pub few : a.count ≤ 16
  pub fair : AlignmentOnScale a

-- k and l are no more than the dial has
pub record DialLimits (k l : ℕ) : Type 0 where
  pub k_high : k ≤ 32
  pub l_high : l ≤ 32

-- two gates that can be merged with multipliers on the dial: no sum of two products leaves 32 bits
pub record Mergeable (a : Alignment) (k l : ℕ) : Type 0 where
  pub searchable : Searchable a
  pub dial : DialLimits k l
