-- Internal: two gates by their distinct feeds: what the pair search works on. A feed is known by its number among the distinct feeds, and a
-- setting's bit i is the bit of distinct feed i. Laws say that this is the merge of document 01. Nothing is proved here.
use Rattle.std.specs.Prelude.{Bool, cond, ◌&&◌, List, [], ◌∷◌, map, ℕ, ◌^◌, ℤ, pos, ◌+ℤ◌, ◌-ℤ◌, ◌*ℤ◌, length, get_or}
use Rattle.std.specs.Bool.{beq}
use Rattle.std.specs.Int.Signed.{le_z}
use Rattle.basics.specs.Lists.{below, every}
use Rattle.gate_sums.specs.Tables.{sum_at}
use Rattle.network.specs.Limits.{in_scale}
use Rattle.fold_theory.specs.Merge.{Edge, weight_of, feed_weight, distinct, voter, where_on, on_dial, votes_for}
use Rattle.fold_theory.specs.Pair.{Pair}
use Rattle.fold_theory.specs.declared.Thresholds.{Thresholds}

unfoldable pub where_off : Edge → ℤ
where_off e = cond (votes_for e) e.gate_v.threshold (e.gate_v.threshold -ℤ feed_weight e)

-- ---- the two gates

-- the voter's and v's weights by distinct feed, and their thresholds
pub record Aligned : Type 0 where
  pub us : List ℤ
  pub vs : List ℤ
  pub thresholds : Thresholds

-- the voter's threshold, and what v's other feeds must reach where the voter is 1 and where it is 0; and the board
unfoldable pub edge_thresholds : Edge → Thresholds
edge_thresholds e = record { own = (voter e).threshold; on = where_on e; off = where_off e; board = e.board }

-- the two gates of an edge
unfoldable pub aligned : Edge → Aligned
aligned e = record {
  us = map (λ s. weight_of s (voter e).feeds) (distinct e);
  vs = map (λ s. weight_of s e.gate_v.feeds) (distinct e);
  thresholds = edge_thresholds e;
}

-- the same with u itself as the gate that votes, whatever the sign of b
abbrev pub fed_by : Edge → Aligned
fed_by e = record {
  us = map (λ s. weight_of s e.gate_u.feeds) (distinct e);
  vs = map (λ s. weight_of s e.gate_v.feeds) (distinct e);
  thresholds = record { own = e.gate_u.threshold; on = e.gate_v.threshold -ℤ feed_weight e; off = e.gate_v.threshold; board = e.board };
}

-- ---- bits, from the two gates' sums

-- k times one number plus l times another
abbrev pub mix : ℕ → ℕ → ℤ → ℤ → ℤ
mix k l x y = pos k *ℤ x +ℤ pos l *ℤ y

-- the bit of the composed pair
unfoldable pub composed_bit : Thresholds → ℤ → ℤ → Bool
composed_bit t su sv = le_z (cond (le_z t.own su) t.on t.off) sv

-- the merged gate's threshold, and its bit
unfoldable pub mixed_threshold : Thresholds → ℕ → ℕ → ℤ
mixed_threshold t k l = mix k l t.own t.on

unfoldable pub merged_bit : Thresholds → ℕ → ℕ → ℤ → ℤ → Bool
merged_bit t k l su sv = le_z (mixed_threshold t k l) (mix k l su sv)

-- the two bits are equal
unfoldable pub same_bits : Thresholds → ℕ → ℕ → ℤ → ℤ → Bool
same_bits t k l su sv = beq (merged_bit t k l su sv) (composed_bit t su sv)

-- the merged gate's sum has the composed pair's bit and keeps the margins: it is T + on or more where that bit is 1, and T − off or less
-- where it is 0
unfoldable pub clears : Thresholds → ℕ → ℕ → ℤ → ℤ → Bool
clears t k l su sv =
    cond (composed_bit t su sv)
    (le_z (mixed_threshold t k l +ℤ pos t.board.on) (mix k l su sv))
    (le_z (mix k l su sv) (mixed_threshold t k l -ℤ pos t.board.off))

-- the same thresholds with the margins of version 1, which ask for equal bits and no more
unfoldable pub without_margins : Thresholds → Thresholds
without_margins t = record { own = t.own; on = t.on; off = t.off; board = record { version = 1; on = 0; off = 1 } }

-- ---- agreement

-- the two bits are equal on setting s
unfoldable pub agrees_on : Aligned → ℕ → ℕ → ℕ → Bool
agrees_on a k l s = same_bits a.thresholds k l (sum_at a.us s) (sum_at a.vs s)

-- on every setting
unfoldable pub agrees_all : Aligned → ℕ → ℕ → Bool
agrees_all a k l = below (2 ^ length a.us) (agrees_on a k l)

-- the margins too, on setting s and on every setting
unfoldable pub clears_on : Aligned → ℕ → ℕ → ℕ → Bool
clears_on a k l s = clears a.thresholds k l (sum_at a.us s) (sum_at a.vs s)

unfoldable pub clears_all : Aligned → ℕ → ℕ → Bool
clears_all a k l = below (2 ^ length a.us) (clears_on a k l)

-- ---- the tests of a merge and of a pair

-- the merged gate's weight at distinct feed i
unfoldable pub mixed_weight : Aligned → ℕ → ℕ → ℕ → ℤ
mixed_weight a k l i = mix k l (get_or a.us i (pos 0)) (get_or a.vs i (pos 0))

-- its weights and its threshold are on the scale
unfoldable pub scale_fits : Aligned → ℕ → ℕ → Bool
scale_fits a k l = in_scale (mixed_threshold a.thresholds k l) && below (length a.us) (λ i. in_scale (mixed_weight a k l i))

-- the pair qualifies
unfoldable pub qualifies_on : Aligned → Pair → Bool
qualifies_on a p = every (on_dial p.k ∷ on_dial p.l ∷ scale_fits a p.k p.l ∷ clears_all a p.k p.l ∷ [])
