-- The merge of gate u into gate v with k and l: distinct feeds, merged gate, composed pair, agreement, and the call. Document 01,
-- "Merge of u into v with k and l", and document 02, No. 2, "Gates that vote against", and No. 8, "Board tolerance in the file". Nothing is
-- proved here.
use Rattle.std.specs.Prelude.{Bool, false, not, cond, ◌&&◌, ◌||◌, List, [], ◌∷◌, map, ℕ, ◌/◌, ◌%◌, ◌^◌, leb, eqb, ℤ, pos, ◌+ℤ◌, ◌-ℤ◌, ◌*ℤ◌, length}
use Rattle.basics.specs.Library.{Bool·beq}
use Rattle.basics.specs.Library.{non_neg}
use Rattle.basics.specs.Lists.{all, below, keep, range, between, other}
use Rattle.basics.specs.Refusals.{Answer, accepted, Test, ◌else◌, checks}
use Rattle.network.specs.Threshold.{Feed, negated, Gate, Net, Assignment, bit, assign}
use Rattle.network.specs.Limits.{signals_of, weighs, scale_ok, keeps, is_gate, sound}
use Rattle.network.specs.Changes.{gate_at, with_gate}
use Rattle.network.specs.declared.Board.{Board}

-- ---- which gates read a signal

-- no feed of g has the signal
unfoldable pub silent : ℕ → Gate → Bool
silent s g = all (other s) (signals_of g.feeds)

-- "u feeds v": g has the signal among its feeds
unfoldable pub reads : ℕ → Gate → Bool
reads s g = not (silent s g)

-- the weight of a signal in a list of feeds, 0 for a signal that is no feed
unfoldable pub weight_of : ℕ → List Feed → ℤ
weight_of s [] = pos 0
weight_of s (f ∷ fs) = cond (eqb f.signal s) f.weight (weight_of s fs)

-- ---- the two gates of a merge

-- u and v, with their gates, on a board
pub record Edge : Type 0 where
  pub board : Board
  pub u : ℕ
  pub v : ℕ
  pub gate_u : Gate
  pub gate_v : Gate

abbrev pub edge_of : Board → ℕ → ℕ → Gate → Gate → Edge
edge_of b u v gate_u gate_v = record { board = b; u = u; v = v; gate_u = gate_u; gate_v = gate_v }

-- those of a network
unfoldable pub edge : Net → ℕ → ℕ → Edge
edge N u v = edge_of N.board u v (gate_at N u) (gate_at N v)

-- "b", the weight with which u feeds v
abbrev pub feed_weight : Edge → ℤ
feed_weight e = weight_of e.u e.gate_v.feeds

-- s is among u's feeds or v's other feeds
unfoldable pub among : Edge → ℕ → Bool
among e s = reads s e.gate_u || (other e.u s && reads s e.gate_v)

-- "the distinct signals among u's feeds and v's other feeds (the distinct feeds)", rising
unfoldable pub distinct : Edge → List ℕ
distinct e = keep (among e) (range 0 e.v)

-- ---- the gate that votes

-- a gate's complement: the weights negated, and 1 − T; it is 1 exactly where the gate is 0
unfoldable pub complement : Gate → Gate
complement g = record { feeds = map negated g.feeds; threshold = pos 1 -ℤ g.threshold }

-- b is not negative
unfoldable pub votes_for : Edge → Bool
votes_for e = non_neg (feed_weight e)

-- u; and "where b is negative, u is taken as its complement"
unfoldable pub voter : Edge → Gate
voter e = cond (votes_for e) e.gate_u (complement e.gate_u)

-- what v's other feeds must reach where the voter is 1, and where it is 0: the lower of Tv − b and Tv is the first
unfoldable pub where_on : Edge → ℤ
where_on e = cond (votes_for e) (e.gate_v.threshold -ℤ feed_weight e) e.gate_v.threshold

-- ---- the merged gate

-- "u's weights times k, plus v's other weights times l; a signal in both lists gets the sum"; where b is negative "u's weights times −k"
unfoldable pub merged_feed : Edge → ℕ → ℕ → ℕ → Feed
merged_feed e k l s = record { signal = s; weight = pos k *ℤ weight_of s (voter e).feeds +ℤ pos l *ℤ weight_of s e.gate_v.feeds }

-- "Its threshold is k × Tu + l × (Tv − b)"; where b is negative "k × (1 − Tu) + l × Tv"
unfoldable pub merged_threshold : Edge → ℕ → ℕ → ℤ
merged_threshold e k l = pos k *ℤ (voter e).threshold +ℤ pos l *ℤ where_on e

-- "the merged gate"; "a sum of 0 drops that feed"
unfoldable pub merged : Edge → ℕ → ℕ → Gate
merged e k l = record { feeds = keep weighs (map (merged_feed e k l) (distinct e)); threshold = merged_threshold e k l }

-- ---- agreement

-- "The bit of this composed pair is v's bit when its feed u has the bit of gate u"
unfoldable pub composed : Assignment → Edge → Bool
composed ρ e = bit (assign ρ e.u (bit ρ e.gate_u)) e.gate_v

-- "setting" s of a list of signals, "taken as free bits": bit i of s for the i-th signal
unfoldable pub setting : List ℕ → ℕ → Assignment
setting [] s x = false
setting (y ∷ ys) s x = cond (eqb x y) (eqb (s % 2) 1) (setting ys (s / 2) x)

unfoldable pub agrees_at : Edge → ℕ → ℕ → ℕ → Bool
agrees_at e k l s = Bool·beq (bit (setting (distinct e) s) (merged e k l)) (composed (setting (distinct e) s) e)

-- "on every setting of the distinct feeds .. it equals v with u put in"
unfoldable pub agrees : Edge → ℕ → ℕ → Bool
agrees e k l = below (2 ^ length (distinct e)) (agrees_at e k l)

-- ---- the margins

-- "A merge keeps the margins"
unfoldable pub merge_keeps : Edge → ℕ → ℕ → Bool
merge_keeps e k l = keeps e.board (merged e k l)

-- ---- the limits, and the call

-- "k and l run from 1 to 32"
unfoldable pub on_dial : ℕ → Bool
on_dial k = between 1 32 k

-- 7: "At most 16 such distinct signals are allowed, counted before a feed drops"
unfoldable pub narrow : Edge → Bool
narrow e = leb (length (distinct e)) 16

-- 20, 11 and 12: two gates of a sound network, of which u feeds v
unfoldable pub feed_tests : Net → ℕ → ℕ → List Test
feed_tests N u v = (sound N else 20) ∷ (is_gate N u && is_gate N v else 11) ∷ (reads u (gate_at N v) else 12) ∷ []

-- "A merge is within the limits if 20, 11, 12, 13, 14, 7 and 6 don't apply"; "Number 13 can then never be given"
unfoldable pub limits : Net → ℕ → ℕ → ℕ → ℕ → List Test
limits N u v k l =
    (sound N else 20) ∷ (is_gate N u && is_gate N v else 11) ∷ (reads u (gate_at N v) else 12)
    ∷ (on_dial k && on_dial l else 14) ∷ (narrow (edge N u v) else 7) ∷ (scale_ok (merged (edge N u v) k l) else 6) ∷ []

-- order 20, 11, 12, 14, 7, 6, 24, 15: "It replaces v; u stays"
unfoldable pub merge : Net → ℕ → ℕ → ℕ → ℕ → Answer Net
merge N u v k l =
    checks (limits N u v k l)
    (checks ((merge_keeps (edge N u v) k l else 24) ∷ (agrees (edge N u v) k l else 15) ∷ [])
    (accepted (with_gate N v (merged (edge N u v) k l))))
