-- Laws of the test of soundness: a turn of the loop over a gate's feeds, the parts of a gate's test, and the parts of the whole.
-- Assumes nothing.
use mathlib.Core.Path.{◌≡◌, refl, sym}
use mathlib.Core.Bool.{Bool, true, false, not, ◌&&◌}
use mathlib.Core.List.{List, [], ◌∷◌}
use Prim.Native.Nat.{ℕ, suc, ◌+◌, ◌-◌, ◌*◌, ◌≤◌, ◌<◌}
use native.Mathlib.Numerals.{add-one}
use borrow.Author.Tests.{lt-leb, le-leb}
use lib.Dec.{leb, ltb}
use lib.IntN.{ℤ, pos}
use lib.ListN.{length, get_or}
use Rattle.basics.specs.Lists.{all, all_from, below, every, between, tab}
use Rattle.basics.specs.ListLaws.{length_tab}
use Rattle.basics.specs.TestLaws.{T_is, T_and, between_of}
use Rattle.network.specs.Threshold.{Feed, Net}
use Rattle.network.specs.Limits.{signals_of, rising, in_scale, is_zero, weight_ok, scale_ok, gate_ok, board_ok, keeps, gate_signal, is_gate, sound_tests, sound}
use Rattle.network.specs.Record.{feed_at, feeds_from, gate_from, gate_of, net_of, spare_clear, sound_record}
use Rattle.network.specs.RecordTests.{counts_ok}
use Rattle.network.specs.SoundLaws.{feeds_ok}
use Rattle.network.specs.PlaceLaws.{length_feeds, length_gate_from}
use Rattle.network.specs.Margins.{places_keep}
use Rattle.network.specs.MarginLaws.{gates_keep}
use Rattle.network.specs.declared.Network.{Network}
use Rattle.basics.specs.RangeLaws.{range_step, range_end}

-- ---- the counts
pub counts_fit : (i g o : ℕ) → counts_ok i g o ≡ true → (i ≤ 40) × (g ≤ 128) × (o ≤ 16)
unfolding counts_ok
counts_fit i g o e =
    let h = T_and (between 1 40 i && between 1 128 g) (between 1 16 o) (T_is _ e) in
    let k = T_and (between 1 40 i) (between 1 128 g) h.0 in
    ((between_of 1 40 i k.0).1, (between_of 1 128 g k.1).1, (between_of 1 16 o h.1).1)

-- ---- a gate's feeds
feed_tests_lem : (ok a b w r q : Bool) → (((ok && a) && b) && w) && (r && q) ≡ ok && ((a && (b && (r && true))) && (w && q))
feed_tests_lem false a b w r q = refl
feed_tests_lem true false b w r q = refl
feed_tests_lem true true false w r q = refl
feed_tests_lem true true true w true q = refl
feed_tests_lem true true true true false q = refl
feed_tests_lem true true true false false q = refl

feeds_more : (ok : Bool) (low own : ℕ) (f : Feed) (fs : List Feed) →
    (((ok && leb low f.signal) && ltb f.signal own) && weight_ok f) && feeds_ok (f.signal + 1) own fs ≡ ok && feeds_ok low own (f ∷ fs)
unfolding feeds_ok all every rising signals_of
feeds_more ok low own f fs =
    rw add-one (feed_tests_lem ok (leb low f.signal) (ltb f.signal own) (weight_ok f) (rising (suc f.signal) own (signals_of fs)) (all weight_ok fs))

-- the tests of the feed at place p, and the test of the feeds that are left
pub feeds_step : (signals : List ℕ) (weights : List ℤ) (ok : Bool) (low own p e : ℕ) → p < e →
    (((ok && leb low (get_or signals p 0)) && ltb (get_or signals p 0) own) && (in_scale (get_or weights p (pos 0)) && not (is_zero (get_or weights p (pos 0)))))
    && feeds_ok (get_or signals p 0 + 1) own (feeds_from signals weights (p + 1) (e - (p + 1)))
    ≡ ok && feeds_ok low own (feeds_from signals weights p (e - p))
unfolding feeds_from feed_at weight_ok
feeds_step signals weights ok low own p e h =
    rw (range_step p e h) (feeds_more ok low own (feed_at signals weights p) (feeds_from signals weights (p + 1) (e - (p + 1))))

-- ---- a gate
gate_tests_lem : (t r q : Bool) → t && (r && q) ≡ r && ((t && q) && true)
gate_tests_lem true true true = refl
gate_tests_lem true true false = refl
gate_tests_lem true false q = refl
gate_tests_lem false true q = refl
gate_tests_lem false false q = refl

module _ (fanins : List ℕ) (thresholds : List ℤ) (signals : List ℕ) (weights : List ℤ) (g own : ℕ) where
  -- over 16 feeds are too many
  pub gate_wide : 16 < get_or fanins g 0 → gate_ok own (gate_from fanins thresholds signals weights g) ≡ false
  unfolding gate_ok every
  gate_wide h = rw (length_gate_from fanins thresholds signals weights g, lt-leb (get_or fanins g 0) 16 h)

  -- up to 16 feeds: the threshold and the feeds decide
  pub gate_parts : get_or fanins g 0 ≤ 16 →
      in_scale (get_or thresholds g (pos 0)) && feeds_ok 0 own (feeds_from signals weights (16 * g) (get_or fanins g 0))
      ≡ gate_ok own (gate_from fanins thresholds signals weights g)
  unfolding gate_ok every gate_from scale_ok feeds_ok
  gate_parts h =
      let fs = feeds_from signals weights (16 * g) (get_or fanins g 0) in
      rw (length_feeds signals weights (16 * g) (get_or fanins g 0), le-leb (get_or fanins g 0) 16 h)
      (gate_tests_lem (in_scale (get_or thresholds g (pos 0))) (rising 0 own (signals_of fs)) (all weight_ok fs))

-- ---- the whole
sound_tests_lem : (z a b c g k d s : Bool) → every (z ∷ a ∷ b ∷ c ∷ g ∷ k ∷ d ∷ []) && s ≡ (z && ((a && b && c) && (g && d && s))) && k
unfolding every
sound_tests_lem false a b c g k d s = refl
sound_tests_lem true false b c g k d s = refl
sound_tests_lem true true false c g k d s = refl
sound_tests_lem true true true false g k d s = refl
sound_tests_lem true true true true false k d s = refl
sound_tests_lem true true true true true false false s = refl
sound_tests_lem true true true true true false true false = refl
sound_tests_lem true true true true true false true true = refl
sound_tests_lem true true true true true true false s = refl
sound_tests_lem true true true true true true true false = refl
sound_tests_lem true true true true true true true true = refl

gate_signal_lem : (N : Net) → is_gate N ≡ gate_signal N.inputs (length N.gates)
unfolding is_gate
gate_signal_lem N = refl

-- the board, the counts, the gates, the outputs and the spare places; and the margins
pub sound_parts : (r : Network) →
    sound_record r
    ≡ (board_ok r.board
    && (counts_ok r.inputs r.gates r.outputs
    && (all_from gate_ok r.inputs (tab r.gates (gate_of r)) && all (gate_signal r.inputs r.gates)
    (tab r.outputs (λ j. get_or r.drivers j 0)) && spare_clear r)))
    && below r.gates (places_keep r.board r.fanins r.thresholds r.weights)
unfolding sound_record sound sound_tests net_of counts_ok
sound_parts r =
    let drivers = tab r.outputs (λ j. get_or r.drivers j 0) in
    rw (gate_signal_lem (net_of r), length_tab r.gates (gate_of r), length_tab r.outputs (λ j. get_or r.drivers j 0), sym (gates_keep r))
    (sound_tests_lem (board_ok r.board) (between 1 40 r.inputs) (between 1 128 r.gates) (between 1 16 r.outputs)
    (all_from gate_ok r.inputs (tab r.gates (gate_of r))) (all (keeps r.board) (tab r.gates (gate_of r)))
    (all (gate_signal r.inputs r.gates) drivers) (spare_clear r))

-- ---- a gate's feeds one by one
module _ (signals : List ℕ) (weights : List ℤ) (own : ℕ) where
  -- the test of the feeds from place k on
  abbrev pub left : ℕ → ℕ → Bool
  left low k = feeds_ok low own (feeds_from signals weights k (length signals - k))

  -- the next feed, and those after it
  pub feed_turn : (ok : Bool) (low k s : ℕ) (w : ℤ) → k < length signals → s ≡ get_or signals k 0 → w ≡ get_or weights k (pos 0)
      → (((ok && leb low s) && ltb s own) && (in_scale w && not (is_zero w))) && left (s + 1) (k + 1) ≡ ok && left low k
  feed_turn ok low k s w h es ew = rw (es, ew) (feeds_step signals weights ok low own k (length signals) h)

  -- no feed is left
  pub feeds_end : (low k : ℕ) → length signals ≤ k → left low k ≡ true
  unfolding feeds_from feeds_ok signals_of all rising
  feeds_end low k h = rw (range_end k (length signals) h)
