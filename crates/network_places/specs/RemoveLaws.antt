-- The record of a network without one of its gates: its arrays without the gate's places, and its signals lowered. Assumes nothing.
use Rattle.std.specs.Prelude.{◌≡◌, refl, List, map, ℕ, ◌+◌, ◌*◌, ◌/◌, ◌%◌, ◌-◌, ◌≤◌, ◌<◌, pos, replicate}
use Rattle.std.proofs.Math.Path.{sym, ap}
use Rattle.std.proofs.Common.{◌∙◌, subst, add-one, arith, lt-ltb, le-ltb}
use Rattle.std.proofs.Math.Decide.{dec_lt}
use Rattle.std.proofs.Math.ListN.{length, get_or, length-map, get_or-map, get_or-eq_default}
use Rattle.basics.specs.TestLaws.{T_is}
use Rattle.basics.specs.ListLaws.{tab_of, tab_same}
use Rattle.network.specs.declared.Network.{Network}
use Rattle.network.specs.Threshold.{Feed, Gate}
use Rattle.network.specs.Record.{net_of, layout, sound_record, no_feed, no_gate, nth_gate, place_of, fanins_of, thresholds_of, place_signals, place_weights, drivers_of}
use Rattle.network.specs.Changes.{lowered, lowered_feed, lowered_gate, remove_at, without}
use Rattle.network.specs.ChangeLaws.{lowered_low, length_remove, remove_low, remove_high}
use Rattle.network.specs.Places.{SoundGate, origin, without_places}
use Rattle.basics.specs.TableLaws.{map_tab, tab_any}
use Rattle.network.specs.PlaceLaws.{gate_beyond}
use Rattle.network.specs.RecordLaws.{ArrayLengths, layout_net_of, count_gates, count_outputs, gate_number}
use Rattle.network_places.specs.PasteLaws.{part_length, pasted_part}
use Rattle.std.specs.List.{CopiedTo, SameBelow}
use Rattle.std.proofs.lemmas.List.{length-replicate, get_or-replicate}
use borrow.Rule.Slice.PartMut.{put_mid, mid_of}

-- ---- places that move

-- a place before those taken out stays, a later one moves by the gap
origin_low : (first gap p : ℕ) → p < first → origin first gap p ≡ p
unfolding origin
origin_low first gap p h = rw (lt-ltb p first h)

origin_high : (first gap p : ℕ) → first ≤ p → origin first gap p ≡ p + gap
unfolding origin
origin_high first gap p h = rw (le-ltb p first h)

-- ---- a list without one member

-- the members before it stay, the later ones move by one
remove_at_lem : {A : Type 0} (d : A) (xs : List A) (i j : ℕ) → get_or (remove_at i xs) j d ≡ get_or xs (origin i 1 j) d
remove_at_lem d xs i j = elim (dec_lt j i) as (λ t. get_or (remove_at i xs) j d ≡ get_or xs (origin i 1 j) d) [
  | yes k ↦ remove_low d xs i j k ∙ ap (λ (m : ℕ). get_or xs m d) (sym (origin_low i 1 j k))
  | no k ↦ let h : i ≤ j = omega arith in remove_high d xs i j h ∙ ap (λ (m : ℕ). get_or xs m d) (sym (origin_high i 1 j h ∙ add-one j))
]

-- moved down, and spare past the end
pub gap_closed : {A : Type 0} (d : A) (first gap q k : ℕ) (old mid ys : List A) → first + gap ≤ length old → q ≡ length old - gap → k ≡ length mid - q
    → length mid ≡ length old → CopiedTo old mid (first + gap) first (length old - (first + gap)) → SameBelow old mid first → ys ≡ replicate (length (mid_of q k mid)) d
    → put_mid q k mid ys ≡ without_places d (length old) first gap old
unfolding without_places
gap_closed {A} d first gap q k old mid ys few eq ek em moved stays spare =
    let m : ℕ = length (mid_of q k mid) in
    let whole : m ≡ k = part_length q k mid (omega arith) in
    let long : length ys ≡ k = ap length spare ∙ length-replicate m d ∙ whole in
    let past = pasted_part d q k k mid ys refl long (omega arith) in
    let new : List A = put_mid q k mid ys in
    sym (tab_of d (length old) (λ p. get_or old (origin first gap p) d) new (sym (past.long ∙ em)) λ p b.
    let l : p < length old = omega (arith, past.long) in
    elim (dec_lt p first) as (λ t. get_or old (origin first gap p) d ≡ get_or new p d) [
      | yes j ↦ ap (λ (i : ℕ). get_or old i d) (origin_low first gap p j) ∙ sym (past.before p (omega arith) ∙ stays p d j)
      | no j ↦ ap (λ (i : ℕ). get_or old i d) (origin_high first gap p (omega arith))
          ∙ elim (dec_lt p q) as (λ t. get_or old (p + gap) d ≡ get_or new p d) [
            | yes i ↦ let e : p + gap ≡ first + gap + (p - first) = omega arith in
                ap (λ (m : ℕ). get_or old m d) e ∙ sym (past.before p i ∙ moved p d (omega arith) (omega arith))
            | no i ↦ let e : p ≡ q + (p - q) = omega arith in
                get_or-eq_default old d {n = p + gap} (omega arith)
                ∙ sym (ap (λ (m : ℕ). get_or new m d) e ∙ past.inside (p - q) (omega arith) (omega arith)
                ∙ ap (λ (zs : List A). get_or zs (p - q) d) spare ∙ get_or-replicate m (p - q) d d (omega arith))
          ]
    ])

-- ---- a lowered signal
-- 0 is never a higher one
lowered_zero : (u : ℕ) → lowered u 0 ≡ 0
lowered_zero u = lowered_low u 0 (omega arith)

-- ---- a lowered gate, its feeds and its places
-- gate h of what is left
gate_removed : (u g : ℕ) (gs : List Gate) (h : ℕ) → nth_gate (map (lowered_gate u) (remove_at g gs)) h ≡ lowered_gate u (nth_gate gs (origin g 1 h))
unfolding lowered_gate
gate_removed u g gs h = get_or-map (lowered_gate u) (remove_at g gs) h no_gate ∙ ap (lowered_gate u) (remove_at_lem no_gate gs g h)

-- feed i of a lowered gate
feed_lowered : (u : ℕ) (fs : List Feed) (i : ℕ) → get_or (map (lowered_feed u) fs) i no_feed ≡ lowered_feed u (get_or fs i no_feed)
unfolding lowered_feed
feed_lowered u fs i = subst (λ (f : Feed). get_or (map (lowered_feed u) fs) i f ≡ lowered_feed u (get_or fs i no_feed))
    (λ x. record { signal = lowered_zero u x; weight = pos 0 }) (get_or-map (lowered_feed u) fs i no_feed)

-- the gate and the feed of the place that moves to place p
origin_gate : (g p : ℕ) → origin (16 * g) 16 p / 16 ≡ origin g 1 (p / 16)
origin_gate g p = elim (dec_lt (p / 16) g) as (λ t. origin (16 * g) 16 p / 16 ≡ origin g 1 (p / 16)) [
  | yes k ↦ rw (origin_low (16 * g) 16 p (omega arith), origin_low g 1 (p / 16) k)
  | no k ↦ rw (origin_high (16 * g) 16 p (omega arith), origin_high g 1 (p / 16) (omega arith)) (omega arith)
]

origin_feed : (g p : ℕ) → origin (16 * g) 16 p % 16 ≡ p % 16
origin_feed g p = elim (dec_lt (p / 16) g) as (λ t. origin (16 * g) 16 p % 16 ≡ p % 16) [
  | yes k ↦ rw (origin_low (16 * g) 16 p (omega arith))
  | no k ↦ rw (origin_high (16 * g) 16 p (omega arith)) (omega arith)
]

-- the feed at place p of what is left
place_removed : (u g : ℕ) (gs : List Gate) (p : ℕ) → place_of (map (lowered_gate u) (remove_at g gs)) p ≡ lowered_feed u (place_of gs (origin (16 * g) 16 p))
unfolding place_of lowered_gate
place_removed u g gs p =
    ap (λ (y : Gate). get_or y.feeds (p % 16) no_feed) (gate_removed u g gs (p / 16))
    ∙ feed_lowered u (nth_gate gs (origin g 1 (p / 16))).feeds (p % 16)
    ∙ sym (rw (origin_gate g p, origin_feed g p))

-- there is no place past the last
pub place_none : (gs : List Gate) → length gs ≤ 128 → (p : ℕ) → 2048 ≤ p → place_of gs p ≡ no_feed
unfolding place_of
place_none gs few p h = ap (λ (y : Gate). get_or y.feeds (p % 16) no_feed) (gate_beyond gs (p / 16) (omega arith))

-- ---- each array of the record, without the gate's places
module _ (u g : ℕ) (gs : List Gate) (few : length gs ≤ 128) where
  abbrev left : List Gate
  left = map (lowered_gate u) (remove_at g gs)

  removed_signals : map (lowered u) (without_places 0 2048 (16 * g) 16 (place_signals gs)) ≡ place_signals left
  unfolding without_places place_signals lowered_feed
  removed_signals = map_tab (lowered u) 2048 (λ p. get_or (place_signals gs) (origin (16 * g) 16 p) 0)
      ∙ tab_same 2048 (λ p. lowered u (get_or (place_signals gs) (origin (16 * g) 16 p) 0)) (λ p. (place_of left p).signal) λ p h.
      ap (lowered u) (tab_any 0 2048 (λ q. (place_of gs q).signal) (origin (16 * g) 16 p)
      (λ l. ap (λ (f : Feed). f.signal) (place_none gs few (origin (16 * g) 16 p) l)))
      ∙ sym (ap (λ (f : Feed). f.signal) (place_removed u g gs p))

  removed_weights : without_places (pos 0) 2048 (16 * g) 16 (place_weights gs) ≡ place_weights left
  unfolding without_places place_weights lowered_feed
  removed_weights = tab_same 2048 (λ p. get_or (place_weights gs) (origin (16 * g) 16 p) (pos 0)) (λ p. (place_of left p).weight) λ p h.
      tab_any (pos 0) 2048 (λ q. (place_of gs q).weight) (origin (16 * g) 16 p) (λ l. ap (λ (f : Feed). f.weight) (place_none gs few (origin (16 * g) 16 p) l))
      ∙ sym (ap (λ (f : Feed). f.weight) (place_removed u g gs p))

  removed_fanins : without_places 0 128 g 1 (fanins_of gs) ≡ fanins_of left
  unfolding without_places fanins_of lowered_gate
  removed_fanins = tab_same 128 (λ h. get_or (fanins_of gs) (origin g 1 h) 0) (λ h. length (nth_gate left h).feeds) λ h l.
      tab_any 0 128 (λ h. length (nth_gate gs h).feeds) (origin g 1 h) (λ k. ap (λ (y : Gate). length y.feeds) (gate_beyond gs (origin g 1 h) (omega arith)))
      ∙ sym (ap (λ (y : Gate). length y.feeds) (gate_removed u g gs h) ∙ length-map (nth_gate gs (origin g 1 h)).feeds (lowered_feed u))

  removed_thresholds : without_places (pos 0) 128 g 1 (thresholds_of gs) ≡ thresholds_of left
  unfolding without_places thresholds_of lowered_gate
  removed_thresholds = tab_same 128 (λ h. get_or (thresholds_of gs) (origin g 1 h) (pos 0)) (λ h. (nth_gate left h).threshold) λ h l.
      tab_any (pos 0) 128 (λ h. (nth_gate gs h).threshold) (origin g 1 h) (λ k. ap (λ (y : Gate). y.threshold) (gate_beyond gs (origin g 1 h) (omega arith)))
      ∙ sym (ap (λ (y : Gate). y.threshold) (gate_removed u g gs h))

-- the outputs' signals, changed by an f that leaves 0
pub drivers_map : (f : ℕ → ℕ) (os : List ℕ) → f 0 ≡ 0 → map f (drivers_of os) ≡ drivers_of (map f os)
unfolding drivers_of
drivers_map f os z = map_tab f 16 (λ j. get_or os j 0) ∙ tab_same 16 (λ j. f (get_or os j 0)) (λ j. get_or (map f os) j 0) λ j h.
    sym (subst (λ (d : ℕ). get_or (map f os) j d ≡ f (get_or os j 0)) z (get_or-map f os j 0))

-- the record without the gate's places is that of the network without the gate
pub removed : (n : Network) (u : ℕ) → ArrayLengths n → SoundGate n u → ◌≡◌ {A = Network} (record {
  board = n.board;
  inputs = n.inputs;
  gates = n.gates - 1;
  outputs = n.outputs;
  fanins = without_places 0 128 (u - n.inputs) 1 n.fanins;
  signals = map (lowered u) (without_places 0 2048 (16 * (u - n.inputs)) 16 n.signals);
  weights = without_places (pos 0) 2048 (16 * (u - n.inputs)) 16 n.weights;
  thresholds = without_places (pos 0) 128 (u - n.inputs) 1 n.thresholds;
  drivers = map (lowered u) n.drivers;
}) (layout (without (net_of n) u))
unfolding layout without net_of
removed n u l s =
    let g : ℕ = u - n.inputs in
    let gs : List Gate = (net_of n).gates in
    let at = gate_number n u s in
    let few : length gs ≤ 128 = omega (arith, count_gates n) in
    let same : layout (net_of n) ≡ n = layout_net_of n l (T_is (sound_record n) s.sound) in
    let fewer : n.gates - 1 ≡ length (map (lowered_gate u) (remove_at g gs)) =
    omega (arith, count_gates n, length-map (remove_at g gs) (lowered_gate u), length_remove gs g (omega (arith, count_gates n))) in
    λ x. record {
      board = n.board;
      inputs = n.inputs;
      gates = fewer x;
      outputs = sym (length-map (net_of n).outputs (lowered u) ∙ count_outputs n) x;
      fanins = (ap (λ (r : Network). without_places 0 128 g 1 r.fanins) (sym same) ∙ removed_fanins u g gs few) x;
      signals = (ap (λ (r : Network). map (lowered u) (without_places 0 2048 (16 * g) 16 r.signals)) (sym same) ∙ removed_signals u g gs few) x;
      weights = (ap (λ (r : Network). without_places (pos 0) 2048 (16 * g) 16 r.weights) (sym same) ∙ removed_weights u g gs few) x;
      thresholds = (ap (λ (r : Network). without_places (pos 0) 128 g 1 r.thresholds) (sym same) ∙ removed_thresholds u g gs few) x;
      drivers = (ap (λ (r : Network). map (lowered u) r.drivers) (sym same) ∙ drivers_map (lowered u) (net_of n).outputs (lowered_zero u)) x;
    }
