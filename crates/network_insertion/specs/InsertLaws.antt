-- The record of a network with one more gate: its arrays with the gate's places, and its signals raised. Assumes nothing.
use Rattle.std.specs.Prelude.{◌≡◌, true, ℤ, pos}
use Rattle.std.proofs.Math.Path.{refl, sym, ap}
use Rattle.std.proofs.Common.{◌∙◌, subst}
use mathlib.Core.List.{List, [], ◌∷◌, map}
use Prim.Native.Nat.{ℕ, zero, suc, ◌+◌, ◌*◌, ◌/◌, ◌%◌, ◌-◌, ◌≤◌, ◌<◌}
use Rattle.std.proofs.Math.Decide.{dec_lt}
use native.Mathlib.Omega.{arith}
use Rattle.std.proofs.Math.ListN
use Rattle.std.proofs.Math.ListN.{length, get_or, length-map, get_or-eq_default}
use Rattle.basics.specs.TestLaws.{T_is}
use Rattle.basics.specs.ListLaws.{length_tab, get_or_tab, tab_same, each_get_or}
use Rattle.basics.specs.TableLaws.{map_tab, tab_any, get_d_map}
use Rattle.network.specs.declared.Network.{Network}
use Rattle.network.specs.declared.GateRecord.{GateRecord}
use Rattle.network.specs.Threshold.{Feed, Gate}
use Rattle.network.specs.Limits.{signals_of}
use Rattle.network.specs.Record.{net_of, layout, sound_record, no_feed, no_gate, nth_gate, place_of, fanins_of, thresholds_of}
use Rattle.network.specs.Record.{place_signals, place_weights, drivers_of, gate_in, gate_record}
use Rattle.network.specs.Changes.{raised, raised_feed, raised_gate, insert_at, inserted}
use Rattle.network.specs.ChangeLaws.{raised_low}
use Rattle.network.specs.Sound.{GatesOk, Has}
use Rattle.network.specs.LimitLaws.{rise_below, gates_at}
use Rattle.network.specs.Places.{GateStored}
use Rattle.network.specs.PlaceLaws.{GateChanged, gate_beyond}
use Rattle.network.specs.RecordLaws.{ArrayLengths, layout_net_of, sound_net, count_gates, count_outputs}
use Rattle.network_places.specs.RemoveLaws.{place_none, drivers_map}
use Rattle.network_places.specs.StoreLaws.{stored_gates}
use Rattle.network_gaps.specs.Gaps.{source, with_places, MembersBelow}
use Rattle.network_gaps.specs.GapLaws.{source_low, source_new, source_high}
use Rattle.network_insertion.specs.Insertions.{Insertable}

-- ---- a list with one member more
module _ {A : Type 0} (d x : A) where
  pub length_insert : (i : ℕ) (xs : List A) → length (insert_at i x xs) ≡ suc (length xs)
  unfolding insert_at
  length_insert zero xs = refl
  length_insert (suc i) [] = refl
  length_insert (suc i) (y ∷ ys) = ap suc (length_insert i ys)

  insert_low : (i j : ℕ) (xs : List A) → i ≤ length xs → j < i → get_or (insert_at i x xs) j d ≡ get_or xs j d
  unfolding insert_at
  insert_low zero j xs l h = absurd (omega arith)
  insert_low (suc i) j [] l h = absurd (omega arith)
  insert_low (suc i) zero (y ∷ ys) l h = refl
  insert_low (suc i) (suc j) (y ∷ ys) l h = insert_low i j ys (omega arith) (omega arith)

  pub insert_here : (i : ℕ) (xs : List A) → i ≤ length xs → get_or (insert_at i x xs) i d ≡ x
  unfolding insert_at
  insert_here zero xs l = refl
  insert_here (suc i) [] l = absurd (omega arith)
  insert_here (suc i) (y ∷ ys) l = insert_here i ys (omega arith)

  insert_high : (i j : ℕ) (xs : List A) → i ≤ length xs → i ≤ j → get_or (insert_at i x xs) (suc j) d ≡ get_or xs j d
  unfolding insert_at
  insert_high zero j xs l h = refl
  insert_high (suc i) j [] l h = absurd (omega arith)
  insert_high (suc i) zero (y ∷ ys) l h = absurd (omega arith)
  insert_high (suc i) (suc j) (y ∷ ys) l h = insert_high i j ys (omega arith) (omega arith)

-- what holds of the member put in and of the others holds of each
pub insert_each : {A : Type 0} (P : A → Type 0) (d x : A) (i : ℕ) (xs : List A) → P x → ((j : ℕ) → j < length xs → P (get_or xs j d))
    → (j : ℕ) → j < length (insert_at i x xs) → P (get_or (insert_at i x xs) j d)
unfolding insert_at
insert_each P d x zero xs h hs zero l = h
insert_each P d x zero xs h hs (suc j) l = hs j (omega arith)
insert_each P d x (suc i) [] h hs zero l = h
insert_each P d x (suc i) [] h hs (suc j) l = absurd (omega arith)
insert_each P d x (suc i) (y ∷ ys) h hs zero l = hs zero (omega arith)
insert_each P d x (suc i) (y ∷ ys) h hs (suc j) l = insert_each P d x i ys h (λ k m. hs (suc k) (omega arith)) j (omega arith)

-- the default put in
insert_at_lem : {A : Type 0} (d : A) (n i j : ℕ) (xs : List A) → i ≤ length xs → length xs ≤ n
    → get_or (insert_at i d xs) j d ≡ get_or xs (source n i 1 j) d
insert_at_lem d n i j xs l h = elim (dec_lt j i) as (λ t. get_or (insert_at i d xs) j d ≡ get_or xs (source n i 1 j) d) [
  | yes k ↦ insert_low d d i j xs l k ∙ ap (λ (m : ℕ). get_or xs m d) (sym (source_low n i 1 j k))
  | no k ↦ elim (dec_lt i j) as (λ t. get_or (insert_at i d xs) j d ≡ get_or xs (source n i 1 j) d) [
    | yes m ↦ ap (λ (q : ℕ). get_or (insert_at i d xs) q d) (let e : j ≡ suc (j - 1) = omega arith in e)
        ∙ insert_high d d i (j - 1) xs l (omega arith)
        ∙ ap (λ (q : ℕ). get_or xs q d) (sym (source_high n i 1 j (omega arith)))
    | no m ↦ ap (λ (q : ℕ). get_or (insert_at i d xs) q d) (let e : j ≡ i = omega arith in e) ∙ insert_here d d i xs l
        ∙ sym (ap (λ (q : ℕ). get_or xs q d) (source_new n i 1 j (omega arith) (omega arith)) ∙ get_or-eq_default xs d {n = n} h)
  ]
]

-- another member put in
changed_insert : (gs : List Gate) (g : ℕ) (x : Gate) → g ≤ length gs → GateChanged (insert_at g no_gate gs) (insert_at g x gs) g x
changed_insert gs g x l = record {
  here = insert_here no_gate x g gs l;
  elsewhere = λ h n. elim (dec_lt h g) as (λ t. nth_gate (insert_at g x gs) h ≡ nth_gate (insert_at g no_gate gs) h) [
    | yes k ↦ insert_low no_gate x g h gs l k ∙ sym (insert_low no_gate no_gate g h gs l k)
    | no k ↦ subst (λ (m : ℕ). nth_gate (insert_at g x gs) m ≡ nth_gate (insert_at g no_gate gs) m)
        (let e : suc (h - 1) ≡ h = omega arith in e)
        (insert_high no_gate x g (h - 1) gs l (omega arith) ∙ sym (insert_high no_gate no_gate g (h - 1) gs l (omega arith)))
  ];
}

-- ---- raised gates, feeds and places

-- feed i of a raised gate
feed_raised : (u : ℕ) (fs : List Feed) (i : ℕ) → 0 < u → get_or (map (raised_feed u) fs) i no_feed ≡ raised_feed u (get_or fs i no_feed)
unfolding raised_feed
feed_raised u fs i h = subst (λ (f : Feed). get_or (map (raised_feed u) fs) i f ≡ raised_feed u (get_or fs i no_feed))
    (λ x. record { signal = raised_low u 0 h x; weight = pos 0 }) (ListN.get_or-map (raised_feed u) fs i no_feed)

-- the raised gates with an empty one put in
abbrev raised_with_gap : ℕ → ℕ → List Gate → List Gate
raised_with_gap u g gs = insert_at g no_gate (map (raised_gate u) gs)

module _ (u g : ℕ) (gs : List Gate) (up : 0 < u) (l : g ≤ length gs) (few : length gs ≤ 128) where
  gate_opened : (h : ℕ) → nth_gate (raised_with_gap u g gs) h ≡ raised_gate u (nth_gate gs (source 128 g 1 h))
  unfolding raised_gate
  gate_opened h =
      let long = length-map gs (raised_gate u) in
      insert_at_lem no_gate 128 g h (map (raised_gate u) gs) (omega (arith, long)) (omega (arith, long))
      ∙ ListN.get_or-map (raised_gate u) gs (source 128 g 1 h) no_gate

  -- the feed of the place that moves to place p
  place_moved : (p : ℕ) → get_or (nth_gate gs (source 128 g 1 (p / 16))).feeds (p % 16) no_feed ≡ place_of gs (source 2048 (16 * g) 16 p)
  unfolding place_of
  place_moved p =
      let goal : Type 0 = get_or (nth_gate gs (source 128 g 1 (p / 16))).feeds (p % 16) no_feed ≡ place_of gs (source 2048 (16 * g) 16 p) in
      elim (dec_lt (p / 16) g) as (λ t. goal) [
        | yes k ↦ rw (source_low 128 g 1 (p / 16) k, source_low 2048 (16 * g) 16 p (omega arith))
        | no k ↦ elim (dec_lt g (p / 16)) as (λ t. goal) [
          | yes m ↦
              let a : (p - 16) / 16 ≡ p / 16 - 1 = omega arith in
              let b : (p - 16) % 16 ≡ p % 16 = omega arith in
              rw (source_high 128 g 1 (p / 16) (omega arith), source_high 2048 (16 * g) 16 p (omega arith), a, b)
          | no m ↦ ap (λ (q : ℕ). get_or (nth_gate gs q).feeds (p % 16) no_feed) (source_new 128 g 1 (p / 16) (omega arith) (omega arith))
              ∙ ap (λ (y : Gate). get_or y.feeds (p % 16) no_feed) (gate_beyond gs 128 few)
              ∙ sym (ap (place_of gs) (source_new 2048 (16 * g) 16 p (omega arith) (omega arith)) ∙ place_none gs few 2048 (omega arith))
        ]
      ]

  place_opened : (p : ℕ) → place_of (raised_with_gap u g gs) p ≡ raised_feed u (place_of gs (source 2048 (16 * g) 16 p))
  unfolding place_of raised_gate
  place_opened p = ap (λ (y : Gate). get_or y.feeds (p % 16) no_feed) (gate_opened (p / 16))
      ∙ feed_raised u (nth_gate gs (source 128 g 1 (p / 16))).feeds (p % 16) up ∙ ap (raised_feed u) (place_moved p)

  -- ---- each array of the record, with room for the gate's places
  opened_signals : map (raised u) (with_places 0 2048 (16 * g) 16 (place_signals gs)) ≡ place_signals (raised_with_gap u g gs)
  unfolding with_places place_signals raised_feed
  opened_signals = map_tab (raised u) 2048 (λ p. get_or (place_signals gs) (source 2048 (16 * g) 16 p) 0)
      ∙ tab_same 2048 (λ p. raised u (get_or (place_signals gs) (source 2048 (16 * g) 16 p) 0)) (λ p. (place_of (raised_with_gap u g gs) p).signal) λ p h.
      ap (raised u) (tab_any 0 2048 (λ q. (place_of gs q).signal) (source 2048 (16 * g) 16 p)
      (λ k. ap (λ (f : Feed). f.signal) (place_none gs few (source 2048 (16 * g) 16 p) k)))
      ∙ sym (ap (λ (f : Feed). f.signal) (place_opened p))

  opened_weights : with_places (pos 0) 2048 (16 * g) 16 (place_weights gs) ≡ place_weights (raised_with_gap u g gs)
  unfolding with_places place_weights raised_feed
  opened_weights = tab_same 2048 (λ p. get_or (place_weights gs) (source 2048 (16 * g) 16 p) (pos 0)) (λ p. (place_of (raised_with_gap u g gs) p).weight) λ p h.
      tab_any (pos 0) 2048 (λ q. (place_of gs q).weight) (source 2048 (16 * g) 16 p)
      (λ k. ap (λ (f : Feed). f.weight) (place_none gs few (source 2048 (16 * g) 16 p) k))
      ∙ sym (ap (λ (f : Feed). f.weight) (place_opened p))

  opened_fanins : with_places 0 128 g 1 (fanins_of gs) ≡ fanins_of (raised_with_gap u g gs)
  unfolding with_places fanins_of raised_gate
  opened_fanins = tab_same 128 (λ h. get_or (fanins_of gs) (source 128 g 1 h) 0) (λ h. length (nth_gate (raised_with_gap u g gs) h).feeds) λ h k.
      tab_any 0 128 (λ h. length (nth_gate gs h).feeds) (source 128 g 1 h)
      (λ k. ap (λ (y : Gate). length y.feeds) (gate_beyond gs (source 128 g 1 h) (omega arith)))
      ∙ sym (ap (λ (y : Gate). length y.feeds) (gate_opened h) ∙ length-map (nth_gate gs (source 128 g 1 h)).feeds (raised_feed u))

  opened_thresholds : with_places (pos 0) 128 g 1 (thresholds_of gs) ≡ thresholds_of (raised_with_gap u g gs)
  unfolding with_places thresholds_of raised_gate
  opened_thresholds = tab_same 128 (λ h. get_or (thresholds_of gs) (source 128 g 1 h) (pos 0)) (λ h. (nth_gate (raised_with_gap u g gs) h).threshold) λ h k.
      tab_any (pos 0) 128 (λ h. (nth_gate gs h).threshold) (source 128 g 1 h)
      (λ k. ap (λ (y : Gate). y.threshold) (gate_beyond gs (source 128 g 1 h) (omega arith)))
      ∙ sym (ap (λ (y : Gate). y.threshold) (gate_opened h))

-- ---- every signal of a sound record can be raised
signal_low : (n : ℕ) (gs : List Gate) → GatesOk n gs → (p : ℕ) → 0 < n → (place_of gs p).signal < n + length gs
unfolding place_of signals_of
signal_low n gs ok p z = elim (dec_lt (p / 16) (length gs)) as (λ t. (get_or (nth_gate gs (p / 16)).feeds (p % 16) no_feed).signal < n + length gs) [
  | yes k ↦
      let fs : List Feed = (nth_gate gs (p / 16)).feeds in
      elim (dec_lt (p % 16) (length fs)) as (λ t. (get_or fs (p % 16) no_feed).signal < n + length gs) [
        | yes m ↦
            let low = each_get_or (λ s. s < n + p / 16) (signals_of fs) 0
            (rise_below 0 (n + p / 16) (signals_of fs) (gates_at n (p / 16) gs no_gate ok k).rise)
            (p % 16) (omega (arith, length-map fs (λ f. f.signal))) in
            omega (arith, low, get_d_map (λ f. f.signal) fs (p % 16) no_feed 0 m)
        | no m ↦ subst (λ (f : Feed). f.signal < n + length gs) (sym (get_or-eq_default fs no_feed {n = p % 16} (omega arith))) (omega arith)
      ]
  | no k ↦ subst (λ (y : Gate). (get_or y.feeds (p % 16) no_feed).signal < n + length gs)
      (sym (gate_beyond gs (p / 16) (omega arith))) (omega arith)
]

pub low_signals : (n : Network) → ArrayLengths n → sound_record n ≡ true → MembersBelow 255 n.signals
unfolding layout place_signals
low_signals n l e =
    let t = T_is (sound_record n) e in
    let s = sound_net n t in
    let gs = (net_of n).gates in
    record {
      each = λ p. subst (λ (r : Network). get_or r.signals p 0 < 255) (layout_net_of n l t)
          (elim (dec_lt p 2048) as (λ d. get_or (place_signals gs) p 0 < 255) [
            | yes k ↦
                let low = signal_low (net_of n).inputs gs s.all_gates p (omega (arith, s.few_inputs)) in
                omega (arith, get_or_tab 0 2048 (λ p. (place_of gs p).signal) p k, low, s.few_inputs, s.few_gates)
            | no k ↦
                let long = length_tab 2048 (λ p. (place_of gs p).signal) in
                omega (arith, get_or-eq_default (place_signals gs) 0 {n = p} (omega (arith, long)))
          ]);
    }

pub low_drivers : (n : Network) → ArrayLengths n → sound_record n ≡ true → MembersBelow 255 n.drivers
unfolding layout drivers_of
low_drivers n l e =
    let t = T_is (sound_record n) e in
    let s = sound_net n t in
    let os = (net_of n).outputs in
    let each : (j : ℕ) → get_or os j 0 < 255 = λ j. elim (dec_lt j (length os)) as (λ d. get_or os j 0 < 255) [
      | yes k ↦ omega (arith, each_get_or (Has (net_of n)) os 0 s.all_outputs j k, s.few_inputs, s.few_gates)
      | no k ↦ omega (arith, get_or-eq_default os 0 {n = j} (omega arith))
    ] in
    record {
      each = λ p. subst (λ (r : Network). get_or r.drivers p 0 < 255) (layout_net_of n l t)
          (elim (dec_lt p 16) as (λ d. get_or (drivers_of os) p 0 < 255) [
            | yes k ↦ omega (arith, get_or_tab 0 16 (λ j. get_or os j 0) p k, each p)
            | no k ↦
                let long = length_tab 16 (λ j. get_or os j 0) in
                omega (arith, get_or-eq_default (drivers_of os) 0 {n = p} (omega (arith, long)))
          ]);
    }

-- ---- the record with the gate's places is that of the network with the gate
module _ (n : Network) (u : ℕ) (gate : GateRecord) (l : ArrayLengths n) (s : Insertable n u) (packed : gate ≡ gate_record (gate_in gate)) where
  abbrev place : ℕ
  place = u - n.inputs

  abbrev old : List Gate
  old = (net_of n).gates

  abbrev new : List Gate
  new = insert_at place (gate_in gate) (map (raised_gate u) old)

  same : layout (net_of n) ≡ n
  same = layout_net_of n l (T_is (sound_record n) s.sound)

  up : 0 < u
  unfolding net_of
  up = omega (arith, s.above, (sound_net n (T_is (sound_record n) s.sound)).few_inputs)

  fits : place ≤ length old
  fits = omega (arith, count_gates n, s.within, s.above)

  few : length old ≤ 128
  few = omega (arith, count_gates n, s.room)

  pub inserted_record : {fanins₀ signals₀ fanins signals drivers : List ℕ} {thresholds₀ weights₀ thresholds weights : List ℤ}
      → fanins₀ ≡ with_places 0 128 place 1 n.fanins
      → thresholds₀ ≡ with_places (pos 0) 128 place 1 n.thresholds
      → signals₀ ≡ map (raised u) (with_places 0 2048 (16 * place) 16 n.signals)
      → weights₀ ≡ with_places (pos 0) 2048 (16 * place) 16 n.weights
      → GateStored place gate fanins₀ thresholds₀ signals₀ weights₀ fanins thresholds signals weights
      → drivers ≡ map (raised u) n.drivers
      → ◌≡◌ {A = Network} (record {
        board = n.board;
        inputs = n.inputs;
        gates = n.gates + 1;
        outputs = n.outputs;
        fanins = fanins;
        signals = signals;
        weights = weights;
        thresholds = thresholds;
        drivers = drivers;
      }) (layout (inserted (net_of n) u (gate_in gate)))
  unfolding layout inserted net_of
  inserted_record fs ts ss ws stored ds =
      let long = length-map old (raised_gate u) in
      let change = changed_insert (map (raised_gate u) old) place (gate_in gate) (omega (arith, fits, long)) in
      let arrays = stored_gates change (omega (arith, s.within, s.above, s.room)) (record {
        fanins_are = fs ∙ ap (λ (r : Network). with_places 0 128 place 1 r.fanins) (sym same) ∙ opened_fanins u place old up fits few;
        thresholds_are = ts ∙ ap (λ (r : Network). with_places (pos 0) 128 place 1 r.thresholds) (sym same)
            ∙ opened_thresholds u place old up fits few;
        signals_are = ss ∙ ap (λ (r : Network). map (raised u) (with_places 0 2048 (16 * place) 16 r.signals)) (sym same)
            ∙ opened_signals u place old up fits few;
        weights_are = ws ∙ ap (λ (r : Network). with_places (pos 0) 2048 (16 * place) 16 r.weights) (sym same)
            ∙ opened_weights u place old up fits few;
      }) (rw packed at stored) in
      let more : n.gates + 1 ≡ length new =
      omega (arith, count_gates n, long, length_insert no_gate (gate_in gate) place (map (raised_gate u) old)) in
      λ x. record {
        board = n.board;
        inputs = n.inputs;
        gates = more x;
        outputs = sym (length-map (net_of n).outputs (raised u) ∙ count_outputs n) x;
        fanins = arrays.fanins_are x;
        signals = arrays.signals_are x;
        weights = arrays.weights_are x;
        thresholds = arrays.thresholds_are x;
        drivers = (ds ∙ ap (λ (r : Network). map (raised u) r.drivers) (sym same)
            ∙ drivers_map (raised u) (net_of n).outputs (raised_low u 0 up)) x;
      }
