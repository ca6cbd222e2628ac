-- The marked gates copied one after the other: what the arrays hold after the gates so far. Assumes nothing.
use mathlib.Core.Path.{◌≡◌, refl, sym, ap, ◌∙◌, subst}
use mathlib.Core.Bool.{Bool, true, false}
use mathlib.Core.List.{List, [], ◌∷◌, ◌++◌, map}
use Prim.Native.Nat.{ℕ, zero, suc, ◌+◌, ◌≤◌, ◌<◌}
use native.Mathlib.Omega.{arith}
use lib.IntN.{ℤ}
use lib.ListN.{length, get_or, take, set, replicate, length-map, length-append}
use lib.Seq.{take_all}
use Rattle.basics.specs.Lists.{Each}
use Rattle.basics.specs.ListLaws.{each_imp, tab_same}
use Rattle.basics.specs.PlaceLaws.{map_last}
use Rattle.basics.specs.TableLaws.{map_tab}
use Rattle.basics.specs.TestLaws.{T_is}
use Rattle.network.specs.Threshold.{Feed, Gate, Net}
use Rattle.network.specs.Limits.{signals_of}
use Rattle.network.specs.Sound.{Sound}
use Rattle.network.specs.LimitLaws.{gates_at, rise_below}
use Rattle.network.specs.RecordLaws.{sound_net, count_gates, gate_within}
use Rattle.network.specs.Record.{gate_of, net_of, layout, blank_record, sound_record, no_feed, no_gate, nth_gate, drivers_of, gate_record}
use Rattle.network.specs.Places.{ArraysOf}
use Rattle.network.specs.PlaceLaws.{changed_end, no_arrays, no_drivers, drivers_end}
use Rattle.network.specs.declared.Network.{Network}
use Rattle.network.specs.declared.GateRecord.{GateRecord}
use Rattle.network_places.specs.Parts.{StoredIn}
use Rattle.network_places.specs.StoreLaws.{stored_gates}
use Rattle.cut_theory.specs.Cut.{picked, new_signal, renamed_feed, renamed_gate, cut_by}
use Rattle.cut_theory.proofs.CopyLaws.{new_zero, picked_kept, picked_gone}
use Rattle.cut_signals.specs.Signals.{NewSignals}

-- ---- one gate with new signals
renamed_weight : (f : ℕ → ℕ) (fs : List Feed) (i : ℕ) → (get_or fs i no_feed).weight ≡ (get_or (map (renamed_feed f) fs) i no_feed).weight
unfolding renamed_feed
renamed_weight f [] i = refl
renamed_weight f (x ∷ fs) zero = refl
renamed_weight f (x ∷ fs) (suc i) = renamed_weight f fs i

-- by a table that has the new signals below n, and 0 for 0
renamed_signal : (F f : ℕ → ℕ) (n : ℕ) (fs : List Feed) → ((s : ℕ) → s < n → F s ≡ f s) → F 0 ≡ 0 → Each (λ s. s < n) (signals_of fs) → (i : ℕ)
    → F (get_or fs i no_feed).signal ≡ (get_or (map (renamed_feed f) fs) i no_feed).signal
unfolding renamed_feed signals_of
renamed_signal F f n [] e z h i = z
renamed_signal F f n (x ∷ fs) e z h zero = e x.signal h.0
renamed_signal F f n (x ∷ fs) e z h (suc i) = renamed_signal F f n fs e z h.1 i

renamed_signals : (F f : ℕ → ℕ) (n : ℕ) (g : Gate) → ((s : ℕ) → s < n → F s ≡ f s) → F 0 ≡ 0 → Each (λ s. s < n) (signals_of g.feeds)
    → map F (gate_record g).signals ≡ (gate_record (renamed_gate f g)).signals
unfolding gate_record renamed_gate
renamed_signals F f n g e z h =
    let old : ℕ → ℕ = λ i. (get_or g.feeds i no_feed).signal in
    let new : ℕ → ℕ = λ i. (get_or (map (renamed_feed f) g.feeds) i no_feed).signal in
    map_tab F 16 old ∙ tab_same 16 (λ i. F (old i)) new (λ i k. renamed_signal F f n g.feeds e z h i)

-- the places of a gate, with the row of its new signals
pub renamed_record : {gate : GateRecord} {row : List ℕ} (f : ℕ → ℕ) (x : Gate) → gate ≡ gate_record x → row ≡ (gate_record (renamed_gate f x)).signals
    → record { fanin = gate.fanin; threshold = gate.threshold; signals = row; weights = gate.weights } ≡ gate_record (renamed_gate f x)
unfolding gate_record renamed_gate
renamed_record f x e er =
    let old : ℕ → ℤ = λ i. (get_or x.feeds i no_feed).weight in
    let new : ℕ → ℤ = λ i. (get_or (map (renamed_feed f) x.feeds) i no_feed).weight in
    λ i. record {
      fanin = (ap (λ (z : GateRecord). z.fanin) e ∙ sym (length-map x.feeds (renamed_feed f))) i;
      threshold = ap (λ (z : GateRecord). z.threshold) e i;
      signals = er i;
      weights = (ap (λ (z : GateRecord). z.weights) e ∙ tab_same 16 old new (λ k h. renamed_weight f x.feeds k)) i;
    }

-- ---- the gates so far
abbrev copies : Net → List Bool → ℕ → List Gate
copies N ms g = map (renamed_gate (new_signal N.inputs ms)) (picked (take g ms) N.gates)

-- after g gates the record of the cut holds those that are marked, with new signals, and one output, which names the signal driver
pub record Copied (N : Net) (ms : List Bool) (driver : ℕ) (cut : Network) (g : ℕ) : Type 0 where
  pub few : cut.gates ≤ g
  pub within : g ≤ length N.gates
  pub taken : List Gate
  pub taken_are : copies N ms g ≡ taken
  pub many : length taken ≡ cut.gates
  pub arrays : ArraysOf taken cut.fanins cut.thresholds cut.signals cut.weights
  pub board_is : cut.board ≡ N.board
  pub inputs_are : cut.inputs ≡ N.inputs
  pub outputs_are : cut.outputs ≡ 1
  pub drivers_are : cut.drivers ≡ set (replicate 16 0) 0 driver

pub copied_none : (N : Net) (ms : List Bool) (driver : ℕ) (blank : Network) → blank ≡ blank_record
    → Copied N ms driver (record {
      board = N.board;
      inputs = N.inputs;
      gates = blank.gates;
      outputs = 1;
      fanins = blank.fanins;
      signals = blank.signals;
      weights = blank.weights;
      thresholds = blank.thresholds;
      drivers = set blank.drivers 0 driver;
    }) 0
unfolding picked blank_record
copied_none N ms driver blank e = rw e (record {
  few = omega arith;
  within = omega arith;
  taken = [];
  taken_are = refl;
  many = refl;
  arrays = no_arrays;
  board_is = refl;
  inputs_are = refl;
  outputs_are = refl;
  drivers_are = refl;
})

module _ {N : Net} {ms : List Bool} {driver : ℕ} {cut : Network} {g : ℕ} (c : Copied N ms driver cut g) where
  abbrev f : ℕ → ℕ
  f = new_signal N.inputs ms

  next : copies N ms (g + 1) ≡ copies N ms (suc g)
  next = ap (copies N ms) (let p : g + 1 ≡ suc g = omega arith in p)

  -- gate g is passed over
  pub copied_gone : g < length N.gates → get_or ms g false ≡ false → Copied N ms driver cut (g + 1)
  copied_gone h e = record {
    few = omega (arith, c.few);
    within = omega arith;
    taken = c.taken;
    taken_are = next ∙ ap (map (renamed_gate f)) (picked_gone g ms N.gates e) ∙ c.taken_are;
    many = c.many;
    arrays = c.arrays;
    board_is = c.board_is;
    inputs_are = c.inputs_are;
    outputs_are = c.outputs_are;
    drivers_are = c.drivers_are;
  }

  -- gate g, which is x, is stored with new signals
  pub copied_more : {x : Gate} {gate : GateRecord} {new : Network} → g < length N.gates → g < 128
      → get_or ms g false ≡ true → get_or N.gates g no_gate ≡ x → gate ≡ gate_record (renamed_gate (new_signal N.inputs ms) x)
      → StoredIn cut.gates gate cut new
      → Copied N ms driver (record {
        board = new.board;
        inputs = new.inputs;
        gates = new.gates + 1;
        outputs = new.outputs;
        fanins = new.fanins;
        signals = new.signals;
        weights = new.weights;
        thresholds = new.thresholds;
        drivers = new.drivers;
      }) (g + 1)
  copied_more {x} {gate} {new} h l on here e st =
      let gs = c.taken in
      let y = renamed_gate f x in
      let before = picked (take g ms) N.gates in
      let kept = picked_kept no_gate g ms N.gates h on ∙ ap (λ (z : Gate). before ++ (z ∷ [])) here in
      let gates_same : new.gates ≡ cut.gates = ap (λ (n : Network). n.gates) st.rest in
      record {
        few = omega (arith, c.few, gates_same);
        within = omega arith;
        taken = gs ++ (y ∷ []);
        taken_are = next ∙ ap (map (renamed_gate f)) kept ∙ map_last (renamed_gate f) before x ∙ ap (λ (zs : List Gate). zs ++ (y ∷ [])) c.taken_are;
        many = length-append gs (y ∷ []) ∙ ap (λ (n : ℕ). n + 1) (c.many ∙ sym gates_same);
        arrays = stored_gates (changed_end gs cut.gates y c.many) (omega (arith, c.few)) c.arrays (rw e at st.arrays);
        board_is = ap (λ (n : Network). n.board) st.rest ∙ c.board_is;
        inputs_are = ap (λ (n : Network). n.inputs) st.rest ∙ c.inputs_are;
        outputs_are = ap (λ (n : Network). n.outputs) st.rest ∙ c.outputs_are;
        drivers_are = ap (λ (n : Network). n.drivers) st.rest ∙ c.drivers_are;
      }

  -- all gates were looked at
  pub copied_all : (d : ℕ) → length ms ≡ length N.gates → length N.gates ≤ g → driver ≡ new_signal N.inputs ms d → cut ≡ layout (cut_by N ms d)
  unfolding layout cut_by
  copied_all d long h e =
      let whole : c.taken ≡ map (renamed_gate f) (picked ms N.gates) =
      sym c.taken_are ∙ ap (λ (l : List Bool). map (renamed_gate f) (picked l N.gates)) (take_all g ms (omega arith)) in
      let one : set (replicate 16 0) 0 driver ≡ drivers_of (f d ∷ []) =
      ap (λ (ds : List ℕ). set ds 0 driver) (sym no_drivers) ∙ sym (drivers_end [] 0 driver refl (omega arith)) ∙ ap (λ (s : ℕ). drivers_of (s ∷ [])) e in
      let arrays = subst (λ (gs : List Gate). ArraysOf gs cut.fanins cut.thresholds cut.signals cut.weights) whole c.arrays in
      λ x. record {
        board = c.board_is x;
        inputs = c.inputs_are x;
        gates = (sym c.many ∙ ap length whole) x;
        outputs = c.outputs_are x;
        fanins = arrays.fanins_are x;
        signals = arrays.signals_are x;
        weights = arrays.weights_are x;
        thresholds = arrays.thresholds_are x;
        drivers = (c.drivers_are ∙ one) x;
      }

-- ---- the gates of a sound record
module _ (r : Network) (whole : sound_record r ≡ true) where
  net_sound : Sound (net_of r)
  net_sound = sound_net r (T_is (sound_record r) whole)

  -- a gate's row by a table of new signals
  pub copied_row : (marks : List Bool) (numbers : List ℕ) (g : ℕ) → NewSignals marks r.inputs r.gates numbers → g < r.gates
      → map (λ s. get_or numbers s 0) (gate_record (gate_of r g)).signals
      ≡ (gate_record (renamed_gate (new_signal (net_of r).inputs (take r.gates marks)) (gate_of r g))).signals
  unfolding net_of
  copied_row marks numbers g n h =
      let f = new_signal r.inputs (take r.gates marks) in
      let all = r.inputs + r.gates in
      let ss = signals_of (nth_gate (net_of r).gates g).feeds in
      let rise = (gates_at r.inputs g (net_of r).gates no_gate net_sound.all_gates (omega (arith, count_gates r))).rise in
      let below = each_imp (λ s. s < r.inputs + g) (λ s. s < all) (λ s k. omega arith) ss (rise_below 0 (r.inputs + g) ss rise) in
      renamed_signals (λ s. get_or numbers s 0) f all (gate_of r g) n.each (n.each 0 (omega arith) ∙ new_zero r.inputs (take r.gates marks))
      (subst (λ (x : Gate). Each (λ s. s < all) (signals_of x.feeds)) (gate_within r g h) below)
