-- What a sound record gives to the lanes, and that the words of the lanes are those of single readings. Assumes nothing.
use mathlib.Core.Path.{◌≡◌, sym, ap, ◌∙◌, subst}
use mathlib.Core.Bool.{true}
use mathlib.Core.List.{List, map}
use Prim.Native.Nat.{ℕ, ◌*◌, ◌≤◌, ◌<◌}
use native.Mathlib.Omega.{arith}
use lib.Dec.{T}
use lib.IntN.{ℤ, nat_abs}
use lib.ListN.{length, get_or}
use Rattle.basics.specs.Lists.{tab, Each}
use Rattle.basics.specs.ListLaws.{each_get_or, all_at}
use Rattle.basics.specs.TestLaws.{T_is}
use Rattle.basics.specs.Refusals.{checks}
use Rattle.network.specs.Threshold.{Feed, Gate, Assignment, run, values, frame, fits_frame, output_bits, word_of}
use Rattle.network.specs.Limits.{scale_ok}
use Rattle.network.specs.LimitLaws.{gates_at, gate_sizes}
use Rattle.network.specs.Record.{feed_at, feeds_from, gate_from, gate_of, net_of, no_feed, no_gate, sound_record}
use Rattle.network.specs.PlaceLaws.{length_feeds, feeds_at}
use Rattle.network.specs.RecordLaws.{sound_net, count_gates, gate_within}
use Rattle.network.specs.SoundLaws.{sized_of}
use Rattle.network.specs.declared.Network.{Network}
use Rattle.frame_reading.specs.Reading.{frame_answer, as_reading, reading}
use Rattle.frame_reading.specs.Evaluation.{bits_in}
use Rattle.frame_lanes.specs.Lanes.{lane, Masks, GateFits}
use Rattle.frame_pass.specs.Batch.{Readable, FirstWords}
use Rattle.frame_pass.specs.Lanes.{CanRunLanes, Lanes, LaneWords}

-- ---- a sound record
module _ (r : Network) (sound : sound_record r ≡ true) where
  gate_light : (g : ℕ) → g < r.gates → Each (λ f. nat_abs f.weight ≤ 1000000) (gate_of r g).feeds
  unfolding net_of
  gate_light g k =
      let ok = gates_at r.inputs g (net_of r).gates no_gate (sound_net r (T_is _ sound)).all_gates (omega (arith, count_gates r)) in
      (gate_sizes (gate_of r g) (subst (λ (x : Gate). T (scale_ok x)) (gate_within r g k) ok.scaled)).1

  -- a gate of a sound record may be read
  gate_fits : (g : ℕ) → g < r.gates → GateFits r.fanins r.weights g
  unfolding gate_from feed_at
  gate_fits g k = record {
    place = omega (arith, (sized_of r sound).few_gates);
    few = (sized_of r sound).few_feeds g k;
    light = λ i l.
        let count = get_or r.fanins g 0 in
        let feeds = feeds_from r.signals r.weights (16 * g) count in
        let within : i < length feeds = omega (arith, length_feeds r.signals r.weights (16 * g) count) in
        subst (λ (f : Feed). nat_abs f.weight ≤ 1000000) (feeds_at r.signals r.weights (16 * g) count i l)
        (each_get_or (λ f. nat_abs f.weight ≤ 1000000) feeds no_feed (gate_light g k) i within);
  }

  pub can_run : {masks : List ℤ} {lanes : ℕ} → Masks masks → lanes ≤ 64 → CanRunLanes r.fanins r.weights masks r.inputs r.gates lanes
  can_run m k = record {
    masked = m;
    few_inputs = (sized_of r sound).few_inputs;
    few_gates = (sized_of r sound).few_gates;
    few_lanes = k;
    gate = gate_fits;
  }

-- ---- single readings
reading_word : (r : Network) (x : ℕ) → sound_record r ≡ true → fits_frame r.inputs x ≡ true → (reading r x).bits ≡ word_of (output_bits (net_of r) (frame x))
unfolding reading frame_answer as_reading checks
reading_word r x s h = rw (s, h)

-- the words of the lanes are those of single readings
pub first_words : (r : Network) {frames words : List ℕ} {inputs all : List ℤ} → Readable r frames
    → Lanes (length frames) (λ f. frame (get_or frames f 0)) inputs
    → Lanes (length frames) (λ f. run r.inputs (tab r.gates (gate_of r)) (bits_in (lane inputs f))) all
    → LaneWords all (λ j. get_or r.drivers j 0) r.outputs (length frames) words → FirstWords r frames words
unfolding output_bits values net_of
first_words r {frames} {words} {inputs} {all} h i a w = record {
  long = w.long;
  word = λ f l.
      let bits : bits_in (lane all f) ≡ run r.inputs (tab r.gates (gate_of r)) (frame (get_or frames f 0))
      = a.bits f l ∙ ap (run r.inputs (tab r.gates (gate_of r))) (i.bits f l) in
      w.word f l
      ∙ ap (λ (ρ : Assignment). word_of (map ρ (tab r.outputs (λ j. get_or r.drivers j 0)))) bits
      ∙ sym (reading_word r (get_or frames f 0) h.sound (all_at (fits_frame r.inputs) frames 0 h.fit f l));
}
