-- The gates, read one after another: what the loop keeps, from its start to its end. Assumes nothing.
use mathlib.Core.Path.{◌≡◌, refl, sym, ap, ◌∙◌, subst}
use mathlib.Core.List.{List, [], ◌∷◌, ◌++◌}
use Prim.Native.Nat.{ℕ, suc, ◌+◌, ◌-◌, ◌≤◌, ◌<◌, zero-le}
use native.Mathlib.Nat.{sub-zero, add-zero}
use native.Mathlib.Omega.{arith}
use lib.IntN.{ℤ, pos}
use lib.ListN.{length, replicate, length-append}
use Rattle.network.specs.Threshold.{Gate}
use Rattle.network.specs.Record.{layout, blank_record, gate_record}
use Rattle.network.specs.declared.Board.{Board}
use Rattle.network.specs.declared.GateRecord.{GateRecord}
use Rattle.network.specs.declared.Network.{Network}
use Rattle.network.specs.Places.{ArraysOf}
use Rattle.network.specs.PlaceLaws.{changed_end, no_arrays, no_drivers}
use Rattle.network_places.specs.Parts.{StoredIn}
use Rattle.network_places.specs.StoreLaws.{stored_gates, with_arrays}
use Rattle.pmn_format.specs.Format.{refused, done, parse_gate, parse_gates}
use Rattle.pmn_format.specs.Answered.{mapped}
use Rattle.pmn_format.proofs.TurnLaws.{gates_refused, gates_more, gates_ended}
use Rattle.pmn_format.proofs.AnsweredLaws.{found, failed}
use Rattle.pmn_reader.specs.ReadAnswers.{gates_record}

-- the record of a network with so many gates, none of which is read, and no outputs
abbrev pub unread : Board → ℕ → ℕ → Network
unread board inputs count = record {
  board = board;
  inputs = inputs;
  gates = count;
  outputs = 0;
  fanins = replicate 128 0;
  signals = replicate 2048 0;
  weights = replicate 2048 (pos 0);
  thresholds = replicate 128 (pos 0);
  drivers = replicate 16 0;
}

-- after g of count gates: the record's arrays hold them, and the others are read from the bytes that are left
pub record GatesSoFar (bytes : List ℕ) (board : Board) (inputs count : ℕ) (r : Network) (g : ℕ) (left : List ℕ) : Type 0 where
  pub taken : List Gate
  pub many : length taken ≡ g
  pub few : g ≤ count
  pub head : r ≡ with_arrays (unread board inputs count) r.fanins r.thresholds r.signals r.weights
  pub arrays : ArraysOf taken r.fanins r.thresholds r.signals r.weights
  pub rest : parse_gates board inputs count [] bytes ≡ parse_gates board (inputs + g) (count - g) taken left

pub gates_start : (bytes : List ℕ) (board : Board) (inputs count : ℕ) {n : Network} → n ≡ blank_record
    → GatesSoFar bytes board inputs count (record n { board = board; inputs = inputs; gates = count }) 0 bytes
unfolding blank_record
gates_start bytes board inputs count {n} e =
    subst (λ (r : Network). GatesSoFar bytes board inputs count (record r { board = board; inputs = inputs; gates = count }) 0 bytes) (sym e) (record {
      taken = [];
      many = refl;
      few = zero-le;
      head = refl;
      arrays = no_arrays;
      rest = ap (λ (k : ℕ). parse_gates board k count [] bytes) (sym (add-zero inputs))
          ∙ ap (λ (k : ℕ). parse_gates board (inputs + 0) k [] bytes) (sym (sub-zero count));
    })

module _ {bytes : List ℕ} {board : Board} {inputs count : ℕ} {r : Network} {g : ℕ} {left : List ℕ} (h : GatesSoFar bytes board inputs count r g left) where
  pub gates_bad : {k : ℕ} → g < count → refused k ≡ mapped gate_record (parse_gate board (inputs + g) left)
      → refused k ≡ mapped (gates_record board inputs) (parse_gates board inputs count [] bytes)
  gates_bad j e = sym (ap (mapped (gates_record board inputs)) (h.rest ∙ gates_refused board (inputs + g) count g h.taken left j (failed gate_record _ e)))

  pub gates_got : {gate : GateRecord} {after : List ℕ} {new : Network} → g < count → count ≤ 128
      → done gate after ≡ mapped gate_record (parse_gate board (inputs + g) left)
      → StoredIn g gate r new → GatesSoFar bytes board inputs count new (g + 1) after
  gates_got {gate} {after} {new} j few e st =
      let gs = h.taken in
      let f = found gate_record (parse_gate board (inputs + g) left) e in
      let x = f.what in
      record {
        taken = gs ++ (x ∷ []);
        many = length-append gs (x ∷ []) ∙ ap (λ (n : ℕ). n + 1) h.many;
        few = omega arith;
        head = st.rest ∙ ap (λ (n : Network). with_arrays n new.fanins new.thresholds new.signals new.weights) h.head;
        arrays = stored_gates (changed_end gs g x h.many) (omega arith) h.arrays (rw f.holds at st.arrays);
        rest = h.rest ∙ gates_more board (inputs + g) count g gs left j f.reads
            ∙ ap (λ (k : ℕ). parse_gates board k (count - (g + 1)) (gs ++ (x ∷ [])) after) {x = suc (inputs + g)} {y = inputs + (g + 1)} (omega arith);
      }

  pub gates_end : count ≤ g → done r left ≡ mapped (gates_record board inputs) (parse_gates board inputs count [] bytes)
  unfolding layout
  gates_end j =
      let gs = h.taken in
      let e : count ≡ length gs = omega (arith, h.many, h.few) in
      ap (λ (n : Network). done n left) h.head
      ∙ (λ x. done (record {
        board = board;
        inputs = inputs;
        gates = e x;
        outputs = 0;
        fanins = h.arrays.fanins_are x;
        signals = h.arrays.signals_are x;
        weights = h.arrays.weights_are x;
        thresholds = h.arrays.thresholds_are x;
        drivers = sym no_drivers x;
      }) left)
      ∙ sym (ap (mapped (gates_record board inputs)) (h.rest ∙ gates_ended board (inputs + g) count g gs left j))
