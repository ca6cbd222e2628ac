-- Fields read one after another: after i of count of them, the next is refused, or is read and the others follow; after all of them,
-- what was read is the answer. Assumes nothing.
use Rattle.std.specs.Prelude.{◌≡◌, List, [], ◌∷◌, ◌++◌, Bool}
use Rattle.std.proofs.Math.Path.{refl, ap}
use Rattle.std.proofs.Common.{◌∙◌, arith}
use Prim.Native.Nat.{ℕ, suc, ◌+◌, ◌-◌, ◌<◌, ◌≤◌}
use Rattle.network.specs.Threshold.{Feed, Gate}
use Rattle.network.specs.Limits.{gate_signal}
use Rattle.network.specs.declared.Board.{Board}
use Rattle.pmn_format.specs.Format.{Read, refused, done, byte_then, check, and_then, parse_feed, parse_feeds, parse_gate, parse_gates, parse_outputs}

-- a field of one byte, and what follows it
byte_first : {A : Type 0} (l : List ℕ) (k : ℕ → List ℕ → Read A) → byte_then l k ≡ and_then (byte_then l done) k
byte_first [] k = refl
byte_first (b ∷ l) k = refl

-- ---- the feeds of the gate with signal own
module _ (own count i low : ℕ) (acc : List Feed) (l : List ℕ) where
  feeds_next : Feed → List ℕ → Read (List Feed)
  feeds_next f m = parse_feeds own (count - (i + 1)) (suc f.signal) (acc ++ (f ∷ [])) m

  feeds_turn : i < count → parse_feeds own (count - i) low acc l ≡ and_then (parse_feed own low l) feeds_next
  unfolding feeds_next
  feeds_turn h = ap (λ (k : ℕ). parse_feeds own k low acc l) {x = count - i} {y = suc (count - (i + 1))} (omega arith)

  pub feeds_refused : {code : ℕ} → i < count → parse_feed own low l ≡ refused code → parse_feeds own (count - i) low acc l ≡ refused code
  feeds_refused h e = feeds_turn h ∙ ap (λ (r : Read Feed). and_then r feeds_next) e

  pub feeds_more : {f : Feed} {m : List ℕ} → i < count → parse_feed own low l ≡ done f m
      → parse_feeds own (count - i) low acc l ≡ parse_feeds own (count - (i + 1)) (suc f.signal) (acc ++ (f ∷ [])) m
  unfolding feeds_next
  feeds_more h e = feeds_turn h ∙ ap (λ (r : Read Feed). and_then r feeds_next) e

  pub feeds_ended : count ≤ i → parse_feeds own (count - i) low acc l ≡ done acc l
  feeds_ended h = ap (λ (k : ℕ). parse_feeds own k low acc l) {x = count - i} {y = 0} (omega arith)

-- ---- the gates, the next one with signal own
module _ (b : Board) (own count i : ℕ) (acc : List Gate) (l : List ℕ) where
  gates_next : Gate → List ℕ → Read (List Gate)
  gates_next g m = parse_gates b (suc own) (count - (i + 1)) (acc ++ (g ∷ [])) m

  gates_turn : i < count → parse_gates b own (count - i) acc l ≡ and_then (parse_gate b own l) gates_next
  unfolding gates_next
  gates_turn h = ap (λ (k : ℕ). parse_gates b own k acc l) {x = count - i} {y = suc (count - (i + 1))} (omega arith)

  pub gates_refused : {code : ℕ} → i < count → parse_gate b own l ≡ refused code → parse_gates b own (count - i) acc l ≡ refused code
  gates_refused h e = gates_turn h ∙ ap (λ (r : Read Gate). and_then r gates_next) e

  pub gates_more : {g : Gate} {m : List ℕ} → i < count → parse_gate b own l ≡ done g m
      → parse_gates b own (count - i) acc l ≡ parse_gates b (suc own) (count - (i + 1)) (acc ++ (g ∷ [])) m
  unfolding gates_next
  gates_more h e = gates_turn h ∙ ap (λ (r : Read Gate). and_then r gates_next) e

  pub gates_ended : count ≤ i → parse_gates b own (count - i) acc l ≡ done acc l
  gates_ended h = ap (λ (k : ℕ). parse_gates b own k acc l) {x = count - i} {y = 0} (omega arith)

-- ---- the outputs
module _ (inputs gates count i : ℕ) (acc l : List ℕ) where
  outputs_next : ℕ → List ℕ → Read (List ℕ)
  outputs_next x m = parse_outputs inputs gates (count - (i + 1)) (acc ++ (x ∷ [])) m

  outputs_byte : ℕ → List ℕ → Read (List ℕ)
  outputs_byte x m = check (gate_signal inputs gates x) 8 (outputs_next x m)

  outputs_turn : i < count → parse_outputs inputs gates (count - i) acc l ≡ and_then (byte_then l done) outputs_byte
  unfolding outputs_byte outputs_next
  outputs_turn h = ap (λ (k : ℕ). parse_outputs inputs gates k acc l) {x = count - i} {y = suc (count - (i + 1))} (omega arith) ∙ byte_first l outputs_byte

  pub outputs_short : {code : ℕ} → i < count → byte_then l done ≡ refused code → parse_outputs inputs gates (count - i) acc l ≡ refused code
  outputs_short h e = outputs_turn h ∙ ap (λ (r : Read ℕ). and_then r outputs_byte) e

  -- by the test of the next one
  pub outputs_more : {x : ℕ} {m : List ℕ} {b : Bool} → i < count → byte_then l done ≡ done x m → gate_signal inputs gates x ≡ b
      → parse_outputs inputs gates (count - i) acc l ≡ check b 8 (parse_outputs inputs gates (count - (i + 1)) (acc ++ (x ∷ [])) m)
  unfolding outputs_byte outputs_next
  outputs_more {x} {m} h e f =
      outputs_turn h ∙ ap (λ (r : Read ℕ). and_then r outputs_byte) e ∙ ap (λ (b : Bool). check b 8 (outputs_next x m)) f

  pub outputs_ended : count ≤ i → parse_outputs inputs gates (count - i) acc l ≡ done acc l
  outputs_ended h = ap (λ (k : ℕ). parse_outputs inputs gates k acc l) {x = count - i} {y = 0} (omega arith)
