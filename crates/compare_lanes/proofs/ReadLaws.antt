-- What a lane in which the gates have run says of the assignments that fit the joint, and so of its frame. Assumes nothing.
use mathlib.Core.Path.{◌≡◌, sym, ap, ◌∙◌}
use mathlib.Core.List.{List, []}
use Prim.Native.Nat.{ℕ, ◌+◌, ◌-◌, ◌*◌, ◌/◌, ◌%◌, ◌^◌, ◌≤◌, ◌<◌}
use native.Mathlib.Nat.{mod-lt}
use native.Mathlib.Decide.{dec_lt}
use native.Mathlib.Omega.{arith}
use lib.Dec.{eqb}
use lib.IntN.{ℤ, pos}
use lib.ListN.{get_or, replicate}
use borrow.Author.Count.{below_more}
use lib.Pow.{pow_pos, shl_exact, field, mod-mod-pow}
use Rattle.basics.specs.ListLaws.{length_tab}
use Rattle.network.specs.Threshold.{Net, Assignment, values, frame}
use Rattle.network_equivalence.specs.Consistent.{WellFormed}
use Rattle.network_equivalence.proofs.ConsistentLaws.{fits_one, values_fit, values_inputs}
use Rattle.frame_lanes.specs.Lanes.{mask_of, is_on}
use Rattle.compare_theory.specs.Joint.{Joint, gate_of, gates_of, FitsJoint}
use Rattle.compare_lanes.specs.Lanes.{lane_bits, Masked, FramesPut, GatesRun}
use Rattle.compare_lanes.specs.Reading.{Readable, SameBits, SameOutputs, CanCompare}
use Rattle.compare_lanes.specs.LaneLaws.{masked_none}

-- ---- the outputs, in each lane

-- the two signals of output j are d and o, whose rows are compared
module _ (lanes : List (List ℤ)) (drivers outs : List ℕ) {j d o : ℕ} (e : d ≡ get_or drivers j 0) (q : o ≡ get_or outs j 0) where
  pub output_same : ((f : ℕ) → f < 32 → get_or (get_or lanes d []) f (pos 0) ≡ get_or (get_or lanes o []) f (pos 0))
      → ((f : ℕ) → f < 32 → SameBits (lane_bits lanes f) drivers outs j) → (f : ℕ) → f < 32 → SameBits (lane_bits lanes f) drivers outs (j + 1)
  unfolding lane_bits
  output_same h p f l = below_more (λ i. lane_bits lanes f (get_or drivers i 0) ≡ lane_bits lanes f (get_or outs i 0)) j (p f l)
      (rw (← e, ← q) (ap is_on (h f l)))

  pub output_differs : Masked lanes → d < 296 → o < 296 → {outputs : ℕ} → j < outputs → {f : ℕ} → f < 32
      → (get_or (get_or lanes d []) f (pos 0) ≡ get_or (get_or lanes o []) f (pos 0) → ⊥) → SameBits (lane_bits lanes f) drivers outs outputs → ⊥
  output_differs m a b k {f} l n p = n ((m.row d a).mask f l ∙ ap mask_of (rw (← e, ← q) at (p j k)) ∙ sym ((m.row o b).mask f l))

-- ---- frames

-- the number of frames, as the machine makes it
pub frame_count : (n : ℕ) → n ≤ 40 → 1 * 2 ^ n % 2 ^ 64 ≡ 2 ^ n
frame_count n h = shl_exact 1 n 64 (omega arith) (omega arith) ∙ (let e : 1 * 2 ^ n ≡ 2 ^ n = omega arith in e)

-- a frame cut to n inputs has the bits that it had
cut_frame : (x n i : ℕ) → i < n → frame (x % 2 ^ n) i ≡ frame x i
unfolding frame
cut_frame x n i h = ap (λ (y : ℕ). eqb y 1) (
    let e : n ≡ n - i + i = omega arith in
    let d : n - i ≡ n - i - 1 + 1 = omega arith in
    ap (λ (m : ℕ). x % 2 ^ m / 2 ^ i % 2) e
    ∙ ap (λ (y : ℕ). y % 2) (field x (n - i) i ∙ ap (λ (m : ℕ). x / 2 ^ i % 2 ^ m) d)
    ∙ mod-mod-pow (x / 2 ^ i) (n - i - 1) 1)

-- the frames from one on, before the first of the next block, have been read
pub record ReadBefore (J : Joint) (drivers outs : List ℕ) (outputs frames from first : ℕ) (lanes : List (List ℤ)) : Type 0 where
  pub count : frames ≡ 2 ^ J.inputs
  pub some : 0 < frames
  pub masked : Masked lanes
  pub same : (x : ℕ) → from ≤ x → x < first → SameOutputs J drivers outs outputs x

-- ---- the lanes of a block
module _ {J : Joint} {drivers outs : List ℕ} {outputs : ℕ} (can : Readable J drivers outs outputs) where
  -- both signals of each output have a row
  pub can_compare : CanCompare drivers outs outputs
  can_compare = record {
    few = can.few_outputs;
    driver = λ j l. omega (arith, can.driver j l, can.ready.few_inputs, can.ready.few_gates);
    out = λ j l. omega (arith, can.out j l, can.ready.few_inputs, can.ready.few_gates);
  }

  -- the joint as a network with no outputs
  abbrev net : Net
  net = record { board = record { version = 0; on = 0; off = 0 }; inputs = J.inputs; gates = gates_of J; outputs = [] }

  good : WellFormed net
  good = record { ordered = can.ordered; within = tt }

  module _ {first : ℕ} {mid lanes : List (List ℤ)} (put : FramesPut J.inputs first mid) (ran : GatesRun J mid lanes) (f : ℕ) (l : f < 32) where
    -- a lane fits the joint
    lane_fits : FitsJoint J (lane_bits lanes f)
    unfolding values
    lane_fits = record { gate_bits = rw (ran.bits f l) (values_fit net (lane_bits mid f) good) }

    lane_inputs : (i : ℕ) → i < J.inputs → lane_bits lanes f i ≡ frame (first + f) i
    unfolding values
    lane_inputs i k = ap (λ (ρ : Assignment). ρ i) (ran.bits f l) ∙ values_inputs net (lane_bits mid f) i k ∙ put.bits f l i k

    -- so it has the bits of every assignment that fits with its inputs
    lane_one : (ρ : Assignment) → FitsJoint J ρ → ((i : ℕ) → i < J.inputs → ρ i ≡ frame (first + f) i)
        → (s : ℕ) → s < J.inputs + J.gates → ρ s ≡ lane_bits lanes f s
    lane_one ρ h e s k = fits_one J.inputs (gates_of J) ρ (lane_bits lanes f) can.ordered h.gate_bits lane_fits.gate_bits
        (λ i j. e i j ∙ sym (lane_inputs i j)) s (omega (arith, length_tab J.gates (gate_of J)))

    lane_same : SameBits (lane_bits lanes f) drivers outs outputs → SameOutputs J drivers outs outputs (first + f)
    lane_same h = record {
      same = λ ρ k e j q. lane_one ρ k e (get_or drivers j 0) (can.driver j q) ∙ h j q ∙ sym (lane_one ρ k e (get_or outs j 0) (can.out j q));
    }

    lane_differs : (SameBits (lane_bits lanes f) drivers outs outputs → ⊥) → SameOutputs J drivers outs outputs ((first + f) % 2 ^ J.inputs) → ⊥
    lane_differs n h = n (h.same (lane_bits lanes f) lane_fits λ i k. lane_inputs i k ∙ sym (cut_frame (first + f) J.inputs i k))

  -- ---- the blocks

  -- nothing is read
  pub read_none : (from frames : ℕ) → frames ≡ 2 ^ J.inputs → 0 < frames
      → ReadBefore J drivers outs outputs frames from from (replicate 296 (replicate 32 (pos 0)))
  read_none from frames e h = record { count = e; some = h; masked = masked_none; same = λ x g l. absurd (omega arith) }

  module _ {frames from first : ℕ} {old mid lanes : List (List ℤ)} (h : ReadBefore J drivers outs outputs frames from first old)
      (put : FramesPut J.inputs first mid) (ran : GatesRun J mid lanes) where
    -- a block without a difference
    pub read_next : ((f : ℕ) → f < 32 → SameBits (lane_bits lanes f) drivers outs outputs) → ReadBefore J drivers outs outputs frames from (first + 32) lanes
    read_next a = record {
      count = h.count;
      some = h.some;
      masked = ran.masked;
      same = λ x g l. elim (dec_lt x first) as (λ t. SameOutputs J drivers outs outputs x) [
        | yes j ↦ h.same x g j
        | no j ↦
            let e : first + (x - first) ≡ x = omega arith in
            let q : x - first < 32 = omega arith in
            rw e at (lane_same put ran (x - first) q (a (x - first) q))
      ];
    }

    -- a block with one
    pub read_apart : (f : ℕ) → f < 32 → (SameBits (lane_bits lanes f) drivers outs outputs → ⊥)
        → ((first + f) % frames < 2 ^ J.inputs) × (SameOutputs J drivers outs outputs ((first + f) % frames) → ⊥)
    read_apart f l n = rw h.count (mod-lt (first + f) (pow_pos J.inputs), λ s. lane_differs put ran f l n s)
