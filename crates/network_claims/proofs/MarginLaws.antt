-- The margins in the words of source document 004 are those of the test. Assumes nothing.
use Rattle.std.specs.Prelude.{◌≡◌, Bool, ◌||◌, List, [], ◌∷◌, ◌↔◌, ℕ, zero, suc, ◌+◌, ◌-◌, ◌≤◌, ◌<◌, ℤ, pos, ◌+ℤ◌, ◌-ℤ◌, length, get_or}
use Rattle.std.proofs.Math.Path.{refl, subst}
use Rattle.std.proofs.Common.{sym}
use Rattle.std.proofs.Math.Bool.{true, false}
use native.Mathlib.Omega.{arith}
use Rattle.std.proofs.Math.Dec.{T}
use Rattle.std.specs.Int.Signed.{le_z}
use Rattle.basics.specs.Lists.{all, all_from, Each}
use Rattle.basics.specs.ListLaws.{all_from_at, each_of, each_imp, each_get_or}
use Rattle.basics.specs.IntegerLaws.{#, nat, ◌⊕◌, ◌⊖◌, le_of, of_le}
use Rattle.basics.specs.TestLaws.{T_or, or_T, or_case, and_T, every_of}
use Rattle.gate_margins.specs.Sums.{apart, outside}
use Rattle.network.specs.Threshold.{Gate, Net, Assignment, sum, bit}
use Rattle.network.specs.Limits.{gate_ok, board_ok, keeps, Keeps, is_gate, sound_tests, sound}
use Rattle.network.specs.Changes.{gate_at}
use Rattle.network.specs.Record.{no_gate}
use Rattle.network.specs.Sound.{GateOk, GatesOk, Has, Sound}
use Rattle.network.specs.LimitLaws.{has_of, of_has, sound_of, of_sound, gates_of_lem, gates_at, board_margins}
use Rattle.network.specs.declared.Board.{Board}
use Rattle.fold_theory.proofs.MarginLaws.{keeps_all_lem}
use Rattle.network_claims.specs.Margins.{ClearAt, Clear, AllClear, OtherLimits, MarginsExact}

-- ---- one assignment
module _ (b : Board) (off : 1 ≤ b.off) (g : Gate) (ρ : Assignment) where
  abbrev t : ℤ
  t = g.threshold

  abbrev z : ℤ
  z = sum ρ g.feeds

  abbrev high : Bool
  high = le_z (t +ℤ pos b.on) z

  abbrev low : Bool
  low = le_z z (t -ℤ pos b.off)

  outside_clear : T (outside b.on b.off t z) → ClearAt b g ρ
  unfolding outside apart bit
  outside_clear h = record {
    lit = λ e. or_case high low h (λ x. x) (λ x. absurd (omega (arith, le_of (# z) (# t ⊖ nat b.off) x, le_of (# t) (# z) (subst T (sym e) tt))));
    dark = λ e. or_case high low h (λ x. absurd (subst T e (of_le (# t) (# z) (omega (arith, le_of (# t ⊕ nat b.on) (# z) x))))) (λ x. x);
  }

  clear_outside : ClearAt b g ρ → T (outside b.on b.off t z)
  unfolding outside apart bit
  clear_outside c = by_bit (le_z t z) refl
    where
      by_bit : (x : Bool) → le_z t z ≡ x → T (high || low)
      by_bit true e = T_or high low (c.lit e)
      by_bit false e = or_T high low (c.dark e)

-- a gate
clear_keeps : (b : Board) → 1 ≤ b.off → (g : Gate) → Keeps b g ↔ Clear b g
clear_keeps b off g = ((λ k ρ. outside_clear b off g ρ (k ρ)), (λ k ρ. clear_outside b off g ρ (k ρ)))

-- ---- networks

-- each gate of a list, by its place
all_by : (p : Gate → Bool) (gs : List Gate) → ((i : ℕ) → i < length gs → T (p (get_or gs i no_gate))) → T (all p gs)
unfolding all
all_by p [] h = tt
all_by p (g ∷ gs) h = and_T (p g) (all p gs) (h 0 (omega arith)) (all_by p gs (λ i k. h (suc i) (omega arith)))

-- and with its signal, n being that of the first
pub all_from_by : (p : ℕ → Gate → Bool) (n : ℕ) (gs : List Gate) → ((i : ℕ) → i < length gs → T (p (n + i) (get_or gs i no_gate))) → T (all_from p n gs)
unfolding all_from
all_from_by p n [] h = tt
all_from_by p n (g ∷ gs) h =
    let z : n + 0 ≡ n = omega arith in
    and_T (p n g) (all_from p (suc n) gs) (subst (λ (m : ℕ). T (p m g)) z (h 0 (omega arith)))
    (all_from_by p (suc n) gs (λ i k.
    let e : n + suc i ≡ suc n + i = omega arith in subst (λ (m : ℕ). T (p m (get_or gs i no_gate))) e (h (suc i) (omega arith))))

-- a fact of every gate's signal, for the gate at a place
module _ (N : Net) (X : ℕ → Gate → Type 0) where
  pub at_place : ((s : ℕ) → T (is_gate N s) → X s (gate_at N s)) → (i : ℕ) → i < length N.gates → X (N.inputs + i) (get_or N.gates i no_gate)
  unfolding gate_at
  at_place h i k =
      let z : N.inputs + i - N.inputs ≡ i = omega arith in
      subst (λ (j : ℕ). X (N.inputs + i) (get_or N.gates j no_gate)) z (h (N.inputs + i) (of_has N (N.inputs + i) (omega arith)))

  at_signal : ((i : ℕ) → i < length N.gates → X (N.inputs + i) (get_or N.gates i no_gate)) → (s : ℕ) → T (is_gate N s) → X s (gate_at N s)
  unfolding gate_at
  at_signal h s t =
      let has = has_of N s t in
      let z : N.inputs + (s - N.inputs) ≡ s = omega (arith, has) in
      subst (λ (x : ℕ). X x (get_or N.gates (s - N.inputs) no_gate)) z (h (s - N.inputs) (omega (arith, has)))

module _ (N : Net) where
  limits_of : T (sound N) → OtherLimits N
  unfolding sound sound_tests
  limits_of t =
      let n = sound_of N t in
      let h = every_of (sound_tests N) t in
      let gates = h.1.1.1.1.0 in
      record {
        board_ok_lem = n.board_ok_lem;
        few_inputs = n.few_inputs;
        few_gates = n.few_gates;
        few_outputs = n.few_outputs;
        all_gates = at_signal N (λ s g. T (gate_ok s g)) (all_from_at gate_ok N.inputs N.gates no_gate gates);
        all_outputs = each_imp (Has N) (λ s. T (is_gate N s)) (of_has N) N.outputs n.all_outputs;
      }

  -- a gate within the limits keeps the margins of the test exactly when it does so in these words
  gate_clear_lem : T (board_ok N.board) → (s : ℕ) (g : Gate) → GateOk s g → T (keeps N.board g) ↔ Clear N.board g
  gate_clear_lem b s g o =
      let k = keeps_all_lem N.board s g o in
      let c = clear_keeps N.board (board_margins N.board b).1 g in
      ((λ t. c.0 (k.0 t)), (λ t. k.1 (c.1 t)))

  -- the gates as facts of their list
  pub gates_within : OtherLimits N → GatesOk N.inputs N.gates
  gates_within o = gates_of_lem N.inputs N.gates (all_from_by gate_ok N.inputs N.gates (at_place N (λ s g. T (gate_ok s g)) o.all_gates))

  pub keeps_exact : (o : OtherLimits N) → T (all (keeps N.board) N.gates) ↔ AllClear N
  keeps_exact o =
      let at : (i : ℕ) → i < length N.gates → GateOk (N.inputs + i) (get_or N.gates i no_gate) = λ i k.
      gates_at N.inputs i N.gates no_gate (gates_within o) k in (
        λ t. at_signal N (λ s g. Clear N.board g) (λ i k.
            (gate_clear_lem o.board_ok_lem (N.inputs + i) (get_or N.gates i no_gate) (at i k)).0
            (each_get_or (λ (g : Gate). T (keeps N.board g)) N.gates no_gate
            (each_of (keeps N.board) (λ (g : Gate). T (keeps N.board g)) (λ g t. t) N.gates t) i k)),
        λ c. all_by (keeps N.board) N.gates (λ i k.
            (gate_clear_lem o.board_ok_lem (N.inputs + i) (get_or N.gates i no_gate) (at i k)).1
            (at_place N (λ s g. Clear N.board g) c i k)),
      )

  pub outputs_within : OtherLimits N → Each (Has N) N.outputs
  outputs_within o = each_imp (λ s. T (is_gate N s)) (Has N) (has_of N) N.outputs o.all_outputs

pub margins_exact : (N : Net) → MarginsExact N
margins_exact N = (
  λ t. let o = limits_of N t in (o, (keeps_exact N o).0 (sound_of N t).all_keep),
  λ p.
      let o = p.0 in
      of_sound N (record {
        board_ok_lem = o.board_ok_lem;
        few_inputs = o.few_inputs;
        few_gates = o.few_gates;
        few_outputs = o.few_outputs;
        all_gates = gates_within N o;
        all_keep = (keeps_exact N o).1 p.1;
        all_outputs = outputs_within N o;
      }),
)
