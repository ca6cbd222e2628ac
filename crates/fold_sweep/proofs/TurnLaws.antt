-- One turn of a sweep: the gates that are refused and passed over, and the gate that is taken. Assumes nothing.
use mathlib.Core.Path.{◌≡◌, refl, sym, ap, ◌∙◌, subst}
use mathlib.Core.Bool.{true, false, cond}
use mathlib.Core.List.{List}
use Prim.Native.Nat.{ℕ, zero, suc, ◌+◌, ◌-◌, ◌≤◌, ◌<◌}
use native.Mathlib.Decide.{dec_lt}
use native.Mathlib.Omega.{arith}
use Rattle.std.specs.Prelude.{Some, None}
use Rattle.std.proofs.lemmas.Option.{none-some, same_Some}
use borrow.Author.Tests.{lt-ltb, le-leb, lt-leb}
use lib.Dec.{leb, ltb}
use Rattle.basics.specs.Refusals.{Answer, accepted, refused, checks}
use Rattle.basics.specs.RefusalLaws.{Refused}
use Rattle.basics.specs.TestLaws.{both_true}
use Rattle.network.specs.Threshold.{Net}
use Rattle.network.specs.Record.{gate_of, net_of, sound_record}
use Rattle.network.specs.Places.{SoundGate}
use Rattle.network.specs.RecordLaws.{count_gates}
use Rattle.network.specs.Limits.{gate_signal}
use Rattle.network.specs.declared.Network.{Network}
use Rattle.fold_theory.specs.Collapse.{collapse}
use Rattle.fold_theory.specs.Sweep.{readers, or_else, sweep_from, sweep_once}
use Rattle.fold_reader_pairs.specs.declared.Pairs.{Pairs}
use Rattle.fold_readers.specs.Readers.{occurs}
use Rattle.fold_unchanged.specs.Unchanged.{RefusedBy}
use Rattle.fold_unchanged.proofs.UnchangedLaws.{refused_collapse}
use Rattle.fold_reader_pairs.specs.Collapsing.{AllPairs, collapsed_by}
use Rattle.fold_reader_pairs.specs.CollapsingLaws.{collapsed_pairs}
use Rattle.fold_readers.specs.RecordLaws.{sound_gate}
use Rattle.fold_reader_pairs.specs.TriedLaws.{collapse_output, collapse_collapsed}
use Rattle.fold_sweep.specs.declared.Choice.{Choice}
use Rattle.fold_sweep.specs.Memory.{Remembered, RememberedAfter}
use Rattle.fold_sweep.specs.Sweeping.{asked, LowerRefused, NextCollapse, Chosen}

-- ---- the gates from u on
or_else_next : {A : Type 0} (r q : Answer A) → Refused r → or_else r q ≡ q
unfolding or_else
or_else_next (accepted a) q h = absurd h
or_else_next (refused c) q h = refl

module _ (N : Net) (B : ℕ) where
  abbrev ask : ℕ → Answer Net
  ask u = asked N B u

  -- a gate with too many readers, and one that collapse refuses
  many : (u : ℕ) → B < readers N u → Refused (ask u)
  unfolding checks
  many u h = rw (lt-leb (readers N u) B h) tt

  few : (u : ℕ) → readers N u ≤ B → ask u ≡ collapse N u
  unfolding checks
  few u h = rw (le-leb (readers N u) B h)

  not_taken : (u : ℕ) → Refused (collapse N u) → Refused (ask u)
  unfolding checks
  not_taken u h = elim (leb (readers N u) B) as (λ t. Refused (cond t (collapse N u) (refused 0))) [ true ↦ h | false ↦ tt ]

  -- one that a reader refuses
  pub reader_refused : (u v : ℕ) → RefusedBy N u v → Refused (ask u)
  reader_refused u v h = not_taken u (refused_collapse N u v h)

  -- ---- gates that are refused are passed over
  module _ (inputs gates : ℕ) where
    next : (g : ℕ) → g < gates → sweep_from N B (inputs + g) (gates - g) ≡ or_else (ask (inputs + g)) (sweep_from N B (inputs + suc g) (gates - suc g))
    unfolding sweep_from
    next g h = rw (let e : gates - g ≡ suc (gates - suc g) = omega arith in e)
        (ap (λ (v : ℕ). or_else (ask (inputs + g)) (sweep_from N B v (gates - suc g))) (let e : suc (inputs + g) ≡ inputs + suc g = omega arith in e))

    lower_passed : (g : ℕ) → g ≤ gates → LowerRefused N B inputs g → sweep_from N B inputs gates ≡ sweep_from N B (inputs + g) (gates - g)
    lower_passed zero h l = sym (rw (let e : inputs + 0 ≡ inputs = omega arith in e, let e : gates - 0 ≡ gates = omega arith in e))
    lower_passed (suc g) h l =
        lower_passed g (omega arith) (record { each = λ i k. l.each i (omega arith) }) ∙ next g h
        ∙ or_else_next (ask (inputs + g)) (sweep_from N B (inputs + suc g) (gates - suc g)) (l.each g (omega arith))

    -- a gate is taken
    turn_taken : (g : ℕ) (M : Net) → g < gates → readers N (inputs + g) ≤ B → collapse N (inputs + g) ≡ accepted M
        → sweep_from N B (inputs + g) (gates - g) ≡ accepted M
    unfolding or_else
    turn_taken g M h k e = next g h ∙ rw (few (inputs + g) k, e)

    -- no gate is left
    turn_end : (g : ℕ) → gates ≤ g → Refused (sweep_from N B (inputs + g) (gates - g))
    unfolding sweep_from
    turn_end g h = rw (let e : gates - g ≡ 0 = omega arith in e) tt

  -- one gate more is refused
  pub lower_none : (inputs : ℕ) → LowerRefused N B inputs 0
  lower_none inputs = record { each = λ i h. absurd (omega arith) }

  pub lower_more : (inputs g : ℕ) → LowerRefused N B inputs g → Refused (ask (inputs + g)) → LowerRefused N B inputs (g + 1)
  lower_more inputs g l r = record {
    each = λ i h. elim (dec_lt i g) as (λ d. Refused (ask (inputs + i))) [
      | yes k ↦ l.each i k
      | no k ↦ subst (λ (x : ℕ). Refused (ask (inputs + x))) (let z : g ≡ i = omega arith in z) r
    ];
  }

-- ---- a sound record's gates, as the code tries them
module _ (r : Network) (b : ℕ) where
  -- where the gates below gate g are refused, a sweep finds what it finds from gate g on
  sweep_lower : (g : ℕ) → g ≤ r.gates → LowerRefused (net_of r) b r.inputs g
      → sweep_once (net_of r) b ≡ sweep_from (net_of r) b (r.inputs + g) (r.gates - g)
  unfolding sweep_once net_of
  sweep_lower g h l = ap (sweep_from (net_of r) b r.inputs) (count_gates r) ∙ lower_passed (net_of r) b r.inputs r.gates g h l

  -- no gate is left
  pub sweep_none : (g : ℕ) → g ≤ r.gates → r.gates ≤ g → LowerRefused (net_of r) b r.inputs g → Refused (sweep_once (net_of r) b)
  sweep_none g h k l = subst Refused (sym (sweep_lower g h l)) (turn_end (net_of r) b r.inputs r.gates g k)

module _ (r : Network) (b g : ℕ) (whole : sound_record r ≡ true) (within : g < r.gates) where
  -- gate g, by its signal
  abbrev signal : ℕ
  signal = r.inputs + g

  is_gate_lem : gate_signal r.inputs r.gates signal ≡ true
  unfolding gate_signal
  is_gate_lem = both_true (leb r.inputs signal) (ltb signal (r.inputs + r.gates)) (le-leb r.inputs signal (omega arith))
      (lt-ltb signal (r.inputs + r.gates) (omega arith))

  pub own_gate : SoundGate r signal
  own_gate = sound_gate r signal whole is_gate_lem

  -- a gate with too many readers is refused, and so is an output
  pub crowded_refused : b < readers (net_of r) signal → Refused (asked (net_of r) b signal)
  crowded_refused = many (net_of r) b signal

  pub output_refused : occurs r.drivers 0 r.outputs signal ≡ true → Refused (asked (net_of r) b signal)
  output_refused t = not_taken (net_of r) b signal (subst Refused (sym (collapse_output r signal whole is_gate_lem t)) tt)

  -- it is taken
  pub taken : readers (net_of r) signal ≤ b → occurs r.drivers 0 r.outputs signal ≡ false → (p : Pairs)
      → AllPairs r.board (gate_of r) r.inputs r.gates signal p → LowerRefused (net_of r) b r.inputs g → NextCollapse r b signal p
  taken few inner p h lower =
      let fold : collapse (net_of r) signal ≡ accepted (collapsed_by r signal p) =
      collapse_collapsed r signal whole is_gate_lem inner ∙ collapsed_pairs r signal own_gate p h in
      record {
        own = own_gate;
        pairs = h;
        collapsed = fold;
        first = sweep_lower r b g (omega arith) lower ∙ turn_taken (net_of r) b r.inputs r.gates g (collapsed_by r signal p) within few fold;
        few = few;
        lower = subst (LowerRefused (net_of r) b r.inputs) (let z : g ≡ signal - r.inputs = omega arith in z) lower;
      }

-- ---- what a sweep answers
module _ (r : Network) (b : ℕ) where
  -- a gate is chosen
  pub chosen_some : (x : Choice) → NextCollapse r b x.u x.pairs → Chosen r b (Some x)
  chosen_some x n = record {
    next = λ y e. subst (λ (z : Choice). NextCollapse r b z.u z.pairs) (same_Some x y e) n;
    none = λ e. absurd (none-some x (sym e));
  }

  pub after_some : (x : Choice) {refusers : List ℕ} → Remembered (collapsed_by r x.u x.pairs) refusers → RememberedAfter r (Some x) refusers
  after_some x {refusers} m = record { next = λ y e. subst (λ (z : Choice). Remembered (collapsed_by r z.u z.pairs) refusers) (same_Some x y e) m }

  -- no gate is left
  pub chosen_none : Refused (sweep_once (net_of r) b) → Chosen r b None
  chosen_none h = record { next = λ y e. absurd (none-some y e); none = λ e. h }

  pub after_none : (refusers : List ℕ) → RememberedAfter r None refusers
  after_none refusers = record { next = λ y e. absurd (none-some y e) }
