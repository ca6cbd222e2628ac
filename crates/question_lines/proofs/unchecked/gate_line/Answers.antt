-- The gate's places are those of the network's gate, whose numbers are within the limits.
use Rattle.std.specs.Prelude.{◌*◌, ◌/◌, ◌≤◌, ◌<◌, ℕ, ◌≡◌, true}
use Rattle.std.proofs.Common.{sym, subst, arith}
use Rattle.network.specs.Record.{sound_record}
use Rattle.network.specs.SoundLaws.{sized_of}
use Rattle.network.specs.declared.GateRecord.{GateRecord}
use Rattle.network.specs.declared.Network.{Network}
use Rattle.network_places.specs.Parts.{row_in}
use Rattle.question_terms.specs.Terms.{InLimits}
use Rattle.question_terms.specs.TermLaws.{stands_is}
use Rattle.question_lines.specs.ComparableLaws.{row_scaled}
use Rattle.question_lines.specs.NumberLaws.{even_line, odd_line}
use Rattle.question_lines.proofs.unchecked.gate_line.Goals as goal

module _ (n : Network) (s : sound_record n ≡ true) (i : ℕ) (h : i < 2 * n.gates) where
  -- the counts are small
  small : (n.inputs ≤ 40) × (i / 2 < n.gates) × (i / 2 < 128)
  small = let z = sized_of n s in (z.few_inputs, omega arith, omega (arith, z.few_gates))

  -- the gate's numbers are within the limits
  scaled : {x : GateRecord} → x ≡ row_in n (i / 2) → InLimits x
  scaled e = subst (λ (x : GateRecord). InLimits x) (sym e) (row_scaled n (i / 2) s (omega (arith, small)))

pub overflow_add-y : goal.overflow_add-y
overflow_add-y c = let r = c.requires in record { fits = omega (arith, small c.args.network r.0 c.args.i r.2, r.1) }

pub overflow_add-y-2 : goal.overflow_add-y-2
overflow_add-y-2 c = let r = c.requires in record { fits = omega (arith, small c.args.network r.0 c.args.i r.2, r.1) }

pub gate_at-gate-requires : goal.gate_at-gate-requires
gate_at-gate-requires c = omega (arith, small c.args.network c.requires.0 c.args.i c.requires.2)

pub upper_line-requires : goal.upper_line-requires
upper_line-requires c = (scaled c.args.network c.requires.0 c.args.i c.requires.2 c.gate_at-gate.ensures, c.requires.1)

pub returns-then-i-eq0 : goal.returns-then-i-eq0
returns-then-i-eq0 c =
    let a = c.args in
    stands_is (even_line a.network a.shift a.i c.requires.0 c.requires.2 c.gate_at-gate.result c.gate_at-gate.ensures c.if-i-eq0.true) c.upper_line.ensures

pub lower_line-requires : goal.lower_line-requires
lower_line-requires c = (scaled c.args.network c.requires.0 c.args.i c.requires.2 c.gate_at-gate.ensures, c.requires.1)

pub returns : goal.returns
returns c =
    let a = c.args in
    stands_is (odd_line a.network a.shift a.i c.requires.0 c.requires.2 c.gate_at-gate.result c.gate_at-gate.ensures c.if-i-eq0.false) c.lower_line.ensures
