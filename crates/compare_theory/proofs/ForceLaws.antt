-- What the rule of one gate forces: its own bit by the ends of its sums, or the bits of its heavy feeds by its own. Assumes nothing.
use Rattle.std.specs.Prelude.{◌≡◌, refl, Bool, not, cond, ◌≢◌, List, ℕ, zero, suc, ◌+◌, ◌-◌, ◌≤◌, ◌<◌, ltb, ℤ, pos, negsuc, ◌+ℤ◌, ◌-ℤ◌, get_or}
use Rattle.std.proofs.Math.Path.{sym, ap, subst}
use Rattle.std.proofs.Common.{◌∙◌, true≢false, nltb→le}
use Rattle.std.proofs.Math.Bool.{true, false}
use Rattle.std.proofs.lemmas.Bool.{false≢true}
use native.Mathlib.Omega.{arith}
use Rattle.std.proofs.Math.Dec.{T}
use Rattle.std.specs.Int.Signed.{le_z}
use Rattle.basics.specs.TestLaws.{is_true, is_false, cond_case}
use Rattle.basics.specs.IntegerLaws.{hi, lo, #, nat, ◌⊕◌, ◌⊖◌, law, of_le, of_gt, le_of, gt_of}
use Rattle.network.specs.Threshold.{Assignment, bit}
use Rattle.compare_theory.specs.Joint.{fanin, gate_of_rows, Allows}
use Rattle.compare_theory.specs.Spans.{AtMost, least, most, total, least_at, most_at, share_at, least_sum, most_sum, room_of, room_at, settled, Roomy, RoomyAll}
use Rattle.compare_theory.specs.Reasons.{FitsRows}
use Rattle.compare_theory.proofs.SpanLaws.{total_most, total_gap, sum_total}

-- ---- a byte and a bit

pub allows_own : (b : Bool) → Allows (cond b 1 0) b
allows_own true = record { lit = λ e. refl; dark = λ e. absurd (omega arith) }
allows_own false = record { lit = λ e. absurd (omega arith); dark = λ e. refl }

pub allows_open : (v : ℕ) (b : Bool) → 2 ≤ v → Allows v b
allows_open v b h = record { lit = λ e. absurd (omega arith); dark = λ e. absurd (omega arith) }

-- a byte that is not open is the bit that it allows
allows_is : (v : ℕ) (b : Bool) → Allows v b → v < 2 → v ≡ cond b 1 0
allows_is zero true h l = absurd (true≢false (h.dark refl))
allows_is zero false h l = refl
allows_is (suc zero) true h l = refl
allows_is (suc zero) false h l = absurd (false≢true (h.lit refl))
allows_is (suc (suc v)) b h l = absurd (omega arith)

-- no bit passes two bytes that differ and are not open
pub allows_one : {v u : ℕ} {b : Bool} → Allows v b → Allows u b → v < 2 → u < 2 → v ≢ u → ⊥
allows_one h k l m d = d (allows_is _ _ h l ∙ sym (allows_is _ _ k m))

-- ---- a feed of a gate whose bit is known

-- what an open feed's share says of its weight, where the sums leave the room r
room_lit : (v : ℕ) (w r : ℤ) (b : Bool) → 2 ≤ v → AtMost (most v w) (cond b w (pos 0) +ℤ r) → Roomy 1 r w b
unfolding most hi lo
room_lit zero w r b l h = absurd (omega arith)
room_lit (suc zero) w r b l h = absurd (omega arith)
room_lit (suc (suc v)) (pos n) r true l h = record {
  against = λ a. absurd (true≢false (a.dark refl));
  along = λ a. record { le = omega (arith, h.le, law (# (pos n) ⊕ # r), law (nat 0 ⊖ # r)) };
}
room_lit (suc (suc v)) (negsuc n) r true l h = record {
  against = λ a. absurd (true≢false (a.dark refl));
  along = λ a. record { le = omega (arith, h.le, law (# (negsuc n) ⊕ # r), law (nat 0 ⊖ # r)) };
}
room_lit (suc (suc v)) (pos n) r false l h = record {
  against = λ a. record { le = omega (arith, h.le, law (nat 0 ⊕ # r)) };
  along = λ a. absurd (false≢true (a.lit refl));
}
room_lit (suc (suc v)) (negsuc n) r false l h = record {
  against = λ a. record { le = omega (arith, h.le, law (nat 0 ⊕ # r)) };
  along = λ a. absurd (false≢true (a.lit refl));
}

room_dark : (v : ℕ) (w r : ℤ) (b : Bool) → 2 ≤ v → AtMost (cond b w (pos 0)) (least v w +ℤ r) → Roomy 0 r w b
unfolding least hi lo
room_dark zero w r b l h = absurd (omega arith)
room_dark (suc zero) w r b l h = absurd (omega arith)
room_dark (suc (suc v)) (pos n) r true l h = record {
  against = λ a. record { le = omega (arith, h.le, law (nat 0 ⊕ # r)) };
  along = λ a. absurd (true≢false (a.dark refl));
}
room_dark (suc (suc v)) (negsuc n) r true l h = record {
  against = λ a. record { le = omega (arith, h.le, law (# (negsuc n) ⊕ # r)) };
  along = λ a. absurd (true≢false (a.dark refl));
}
room_dark (suc (suc v)) (pos n) r false l h = record {
  against = λ a. absurd (false≢true (a.lit refl));
  along = λ a. record { le = omega (arith, h.le, law (nat 0 ⊕ # r), law (nat 0 ⊖ # r)) };
}
room_dark (suc (suc v)) (negsuc n) r false l h = record {
  against = λ a. absurd (false≢true (a.lit refl));
  along = λ a. record { le = omega (arith, h.le, law (# (negsuc n) ⊕ # r), law (nat 0 ⊖ # r)) };
}

-- a bit that leaves the gate its own passes the byte that the rule settles
pub settled_allows : (v goal : ℕ) (w r : ℤ) (b : Bool) → goal < 2 → Allows v b → (2 ≤ v → Roomy goal r w b) → Allows (settled v w goal r) b
unfolding settled
settled_allows v goal w r b g a h = cond_case (λ u. Allows u b) (ltb v 2) (λ _. a) (λ free.
    let known = h (nltb→le v 2 free) in
    cond_case (λ u. Allows u b) (le_z w r)
    (λ _. cond_case (λ u. Allows u b) (le_z (pos 0 -ℤ r) w) (λ _. a) (λ e. other goal b g (λ k. past (known.along k) e)))
    (λ e. own goal b g (λ k. past (known.against k) e)))
  where
    past : {x y : ℤ} → AtMost x y → T (not (le_z x y)) → ⊥
    past {x} {y} k e = omega (arith, k.le, gt_of (# x) (# y) e)

    own : (goal : ℕ) (b : Bool) → goal < 2 → (Allows (1 - goal) b → ⊥) → Allows goal b
    own zero true g f = absurd (f (allows_own true))
    own zero false g f = allows_own false
    own (suc zero) true g f = allows_own true
    own (suc zero) false g f = absurd (f (allows_own false))
    own (suc (suc n)) b g f = absurd (omega arith)

    other : (goal : ℕ) (b : Bool) → goal < 2 → (Allows goal b → ⊥) → Allows (1 - goal) b
    other zero true g f = allows_own true
    other zero false g f = absurd (f (allows_own false))
    other (suc zero) true g f = absurd (f (allows_own true))
    other (suc zero) false g f = allows_own false
    other (suc (suc n)) b g f = absurd (omega arith)

-- an open byte was open before the rule
pub settled_open : (v goal : ℕ) (w r : ℤ) → 2 ≤ settled v w goal r → 2 ≤ v
unfolding settled
settled_open v goal w r = cond_case (λ u. 2 ≤ u → 2 ≤ v) (ltb v 2) (λ _ h. h) (λ e h. nltb→le v 2 e)

-- ---- the gate of two rows, under an assignment that gives its signal its bit

-- what each feed adds is at least what the bits say, or at most
abbrev pub Above : Assignment → List ℕ → List ℕ → List ℤ → Type 0
Above ρ bits wires weights = (i : ℕ) → i < fanin wires → AtMost (least_at bits wires weights (1 + i)) (share_at ρ wires weights (1 + i))

abbrev pub Below : Assignment → List ℕ → List ℕ → List ℤ → Type 0
Below ρ bits wires weights = (i : ℕ) → i < fanin wires → AtMost (share_at ρ wires weights (1 + i)) (most_at bits wires weights (1 + i))

module _ {wires : List ℕ} {weights : List ℤ} {signal : ℕ} {ρ : Assignment} (fits : FitsRows wires weights signal ρ) (bits : List ℕ) where
  abbrev threshold : ℤ
  threshold = get_or weights 0 (pos 0)

  abbrev own_sum : ℤ
  own_sum = total (share_at ρ wires weights) 1 (fanin wires)

  own_rule : ρ signal ≡ le_z threshold own_sum
  unfolding bit gate_of_rows
  own_rule = fits.own_bit ∙ ap (le_z threshold) (sum_total ρ wires weights 1 (fanin wires))

  -- an end forces the gate's own bit
  pub lit_by : Above ρ bits wires weights → T (le_z threshold (least_sum bits wires weights)) → ρ signal ≡ true
  lit_by h e =
      let l = total_most (least_at bits wires weights) (share_at ρ wires weights) 1 (fanin wires) h in
      own_rule ∙ is_true _ (of_le (# threshold) (# own_sum) (omega (arith, l.le, le_of (# threshold) (# (least_sum bits wires weights)) e)))

  pub dark_by : Below ρ bits wires weights → T (not (le_z threshold (most_sum bits wires weights))) → ρ signal ≡ false
  dark_by h e =
      let m = total_most (share_at ρ wires weights) (most_at bits wires weights) 1 (fanin wires) h in
      own_rule ∙ is_false _ (of_gt (# threshold) (# own_sum) (omega (arith, m.le, gt_of (# threshold) (# (most_sum bits wires weights)) e)))

  -- its own bit leaves every feed the room
  pub roomy_dark : Above ρ bits wires weights → ρ signal ≡ false → RoomyAll ρ bits wires weights 0 (room_at bits wires weights 0)
  unfolding room_of
  roomy_dark h a = record {
    each = λ i j free. room_dark _ _ _ _ free (
        let gap = total_gap (least_at bits wires weights) (share_at ρ wires weights) 1 (fanin wires) i j h in
        let below = gt_of (# threshold) (# own_sum) (let e : le_z threshold own_sum ≡ false = sym own_rule ∙ a in subst (λ x. T (not x)) (sym e) tt) in
        record {
          le = omega (
            arith,
            gap.le,
            below,
            law (# (least_sum bits wires weights) ⊕ # (share_at ρ wires weights (1 + i))),
            law (# own_sum ⊕ # (least_at bits wires weights (1 + i))),
            law (# (least_at bits wires weights (1 + i)) ⊕ ((# threshold ⊖ nat 1) ⊖ # (least_sum bits wires weights))),
          );
        }
        );
  }

  pub roomy_lit : Below ρ bits wires weights → ρ signal ≡ true → RoomyAll ρ bits wires weights 1 (room_at bits wires weights 1)
  unfolding room_of
  roomy_lit h a = record {
    each = λ i j free. room_lit _ _ _ _ free (
        let gap = total_gap (share_at ρ wires weights) (most_at bits wires weights) 1 (fanin wires) i j h in
        let above = le_of (# threshold) (# own_sum) (let e : le_z threshold own_sum ≡ true = sym own_rule ∙ a in subst T (sym e) tt) in
        record {
          le = omega (
            arith,
            gap.le,
            above,
            law (# own_sum ⊕ # (most_at bits wires weights (1 + i))),
            law (# (most_sum bits wires weights) ⊕ # (share_at ρ wires weights (1 + i))),
            law (# (share_at ρ wires weights (1 + i)) ⊕ (# (most_sum bits wires weights) ⊖ # threshold)),
          );
        }
        );
  }
