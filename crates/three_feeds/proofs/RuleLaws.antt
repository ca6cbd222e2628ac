-- Laws of the rule: the test says it, and two settings that are 1 and two that are 0 with equal sums leave no gate. Assumes nothing.
use Rattle.std.specs.Prelude.{◌≡◌, Bool, true, false, not, ◌↔◌, ℕ, ◌+◌, ◌<◌, T, eqb, leb, ltb, ℤ, nat_abs, ◌+ℤ◌, ◌*ℤ◌}
use Rattle.std.proofs.Math.Path.{refl, sym, ap}
use Rattle.std.proofs.Common.{◌∙◌, eqb→eq, leb→le, ltb→lt}
use Rattle.std.proofs.Math.Bool.{cond}
use Rattle.std.specs.Bool.{beq}
use mathlib.Core.List.{List, [], ◌∷◌}
use native.Mathlib.Omega.{arith}
use Rattle.std.proofs.Math.IntN.{pos}
use Rattle.std.specs.Int.Signed.{le_z}
use Rattle.basics.specs.Lists.{Each, below, every}
use Rattle.basics.specs.TestLaws.{is_true, is_false, beq_eq, every_of}
use Rattle.basics.specs.ListLaws.{below_at, each_imp, each_keep}
use Rattle.basics.specs.IntegerLaws.{hi, lo, #, nat, ◌⊕◌, ◌⊙◌, law, le_yes, le_no, eq_of}
use Rattle.network.specs.Threshold.{Feed, Gate, Assignment, sum, bit, frame, digit, word_of}
use Rattle.network.specs.Limits.{weighs}
use Rattle.network.specs.SumLaws.{sum_stays}
use Rattle.network.specs.WordLaws.{word_below}
use Rattle.three_feeds.specs.Rule.{HasFunction, OverThree, feed, gate_on_signals, entry_gate, setting_of, has_gate}
use Rattle.three_feeds.specs.Rule.{GateRule, together, WitnessRule, EntryRule}
use Rattle.three_feeds.specs.declared.TableEntry.{TableEntry}
use Rattle.three_feeds.specs.declared.TableEntry.TheVariants.{HasGate, NoGate}

-- "no gate of any weights has that function"
abbrev pub NoneHas : ℕ → Type 0
NoneHas table = (g : Gate) → OverThree g → HasFunction table g → ⊥

unfoldable pub gate_tests : ℕ → ℤ → ℤ → ℤ → ℤ → List Bool
gate_tests table a b c t =
    leb (nat_abs a) 2 ∷ leb (nat_abs b) 2 ∷ leb (nat_abs c) 2 ∷ leb (nat_abs t) 4
    ∷ below 8 (λ s. beq (bit (frame s) (entry_gate a b c t)) (frame table s)) ∷ []

unfoldable pub witness_tests : ℕ → ℕ → ℕ → ℕ → ℕ → List Bool
witness_tests table x y u v =
    ltb x 8 ∷ ltb y 8 ∷ ltb u 8 ∷ ltb v 8
    ∷ frame table x ∷ frame table y ∷ not (frame table u) ∷ not (frame table v)
    ∷ below 3 (λ i. eqb (together x y i) (together u v i)) ∷ []

unfoldable pub is_right : ℕ → TableEntry → Bool
is_right table (HasGate a b c t) = every (gate_tests table a b c t)
is_right table (NoGate x y u v) = every (witness_tests table x y u v)

-- ---- the test says the rule
gate_right : (table : ℕ) (a b c t : ℤ) → T (is_right table (HasGate a b c t)) → GateRule table a b c t
unfolding is_right gate_tests
gate_right table a b c t h =
    let e = every_of (gate_tests table a b c t) h in
    record {
      weight_0 = leb→le (nat_abs a) 2 e.0;
      weight_1 = leb→le (nat_abs b) 2 e.1.0;
      weight_2 = leb→le (nat_abs c) 2 e.1.1.0;
      threshold = leb→le (nat_abs t) 4 e.1.1.1.0;
      function = λ s k. beq_eq (bit (frame s) (entry_gate a b c t)) (frame table s)
          (below_at 8 (λ s. beq (bit (frame s) (entry_gate a b c t)) (frame table s)) e.1.1.1.1.0 s k);
    }

witness_right : (table x y u v : ℕ) → T (is_right table (NoGate x y u v)) → WitnessRule table x y u v
unfolding is_right witness_tests
witness_right table x y u v h =
    let e = every_of (witness_tests table x y u v) h in
    let f = e.1.1.1.1 in
    record {
      below_x = ltb→lt x 8 e.0;
      below_y = ltb→lt y 8 e.1.0;
      below_u = ltb→lt u 8 e.1.1.0;
      below_v = ltb→lt v 8 e.1.1.1.0;
      one_x = is_true (frame table x) f.0;
      one_y = is_true (frame table y) f.1.0;
      zero_u = is_false (frame table u) f.1.1.0;
      zero_v = is_false (frame table v) f.1.1.1.0;
      sums = λ i k. eqb→eq (together x y i) (together u v i)
          (below_at 3 (λ i. eqb (together x y i) (together u v i)) f.1.1.1.1.0 i (omega arith));
    }

pub entry_right : (table : ℕ) (e : TableEntry) → T (is_right table e) → EntryRule table e
entry_right table (HasGate a b c t) h = gate_right table a b c t h
entry_right table (NoGate x y u v) h = witness_right table x y u v h

-- ---- equal sums: the gate's sums on the two pairs of settings are equal
pair_weight : (p q : Bool) (w : ℤ) → cond p w (pos 0) +ℤ cond q w (pos 0) ≡ pos (digit p + digit q) *ℤ w
pair_weight true true w = eq_of (# w ⊕ # w) (2 ⊙ # w) (omega arith)
pair_weight true false w = eq_of (# w ⊕ nat 0) (1 ⊙ # w) (omega arith)
pair_weight false true w = eq_of (nat 0 ⊕ # w) (1 ⊙ # w) (omega arith)
pair_weight false false w = eq_of (nat 0 ⊕ nat 0) (0 ⊙ # w) (omega arith)

module _ (ρ σ τ υ : Assignment) where
  -- what the feed has on two settings, it has on the other two
  Same : Feed → Type 0
  Same f = digit (ρ f.signal) + digit (σ f.signal) ≡ digit (τ f.signal) + digit (υ f.signal)

  weight_same : (f : Feed) → Same f
      → cond (ρ f.signal) f.weight (pos 0) +ℤ cond (σ f.signal) f.weight (pos 0)
      ≡ cond (τ f.signal) f.weight (pos 0) +ℤ cond (υ f.signal) f.weight (pos 0)
  unfolding Same
  weight_same f h =
      pair_weight (ρ f.signal) (σ f.signal) f.weight ∙ ap (λ (n : ℕ). pos n *ℤ f.weight) h
      ∙ sym (pair_weight (τ f.signal) (υ f.signal) f.weight)

  sums_same : (fs : List Feed) → Each Same fs → sum ρ fs +ℤ sum σ fs ≡ sum τ fs +ℤ sum υ fs
  unfolding sum
  sums_same [] h = refl
  sums_same (f ∷ fs) h =
      let p = cond (ρ f.signal) f.weight (pos 0) in
      let q = cond (σ f.signal) f.weight (pos 0) in
      let r = cond (τ f.signal) f.weight (pos 0) in
      let s = cond (υ f.signal) f.weight (pos 0) in
      let one = weight_same f h.0 in
      let rest = sums_same fs h.1 in
      eq_of ((# p ⊕ # (sum ρ fs)) ⊕ (# q ⊕ # (sum σ fs))) ((# r ⊕ # (sum τ fs)) ⊕ (# s ⊕ # (sum υ fs)))
      (omega (
        arith,
        law (# p ⊕ # q),
        law (# r ⊕ # s),
        ap hi one,
        ap lo one,
        law (# (sum ρ fs) ⊕ # (sum σ fs)),
        law (# (sum τ fs) ⊕ # (sum υ fs)),
        ap hi rest,
        ap lo rest,
      ))

-- ---- two settings that are 1, and two that are 0, with equal sums
module _ {table x y u v : ℕ} (w : WitnessRule table x y u v) where
  feeds_same : (fs : List Feed) → Each (λ f. f.signal < 3) fs → Each (Same (frame x) (frame y) (frame u) (frame v)) fs
  unfolding together Same
  feeds_same fs h =
      each_imp (λ f. f.signal < 3) (Same (frame x) (frame y) (frame u) (frame v)) (λ f k. w.sums f.signal (omega arith)) fs h

  -- 2T is at most the sum on the ones, which is the sum on the zeros, at most 2T − 2
  none_has : NoneHas table
  unfolding bit
  none_has g over has =
      let fs = g.feeds in
      let t = g.threshold in
      let e = sums_same (frame x) (frame y) (frame u) (frame v) fs (feeds_same fs over) in
      omega (
        arith,
        le_yes t (sum (frame x) fs) (has x w.below_x ∙ w.one_x),
        le_yes t (sum (frame y) fs) (has y w.below_y ∙ w.one_y),
        le_no t (sum (frame u) fs) (has u w.below_u ∙ w.zero_u),
        le_no t (sum (frame v) fs) (has v w.below_v ∙ w.zero_v),
        law (# (sum (frame x) fs) ⊕ # (sum (frame y) fs)),
        law (# (sum (frame u) fs) ⊕ # (sum (frame v) fs)),
        ap hi e,
        ap lo e,
      )

-- ---- the gate of an entry reads none but the three feeds
gate_over : (a b c t : ℤ) → OverThree (entry_gate a b c t)
unfolding entry_gate gate_on_signals
gate_over a b c t = each_keep (λ f. f.signal < 3) weighs _ (omega arith, (omega arith, (omega arith, tt)))

-- an entry that follows the rule has a gate exactly where some gate over the three feeds has the function
pub exactly : (table : ℕ) (e : TableEntry) → EntryRule table e → T (has_gate e) ↔ ((g : Gate) × OverThree g × HasFunction table g)
unfolding has_gate
exactly table (HasGate a b c t) r = (λ h. (entry_gate a b c t, gate_over a b c t, r.function), λ h. tt)
exactly table (NoGate x y u v) r = (λ h. absurd h, λ h. absurd (none_has r h.0 h.1 h.2))

-- ---- the gate on any three signals

-- three signals with the bits of three others give the same sum
sum_moved : (ρ σ : Assignment) (i j k l m n : ℕ) (a b c : ℤ) → ρ i ≡ σ l → ρ j ≡ σ m → ρ k ≡ σ n
    → sum ρ (feed i a ∷ feed j b ∷ feed k c ∷ []) ≡ sum σ (feed l a ∷ feed m b ∷ feed n c ∷ [])
unfolding sum
sum_moved ρ σ i j k l m n a b c e f g = rw (e, f, g)

-- the bits of the setting that three bits are
setting_bits : (a b c : Bool) → let s = word_of (a ∷ b ∷ c ∷ []) in (a ≡ frame s 0) × (b ≡ frame s 1) × (c ≡ frame s 2)
unfolding frame word_of
setting_bits true true true = (refl, refl, refl)
setting_bits true true false = (refl, refl, refl)
setting_bits true false true = (refl, refl, refl)
setting_bits true false false = (refl, refl, refl)
setting_bits false true true = (refl, refl, refl)
setting_bits false true false = (refl, refl, refl)
setting_bits false false true = (refl, refl, refl)
setting_bits false false false = (refl, refl, refl)

-- a gate of the table, put on any three signals, has the truth table's bit of their setting
pub on_signals : {table : ℕ} {a b c t : ℤ} → GateRule table a b c t → (ρ : Assignment) (i j k : ℕ)
    → bit ρ (gate_on_signals i j k a b c t) ≡ frame table (setting_of ρ i j k)
unfolding bit entry_gate gate_on_signals setting_of
on_signals {table} {a} {b} {c} {t} r ρ i j k =
    let s = setting_of ρ i j k in
    let e = setting_bits (ρ i) (ρ j) (ρ k) in
    let same = sum_moved ρ (frame s) i j k 0 1 2 a b c e.0 e.1 e.2 in
    ap (le_z t) (sum_stays ρ _ ∙ same ∙ sym (sum_stays (frame s) _)) ∙ r.function s (word_below (ρ i ∷ ρ j ∷ ρ k ∷ []))
