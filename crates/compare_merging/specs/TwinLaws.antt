-- Gates with the same rows are the same, and have one bit. Assumes nothing.
use Rattle.std.specs.Prelude.{◌≡◌, List, ℕ, ◌+◌, ◌≤◌, ◌<◌, ℤ, pos, nat_abs, get_or, take}
use Rattle.std.proofs.Common.{sym, ap, ◌∙◌, arith, to_z, of_z, to_z-of_z}
use Rattle.std.proofs.Math.Decide.{dec_lt}
use Rattle.std.proofs.lemmas.List.{get_or-take}
use Rattle.std.specs.Int.{w32}
use Rattle.basics.specs.SizeLaws.{size_fits}
use Rattle.network.specs.Threshold.{bit}
use Rattle.question_theory.proofs.LineLaws.{over_same}
use Rattle.compare_theory.specs.Joint.{Joint, fanin, gate_of_rows, gate_of, OneBit}
use Rattle.compare_theory.proofs.RowLaws.{rows_over}
use Rattle.compare_theory.proofs.SpanLaws.{gate_bit}
use Rattle.compare_merging.specs.Twins.{SameBelow}

-- ---- rows
pub same_none : (wires : List ℕ) (weights : List ℤ) (wires' : List ℕ) (weights' : List ℤ) → SameBelow wires weights wires' weights' 0
same_none wires weights wires' weights' = record { signals = λ i h. absurd (omega arith); numbers = λ i h. absurd (omega arith) }

pub same_more : {wires : List ℕ} {weights : List ℤ} {wires' : List ℕ} {weights' : List ℤ} {n : ℕ} → SameBelow wires weights wires' weights' n
    → get_or wires n 0 ≡ get_or wires' n 0 → get_or weights n (pos 0) ≡ get_or weights' n (pos 0) → SameBelow wires weights wires' weights' (n + 1)
same_more {wires} {weights} {wires'} {weights'} {n} s e k = record {
  signals = λ i h. elim (dec_lt i n) as (λ t. get_or wires i 0 ≡ get_or wires' i 0)
      [ yes l ↦ s.signals i l | no l ↦ let x : i ≡ n = omega arith in rw x e ];
  numbers = λ i h. elim (dec_lt i n) as (λ t. get_or weights i (pos 0) ≡ get_or weights' i (pos 0))
      [ yes l ↦ s.numbers i l | no l ↦ let x : i ≡ n = omega arith in rw x k ];
}

-- two small numbers with the same bits are one
pub bits_same : (x y : ℤ) → nat_abs x ≤ 1000000 → nat_abs y ≤ 1000000 → of_z w32 x ≡ of_z w32 y → x ≡ y
bits_same x y h k e = sym (to_z-of_z (size_fits w32 x (omega arith))) ∙ ap (to_z w32) e ∙ to_z-of_z (size_fits w32 y (omega arith))

-- ---- gates
pub same_gate : (wires : List ℕ) (weights : List ℤ) (wires' : List ℕ) (weights' : List ℤ) (n : ℕ) → fanin wires < n
    → SameBelow wires weights wires' weights' n → gate_of_rows wires weights ≡ gate_of_rows wires' weights'
same_gate wires weights wires' weights' n l s =
    let count : fanin wires ≡ fanin wires' = s.signals 0 (omega arith) in
    rows_over (λ s. s) wires' wires weights' weights count (s.numbers 0 (omega arith))
    (λ i h. s.signals (1 + i) (omega (arith, count, h, l))) (λ i h. s.numbers (1 + i) (omega (arith, count, h, l)))
    ∙ over_same (gate_of_rows wires' weights')

-- lists that begin alike
begin_alike : {A : Type 0} (xs ys : List A) (n : ℕ) (d : A) → take n xs ≡ take n ys → (i : ℕ) → i < n → get_or xs i d ≡ get_or ys i d
begin_alike {A} xs ys n d e i l = sym (get_or-take n xs i d l) ∙ ap (λ (zs : List A). get_or zs i d) e ∙ get_or-take n ys i d l

-- rows that begin alike, as far as the feeds go
pub same_gate_front : (wires : List ℕ) (weights : List ℤ) (wires' : List ℕ) (weights' : List ℤ) (n : ℕ) → fanin wires < n → take n wires ≡ take n wires'
    → take n weights ≡ take n weights' → gate_of_rows wires weights ≡ gate_of_rows wires' weights'
same_gate_front wires weights wires' weights' n l e k =
    same_gate wires weights wires' weights' n l (record { signals = begin_alike wires wires' n 0 e; numbers = begin_alike weights weights' n (pos 0) k })

-- signal p is that of gate g, signal q that of gate h
pub twins_alike : (J : Joint) (p q g h : ℕ) → p ≡ J.inputs + g → q ≡ J.inputs + h → g < J.gates → h < J.gates → gate_of J g ≡ gate_of J h → OneBit J p q
twins_alike J p q g h ep eq lg lh e = record {
  same = λ ρ f. ap ρ ep ∙ gate_bit J ρ f g lg ∙ ap (bit ρ) e ∙ sym (gate_bit J ρ f h lh) ∙ sym (ap ρ eq);
}

-- ---- one signal, or other names of two
pub one_alike : (J : Joint) (p q : ℕ) → p ≡ q → OneBit J p q
one_alike J p q e = record { same = λ ρ f. ap ρ e }

pub alike_of : {J : Joint} {p q p' q' : ℕ} → OneBit J p' q' → p' ≡ p → q' ≡ q → OneBit J p q
alike_of h e k = record { same = λ ρ f. ap ρ (sym e) ∙ h.same ρ f ∙ ap ρ k }
