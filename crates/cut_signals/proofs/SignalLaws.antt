-- The new signals found one after the other: whether a signal stays, and the table of those so far. Assumes nothing.
use mathlib.Core.Path.{◌≡◌, sym, ap, ◌∙◌}
use mathlib.Core.Bool.{Bool, true, false}
use mathlib.Core.List.{List}
use Prim.Native.Nat.{ℕ, ◌+◌, ◌-◌, ◌≤◌, ◌<◌}
use native.Mathlib.Decide.{dec_lt}
use native.Mathlib.Omega.{arith}
use borrow.Author.Tests.{lt-ltb, le-ltb}
use lib.ListN.{length, get_or, take, set}
use lib.Seq.{get_or-take, length-take-le}
use mir.Val.{bool_byte}
use Rattle.network.specs.Places.{Pasted}
use Rattle.network_places.specs.PasteLaws.{pasted_none, pasted_more, pasted_first}
use Rattle.cut_theory.specs.Cut.{new_signal}
use Rattle.cut_theory.proofs.CopyLaws.{new_input, new_kept, new_gone, new_most, new_zero}
use Rattle.cut_signals.specs.Signals.{signal_stays, NewSignals}

-- ---- new signals
pub stays_input : (marks : List Bool) (n s : ℕ) → s < n → signal_stays marks n s ≡ true
unfolding signal_stays
stays_input marks n s h = rw (lt-ltb s n h)

pub stays_gate : (marks : List Bool) (n s : ℕ) → n ≤ s → signal_stays marks n s ≡ get_or marks (s - n) false
unfolding signal_stays
stays_gate marks n s h = rw (le-ltb s n h)

-- the signal after s
new_next : (marks : List Bool) (n gates s : ℕ) → gates ≤ length marks → s < n + gates
    → new_signal n (take gates marks) (s + 1) ≡ new_signal n (take gates marks) s + bool_byte (signal_stays marks n s)
new_next marks n gates s l h =
    let ms = take gates marks in
    elim (dec_lt s n) as (λ d. new_signal n ms (s + 1) ≡ new_signal n ms s + bool_byte (signal_stays marks n s)) [
      | yes k ↦ rw (stays_input marks n s k) (new_input n ms s k)
      | no k ↦
          let low : n ≤ s = omega arith in
          let same : get_or ms (s - n) false ≡ signal_stays marks n s = get_or-take gates marks (s - n) false (omega arith) ∙ sym (stays_gate marks n s low) in
          let long : s - n < length ms = omega (arith, length-take-le gates marks l) in
          elim (signal_stays marks n s) as (λ b. get_or ms (s - n) false ≡ b → new_signal n ms (s + 1) ≡ new_signal n ms s + bool_byte b) [
            | true ↦ λ e. new_kept n ms s low e
            | false ↦ λ e. new_gone n ms s low long e ∙ omega arith
          ] same
    ]

-- the signals below s have their new ones, and `next` is that of s
pub record Numbered (marks : List Bool) (inputs gates : ℕ) (blank result : List ℕ) (next s : ℕ) : Type 0 where
  pub few : s ≤ inputs + gates
  pub small : next ≤ s
  pub next_is : next ≡ new_signal inputs (take gates marks) s
  pub held : Pasted 0 0 s (new_signal inputs (take gates marks)) blank result

pub numbered_none : (marks : List Bool) (inputs gates : ℕ) (blank : List ℕ) → Numbered marks inputs gates blank blank 0 0
numbered_none marks inputs gates blank = record {
  few = omega arith;
  small = omega arith;
  next_is = sym (new_zero inputs (take gates marks));
  held = pasted_none 0 0 _ blank;
}

module _ {marks : List Bool} {inputs gates : ℕ} {blank result : List ℕ} {next s : ℕ} (n : Numbered marks inputs gates blank result next s) where
  pub numbered_more : gates ≤ length marks → s < inputs + gates → (kept : Bool) → kept ≡ signal_stays marks inputs s
      → Numbered marks inputs gates blank (set result s next) (next + bool_byte kept) (s + 1)
  numbered_more l h kept e =
      let step = ap (λ (b : Bool). next + bool_byte b) e ∙ ap (λ (k : ℕ). k + bool_byte (signal_stays marks inputs s)) n.next_is
      ∙ sym (new_next marks inputs gates s l h) in
      let most = new_most inputs (take gates marks) (s + 1) in
      record { few = omega arith; small = omega (arith, step, most); next_is = step; held = pasted_more s next n.held (omega arith) n.next_is }

  pub numbered_all : s ≡ inputs + gates → inputs + gates ≤ length blank → NewSignals marks inputs gates result
  numbered_all e l = record { each = λ t h. pasted_first n.held (omega arith) (omega arith) }
