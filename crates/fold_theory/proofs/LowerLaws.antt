-- A gate that nothing reads goes, and the signals above it fall by one: the network without it simulates the one with it. Assumes
-- nothing.
use Rattle.std.specs.Prelude.{◌≡◌, ◌≢◌, T, length}
use Rattle.std.proofs.Math.Path.{refl, sym, ap}
use Rattle.std.proofs.Common.{◌∙◌, arith}
use mathlib.Core.List.{List, [], ◌∷◌, map}
use Prim.Native.Nat.{ℕ, zero, suc, ◌+◌, ◌-◌, ◌≤◌, ◌<◌}
use Rattle.std.specs.Int.Signed.{le_z}
use Rattle.basics.specs.Lists.{other, Each}
use Rattle.basics.specs.TestLaws.{ne_other}
use Rattle.basics.specs.ListLaws.{of_each, all_other}
use Rattle.network.specs.Threshold.{Feed, Gate, Net, Assignment, sum, bit}
use Rattle.network.specs.Limits.{signals_of}
use Rattle.network.specs.Changes.{lowered, lowered_feed, lowered_gate, remove_at, without, raised}
use Rattle.network.specs.ChangeLaws.{raised_low, raised_high, raised_lowered}
use Rattle.network.specs.Sound.{Has}
use Rattle.network_equivalence.specs.Consistent.{BitsFrom, Simulates}
use Rattle.fold_theory.specs.Merge.{silent}

-- ---- gates that do not read u

-- no feed of g is u
abbrev pub DoesNotRead : ℕ → Gate → Type 0
DoesNotRead u g = Each (λ s. s ≢ u) (signals_of g.feeds)

pub silent_free : (u : ℕ) (g : Gate) → T (silent u g) → DoesNotRead u g
unfolding silent
silent_free u g t = all_other u (signals_of g.feeds) t

pub free_silent : (u : ℕ) (g : Gate) → DoesNotRead u g → T (silent u g)
unfolding silent
free_silent u g h = of_each (other u) (λ s. s ≢ u) (ne_other u) (signals_of g.feeds) h

-- ---- what is left fits
module _ (ρ : Assignment) (u : ℕ) where
  -- the assignment that follows the signals down
  abbrev moved : Assignment
  moved s = ρ (raised u s)

  moved_sum : (fs : List Feed) → Each (λ s. s ≢ u) (signals_of fs) → sum moved (map (lowered_feed u) fs) ≡ sum ρ fs
  unfolding sum lowered_feed signals_of
  moved_sum [] h = refl
  moved_sum (f ∷ fs) h = rw (raised_lowered u f.signal h.0, moved_sum fs h.1)

  moved_bit : (g : Gate) → DoesNotRead u g → bit moved (lowered_gate u g) ≡ bit ρ g
  unfolding bit lowered_gate
  moved_bit g h = ap (le_z g.threshold) (moved_sum g.feeds h)

  fits_above : (n : ℕ) (gs : List Gate) → u ≤ n → Each (DoesNotRead u) gs → BitsFrom ρ (suc n) (map (bit ρ) gs)
      → BitsFrom moved n (map (bit moved) (map (lowered_gate u) gs))
  fits_above n [] h r v = tt
  fits_above n (g ∷ gs) h r v = (ap ρ (raised_high u n h) ∙ v.0 ∙ sym (moved_bit g r.0), fits_above (suc n) gs (omega arith) r.1 v.1)

  fits_without : (n i : ℕ) (gs : List Gate) → u ≡ n + i → Each (DoesNotRead u) gs → BitsFrom ρ n (map (bit ρ) gs) → i < length gs
      → BitsFrom moved n (map (bit moved) (map (lowered_gate u) (remove_at i gs)))
  unfolding remove_at
  fits_without n i [] e r v h = tt
  fits_without n zero (g ∷ gs) e r v h = fits_above n gs (omega arith) r.1 v.1
  fits_without n (suc i) (g ∷ gs) e r v h = (
    ap ρ (raised_low u n (omega arith)) ∙ v.0 ∙ sym (moved_bit g r.0),
    fits_without (suc n) i gs (omega arith) r.1 v.1 (omega arith),
  )

  moved_outputs : (ss : List ℕ) → Each (λ s. s ≢ u) ss → map moved (map (lowered u) ss) ≡ map ρ ss
  moved_outputs [] h = refl
  moved_outputs (s ∷ ss) h = rw (raised_lowered u s h.0, moved_outputs ss h.1)

pub without_sim : (N : Net) (u : ℕ) → Has N u → Each (DoesNotRead u) N.gates → Each (λ s. s ≢ u) N.outputs → Simulates N (without N u)
unfolding without
without_sim N u g r o = record {
  same_inputs = refl;
  carry = λ ρ h. record {
    assignment = moved ρ u;
    fits = fits_without ρ u N.inputs (u - N.inputs) N.gates (omega arith) r h (omega arith);
    at_inputs = λ s k. ap ρ (raised_low u s (omega arith));
    at_outputs = moved_outputs ρ u N.outputs o;
  };
}
