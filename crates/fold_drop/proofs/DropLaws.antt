-- The tests of a drop of a gate of a sound record, as the code makes them. Assumes nothing.
use mathlib.Core.Path.{◌≡◌, refl, sym, ap, ◌∙◌}
use mathlib.Core.Bool.{Bool, true, false, not, cond, ◌&&◌, ◌||◌}
use mathlib.Core.List.{List, [], ◌∷◌}
use Prim.Native.Nat.{ℕ, suc}
use native.Mathlib.Omega.{arith}
use borrow.Author.Tests.{ne_eqb}
use lib.Dec.{eqb}
use lib.ListN.{length}
use Rattle.basics.specs.Lists.{all, keep}
use Rattle.basics.specs.Refusals.{checks}
use Rattle.network.specs.Limits.{gate_signal}
use Rattle.network.specs.Threshold.{Gate, Net}
use Rattle.network.specs.Record.{net_of, sound_record}
use Rattle.network.specs.RecordLaws.{gate_signal_lem}
use Rattle.network.specs.declared.Network.{Network}
use Rattle.fold_theory.specs.Merge.{silent, reads}
use Rattle.fold_theory.specs.Collapse.{unread, drop_gate}
use Rattle.fold_theory.specs.Sweep.{readers}
use Rattle.fold_readers.specs.Readers.{occurs}
use Rattle.fold_readers.specs.RecordLaws.{net_test, output_test, sound_gate}
use Rattle.fold_drop.specs.Dropping.{DropTried}

-- no gate reads s where the readers are none
none_reads : (s : ℕ) (gs : List Gate) → all (silent s) gs ≡ eqb (length (keep (reads s) gs)) 0
unfolding all keep reads
none_reads s [] = refl
none_reads s (g ∷ gs) = elim (silent s g) as (λ b. b && all (silent s) gs ≡ eqb (length (cond (not b) (g ∷ keep (reads s) gs) (keep (reads s) gs))) 0) [
  | true ↦ none_reads s gs
  | false ↦ sym (ne_eqb (suc (length (keep (reads s) gs))) 0 (λ e. omega arith))
]

read_test : (a b : Bool) → a && not b ≡ not (not a || b)
read_test true b = refl
read_test false b = refl

module _ (r : Network) (s : ℕ) (whole : sound_record r ≡ true) where
  abbrev net : Net
  net = net_of r

  pub tried_stranger : gate_signal r.inputs r.gates s ≡ false → DropTried r s 11
  unfolding drop_gate checks
  tried_stranger e = record {
    refuses = λ n. rw (net_test r s whole, gate_signal_lem r s ∙ e);
    accepts = λ z. absurd (omega arith);
    own = λ z. absurd (omega arith);
  }

  module _ (gate : gate_signal r.inputs r.gates s ≡ true) where
    -- a gate or an output reads s, as the code tests it
    abbrev pub is_read : Bool
    is_read = not (eqb (readers net s) 0) || occurs r.drivers 0 r.outputs s

    unread_test : unread net s ≡ not is_read
    unfolding unread readers
    unread_test = rw (none_reads s net.gates, output_test r s whole)
        (read_test (eqb (length (keep (reads s) net.gates)) 0) (occurs r.drivers 0 r.outputs s))

    pub tried_read : is_read ≡ true → DropTried r s 17
    unfolding drop_gate checks
    tried_read e = record {
      refuses = λ n. rw (net_test r s whole, gate_signal_lem r s ∙ gate, unread_test ∙ ap not e);
      accepts = λ z. absurd (omega arith);
      own = λ z. absurd (omega arith);
    }

    pub tried_unread : is_read ≡ false → DropTried r s 0
    unfolding drop_gate checks
    tried_unread e = record {
      refuses = λ n. absurd (n refl);
      accepts = λ z. rw (net_test r s whole, gate_signal_lem r s ∙ gate, unread_test ∙ ap not e);
      own = λ z. sound_gate r s whole gate;
    }
