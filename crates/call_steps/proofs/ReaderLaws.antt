-- The gates of a sound record, one after another, as the merges into the readers of a signal are entered. Assumes nothing.
use mathlib.Core.Path.{◌≡◌, sym, ap, ◌∙◌}
use mathlib.Core.Bool.{true, false}
use mathlib.Core.List.{List, [], ◌∷◌}
use Prim.Native.Nat.{ℕ, suc, ◌+◌, ◌≤◌, ◌<◌}
use native.Mathlib.Numerals.{add-one}
use native.Mathlib.Omega.{arith}
use borrow.Author.Tests.{not-true, not-false}
use lib.ListN.{drop, drop_of_length-le}
use lib.Seq.{drop-cons}
use Rattle.basics.specs.TestLaws.{T_is}
use Rattle.network.specs.Threshold.{Gate}
use Rattle.network.specs.Record.{net_of, gate_of, no_gate, sound_record, gate_record}
use Rattle.network.specs.RecordLaws.{count_gates, gate_within, row_gate}
use Rattle.network.specs.Changes.{gate_at}
use Rattle.network.specs.declared.GateRecord.{GateRecord}
use Rattle.network.specs.declared.Network.{Network}
use Rattle.network_places.specs.Parts.{row_in}
use Rattle.fold_theory.specs.Merge.{silent, reads}
use Rattle.call_theory.specs.Steps.{Step, merging, dropping, old_gate, reader_steps, collapse_steps}
use Rattle.journal.specs.Journals.{kind_of, signal_of, with_step, enter, enter_all}
use Rattle.journal.specs.declared.Journal.{Journal}
use Rattle.journal.proofs.JournalLaws.{enter_all_join}

-- ---- the steps from gate g on
module _ (n : Network) (u g : ℕ) where
  abbrev pub steps_from : List Step
  steps_from = reader_steps u (n.inputs + g) (drop g (net_of n).gates)

module _ (n : Network) (u g : ℕ) (within : g < n.gates) where
  abbrev gates : List Gate
  gates = (net_of n).gates

  left : drop g gates ≡ gate_of n g ∷ drop (g + 1) gates
  left = drop-cons gates g no_gate (omega (arith, count_gates n)) ∙ ap (λ (x : Gate). x ∷ drop (suc g) gates) (gate_within n g within)
      ∙ ap (λ (i : ℕ). gate_of n g ∷ drop i gates) (sym (add-one g))

  after : suc (n.inputs + g) ≡ n.inputs + (g + 1)
  after = omega arith

  -- a gate that does not read u is passed over, a reader is merged
  turn_silent : reads u (gate_of n g) ≡ false → steps_from n u g ≡ steps_from n u (g + 1)
  unfolding reader_steps reads
  turn_silent e = rw (left, not-false (silent u (gate_of n g)) e) (ap (λ (v : ℕ). reader_steps u v (drop (g + 1) gates)) after)

  turn_reader : reads u (gate_of n g) ≡ true → steps_from n u g ≡ merging (n.inputs + g) (gate_of n g) ∷ steps_from n u (g + 1)
  unfolding reader_steps reads
  turn_reader e = rw (left, not-true (silent u (gate_of n g)) e)
      (ap (λ (v : ℕ). merging (n.inputs + g) (gate_of n g) ∷ reader_steps u v (drop (g + 1) gates)) after)

-- no gate is left
turn_end : (n : Network) (u g : ℕ) → n.gates ≤ g → steps_from n u g ≡ []
unfolding reader_steps
turn_end n u g h = rw (drop_of_length-le (net_of n).gates {i = g} (omega (arith, count_gates n)))

-- ---- the journal: what is left to enter gives the whole
pub record Left (n : Network) (u g : ℕ) (j now : Journal) : Type 0 where
  pub rest : enter_all now (steps_from n u g) ≡ enter_all j (reader_steps u n.inputs (net_of n).gates)

pub left_all : (n : Network) (u : ℕ) (j : Journal) → Left n u 0 j j
left_all n u j = record { rest = ap (λ (v : ℕ). enter_all j (reader_steps u v (net_of n).gates)) (let e : n.inputs + 0 ≡ n.inputs = omega arith in e) }

module _ (n : Network) (u g : ℕ) {j now : Journal} (l : Left n u g j now) where
  pub left_silent : g < n.gates → reads u (gate_of n g) ≡ false → Left n u (g + 1) j now
  left_silent h e = record { rest = sym (ap (enter_all now) (turn_silent n u g h e)) ∙ l.rest }

  pub left_reader : sound_record n ≡ true → g < n.gates → reads u (gate_of n g) ≡ true
      → {next : Journal} → next ≡ with_step now 0 (n.inputs + g) (row_in n g) → Left n u (g + 1) j next
  unfolding enter_all enter kind_of signal_of old_gate
  left_reader s h e {next} en = record {
    rest = ap (λ (x : Journal). enter_all x (steps_from n u (g + 1)))
        (en ∙ ap (λ (x : GateRecord). with_step now 0 (n.inputs + g) x) (row_gate n g (T_is (sound_record n) s) h))
        ∙ sym (ap (enter_all now) (turn_reader n u g h e)) ∙ l.rest;
  }

  -- after the last gate all merges are entered
  pub left_end : n.gates ≤ g → now ≡ enter_all j (reader_steps u n.inputs (net_of n).gates)
  unfolding enter_all
  left_end h = sym (ap (enter_all now) (turn_end n u g h)) ∙ l.rest

-- then comes the drop
pub drop_last : (n : Network) (u : ℕ) (j : Journal) {mid next : Journal} → mid ≡ enter_all j (reader_steps u n.inputs (net_of n).gates)
    → next ≡ with_step mid 1 u (gate_record (gate_at (net_of n) u)) → next ≡ enter_all j (collapse_steps (net_of n) u)
unfolding enter_all enter kind_of signal_of old_gate collapse_steps net_of
drop_last n u j {mid} {next} h e =
    let drops : List Step = dropping u (gate_at (net_of n) u) ∷ [] in
    e ∙ ap (λ (x : Journal). enter_all x drops) h ∙ sym (enter_all_join j (reader_steps u n.inputs (net_of n).gates) drops)
