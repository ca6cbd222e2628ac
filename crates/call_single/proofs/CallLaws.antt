-- Merge and drop on a sound record, from what they answer on its network. Assumes nothing.
use Rattle.std.specs.Prelude.{◌≡◌, true, ℕ, ◌+◌, ◌-◌, ◌≤◌, ◌<◌}
use Rattle.std.proofs.Common.{refl, arith}
use Rattle.basics.specs.TestLaws.{T_is}
use Rattle.network.specs.Limits.{is_gate}
use Rattle.network.specs.LimitLaws.{has_of}
use Rattle.network.specs.Places.{SoundGate}
use Rattle.network.specs.RecordLaws.{gate_number, row_gate_at}
use Rattle.network.specs.SoundLaws.{sized_of}
use Rattle.network_places.specs.Parts.{row_in}
use Rattle.basics.specs.Refusals.{accepted, refused}
use Rattle.network.specs.Threshold.{Net}
use Rattle.network.specs.Record.{net_of, layout, gate_record, sound_record}
use Rattle.network.specs.Changes.{gate_at}
use Rattle.fold_theory.specs.Merge.{merge}
use Rattle.fold_theory.specs.Collapse.{drop_gate}
use Rattle.call_theory.specs.Steps.{old_gate}
use Rattle.call_theory.specs.Calls.{steps_of, reply_of}
use Rattle.call_theory.specs.declared.Call.TheVariants.{Merge, Drop}
use Rattle.journal.specs.Journals.{kind_of, signal_of, with_step, enter, enter_all}
use Rattle.journal.specs.Records.{state_of, sound_whole}
use Rattle.journal.specs.Answers.{journal_after, applied}
use Rattle.journal.specs.Parts.{refusing, answered}
use Rattle.journal.specs.declared.Record.{Record}
use Rattle.journal.proofs.CallLaws.{IsCall, call_refused, call_accepted}

module _ (r : Record) (whole : sound_whole r ≡ true) where
  abbrev net : Net
  net = net_of r.network

  -- ---- merge
  module _ (u v k l : ℕ) where
    is_merge : IsCall r (Merge u v k l) (λ M. merge M u v k l)
    unfolding reply_of state_of
    is_merge = refl

    pub merge_refused : (c : ℕ) → merge net u v k l ≡ refused c → refusing c r ≡ applied r (Merge u v k l)
    merge_refused = call_refused r (Merge u v k l) (λ M. merge M u v k l) whole is_merge

    pub merge_entered : (M : Net) → merge net u v k l ≡ accepted M
        → answered (layout M) (with_step r.journal 0 v (gate_record (gate_at net v))) 0 ≡ applied r (Merge u v k l)
    unfolding journal_after steps_of enter_all enter kind_of signal_of old_gate
    merge_entered = call_accepted r (Merge u v k l) (λ M. merge M u v k l) whole is_merge

  -- ---- drop
  module _ (s : ℕ) where
    is_drop : IsCall r (Drop s) (λ M. drop_gate M s)
    unfolding reply_of state_of
    is_drop = refl

    pub drop_refused : (c : ℕ) → drop_gate net s ≡ refused c → refusing c r ≡ applied r (Drop s)
    drop_refused = call_refused r (Drop s) (λ M. drop_gate M s) whole is_drop

    pub drop_entered : (M : Net) → drop_gate net s ≡ accepted M
        → answered (layout M) (with_step r.journal 1 s (gate_record (gate_at net s))) 0 ≡ applied r (Drop s)
    unfolding journal_after steps_of enter_all enter kind_of signal_of old_gate
    drop_entered = call_accepted r (Drop s) (λ M. drop_gate M s) whole is_drop

-- ---- the gate that a call is about
module _ (r : Record) (s : ℕ) (own : SoundGate r.network s) where
  -- its number, and its signal as a byte
  pub place : (r.network.inputs ≤ s) × (s < r.network.inputs + r.network.gates) × (r.network.gates ≤ 128) × (s - r.network.inputs < 128) × (s < 256)
  place =
      let n = gate_number r.network s own in
      let few = (sized_of r.network own.sound).few_inputs in
      (omega (arith, n), omega (arith, n), omega (arith, n), omega (arith, n), omega (arith, n, few))

  -- its places are those of the gate of the network
  pub row_is : row_in r.network (s - r.network.inputs) ≡ gate_record (gate_at (net_of r.network) s)
  row_is = row_gate_at r.network s (T_is (sound_record r.network) own.sound) (has_of (net_of r.network) s (T_is (is_gate (net_of r.network) s) own.gate))
