-- The arrays of a sound record: what each gate in them has. Assumes nothing.
use Rattle.std.proofs.Common.{subst, arith}
use Rattle.std.specs.Prelude.{List, ℕ, ◌+◌, ◌<◌, T, ℤ}
use Rattle.basics.specs.ListLaws.{length_tab, get_or_tab}
use Rattle.network.specs.Sound.{GateOk}
use Rattle.network.specs.LimitLaws.{gates_at}
use Rattle.network.specs.Record.{gate_from, net_of, no_gate, sound_record}
use Rattle.network.specs.Places.{Counted}
use Rattle.network.specs.PlaceLaws.{length_gate_from}
use Rattle.network.specs.RecordLaws.{count_gates, sound_net, row_gate}
use Rattle.network.specs.declared.Network.{Network}
use Rattle.fold_readers.specs.Arrays.{gates_in, SoundArrays}

-- the arrays of a sound record
pub lent_of : (r : Network) → T (sound_record r) → SoundArrays r.fanins r.thresholds r.signals r.weights r.inputs r.gates
unfolding net_of
lent_of r t = let s = sound_net r t in record {
  some_inputs = s.few_inputs.0;
  few_inputs = s.few_inputs.1;
  few_gates = omega (arith, s.few_gates.1, count_gates r);
  all_gates = s.all_gates;
  rows = λ g h. row_gate r g t h;
}

module _ {fanins : List ℕ} {thresholds : List ℤ} {signals : List ℕ} {weights : List ℤ} {inputs gates : ℕ}
    (l : SoundArrays fanins thresholds signals weights inputs gates) where
  -- gate g is within the limits
  pub lent_gate : (g : ℕ) → g < gates → GateOk (inputs + g) (gate_from fanins thresholds signals weights g)
  lent_gate g h =
      let f = gate_from fanins thresholds signals weights in
      subst (GateOk (inputs + g)) (get_or_tab no_gate gates f g h)
      (gates_at inputs g (gates_in fanins thresholds signals weights gates) no_gate l.all_gates (omega (arith, length_tab gates f)))

  -- its feeds are counted
  pub lent_counted : Counted fanins gates
  lent_counted = record {
    few_gates = l.few_gates;
    few_feeds = λ g h. omega (arith, (lent_gate g h).few, length_gate_from fanins thresholds signals weights g);
  }
