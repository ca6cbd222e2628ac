-- The tests of a gate's signal and of the outputs, on a sound record. Assumes nothing.
use Rattle.std.specs.Prelude.{◌≡◌, refl, Bool, true, false, not, ℕ}
use Rattle.std.proofs.Math.Path.{sym}
use Rattle.std.proofs.Common.{◌∙◌}
use Rattle.basics.specs.Lists.{all, other}
use Rattle.basics.specs.TestLaws.{and_left}
use Rattle.network.specs.Limits.{sound, gate_signal}
use Rattle.network.specs.Record.{net_of, spare_clear, sound_record}
use Rattle.network.specs.RecordLaws.{gate_signal_lem}
use Rattle.network.specs.Places.{SoundGate}
use Rattle.network.specs.declared.Network.{Network}
use Rattle.fold_readers.specs.Readers.{occurs}

not_twice : (b : Bool) → not (not b) ≡ b
not_twice true = refl
not_twice false = refl

module _ (r : Network) (s : ℕ) (whole : sound_record r ≡ true) where
  pub net_test : sound (net_of r) ≡ true
  unfolding sound_record
  net_test = and_left (sound (net_of r)) (spare_clear r) whole

  pub output_test : all (other s) (net_of r).outputs ≡ not (occurs r.drivers 0 r.outputs s)
  unfolding occurs net_of
  output_test = sym (not_twice _)

  pub sound_gate : gate_signal r.inputs r.gates s ≡ true → SoundGate r s
  sound_gate gate = record { sound = whole; gate = gate_signal_lem r s ∙ gate }
