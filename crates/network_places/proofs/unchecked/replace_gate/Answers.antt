-- The record with the gate stored is that of the network with the gate. Assumes nothing.
use Rattle.std.proofs.Common.{rules, arith}
use Rattle.network.specs.RecordLaws.{gate_number}
use Rattle.network_places.specs.PartsLaws.{stored_is}
use Rattle.network_places.proofs.unchecked.replace_gate.Goals as goal

pub overflow_sub-v : goal.overflow_sub-v
overflow_sub-v c = (gate_number c.args.network c.args.v c.requires.0).0

pub store_gate-requires : goal.store_gate-requires
store_gate-requires c = omega (arith, gate_number c.args.network c.args.v c.requires.0)

pub returns : goal.returns
returns c = stored_is (search rules) c.args.v c.args.gate c.requires.0 c.requires.1 c.store_gate.ensures
