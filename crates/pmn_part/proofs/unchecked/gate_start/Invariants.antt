-- At each turn the place is where the next gate starts.
use Rattle.std.proofs.Common.{◌≡◌}
use Rattle.pmn_format.proofs.PartLaws.{start_by}
use Rattle.pmn_part.proofs.unchecked.gate_start.Given as goal

abbrev pub invariant-loop : goal.invariant-loop
invariant-loop l = l.at ≡ start_by l.file l.counter
