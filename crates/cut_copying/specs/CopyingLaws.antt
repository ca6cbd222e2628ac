-- Laws of what the copying of the marked gates goes by. Assumes nothing.
use Rattle.std.specs.Prelude.{◌≡◌, Bool, true, List, length, take}
use Rattle.std.proofs.Common.{sym, ◌∙◌, arith, length-take-le}
use Rattle.network.specs.Record.{net_of, sound_record}
use Rattle.network.specs.RecordLaws.{count_gates}
use Rattle.network.specs.SoundLaws.{sized_of}
use Rattle.network.specs.declared.Network.{Network}

-- there is a mark for each gate of a sound record
pub marks_long : (r : Network) → sound_record r ≡ true → (marks : List Bool) → length marks ≡ 128 → length (take r.gates marks) ≡ length (net_of r).gates
marks_long r whole marks l = length-take-le r.gates marks (omega (arith, l, (sized_of r whole).few_gates)) ∙ sym (count_gates r)
