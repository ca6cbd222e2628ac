use Rattle.std.specs.Int.{w32, w64}
use Rattle.std.proofs.Common.{◌∙◌}
use mir.Facts.{to_z-of_z}
use Rattle.basics.specs.SizeLaws.{read_back}
use Rattle.three_feeds_places.specs.PlaceLaws.{gate_places_lem, witness_places}
use Rattle.three_feeds_places.proofs.numbers.Goals as goal

pub returns-in-HasGate : goal.returns-in-HasGate
returns-in-HasGate c =
    let ok = c.in-HasGate.known_told-1-own.given in
    gate_places_lem c.in-HasGate.is
    (read_back w64 c.from.type_inv (c.from.ensures ∙ to_z-of_z {w = w32} (record { sfits = ok.0.1 })))
    (read_back w64 c.from-in-HasGate.type_inv (c.from-in-HasGate.ensures ∙ to_z-of_z {w = w32} (record { sfits = ok.1.0.1 })))
    (read_back w64 c.from-in-HasGate-2.type_inv (c.from-in-HasGate-2.ensures ∙ to_z-of_z {w = w32} (record { sfits = ok.1.1.0.1 })))
    (read_back w64 c.from-in-HasGate-3.type_inv (c.from-in-HasGate-3.ensures ∙ to_z-of_z {w = w32} (record { sfits = ok.1.1.1.0.1 })))

pub returns-in-NoGate : goal.returns-in-NoGate
returns-in-NoGate c =
    witness_places c.in-NoGate.is
    (read_back w64 c.from-in-NoGate.type_inv c.from-in-NoGate.ensures)
    (read_back w64 c.from-in-NoGate-2.type_inv c.from-in-NoGate-2.ensures)
    (read_back w64 c.from-in-NoGate-3.type_inv c.from-in-NoGate-3.ensures)
    (read_back w64 c.from-in-NoGate-4.type_inv c.from-in-NoGate-4.ensures)
