-- Internal: what the readers of a gate and of its feeds answer, in the terms of the format. Nothing is proved here.
use Rattle.std.specs.Prelude.{List, ℤ}
use Rattle.network.specs.Threshold.{Feed}
use Rattle.network.specs.Record.{gate_record}
use Rattle.network.specs.declared.GateRecord.{GateRecord}

-- the feed that was read
abbrev pub feed_of : Rattle.pmn_gate.specs.declared.Feed.Feed → Feed
feed_of f = record { signal = f.signal; weight = f.weight }

-- the 16 places of a gate with a threshold, by its feeds
abbrev pub gate_places : ℤ → List Feed → GateRecord
gate_places t fs = gate_record (record { feeds = fs; threshold = t })
