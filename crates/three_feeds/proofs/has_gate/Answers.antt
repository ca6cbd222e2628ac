use Rattle.std.proofs.Common.{ap, false, map, ℕ, get_or}
use Rattle.three_feeds.specs.Rule.{has_gate}
use Rattle.three_feeds.specs.Table.{table_entries}
use Rattle.three_feeds.proofs.has_gate.Goals as goal

pub returns : goal.returns
unfolding table_entries has_gate
returns c = ap (λ (i : ℕ). get_or (map has_gate table_entries) i false) c.from.ensures
