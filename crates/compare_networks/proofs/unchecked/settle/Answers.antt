-- What is shown of the joint merged, or read on it, is so of the joint as it was.
use Rattle.compare_networks.specs.SettledLaws.{outputs_kept, matched_settled, settled_before}
use Rattle.compare_networks.proofs.unchecked.settle.Goals as goal
use Rattle.compare_networks.proofs.unchecked.settle.Goals.{in-Some, in-None}

pub read-finding-requires : goal.read-finding-requires
read-finding-requires c = outputs_kept c.requires.0 c.match_outputs-outcome.ensures.merged

pub returns-clause-settled : goal.returns-clause-settled
returns-clause-settled c =
    let merged = c.match_outputs-outcome.ensures.merged in
    elim c.match-outcome.branch [
      | in-Some w ↦ rw w.finding-is (settled_before c.requires.0 merged _ w.read-finding.ensures)
      | in-None w ↦ rw w.finding-is (matched_settled c.requires.0 merged (rw w.in-None.is at c.match_outputs-outcome.ensures.cases))
    ]
