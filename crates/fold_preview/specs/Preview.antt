-- The preview of a collapse: document 02, No. 1. Nothing is proved here.
use Rattle.std.specs.Prelude.{ℕ}
use Rattle.network.specs.declared.Network.{Network}
use Rattle.network_report.specs.Size.{report_of}
use Rattle.network_report.specs.declared.SizeReport.{SizeReport}
use Rattle.fold_theory.specs.Collapse.{collapse}
use Rattle.fold_merge.specs.Answers.{on_record}

-- "what collapsing a gate would give: gates, cost and levels afterwards, or the refusal": the report of the network that a collapse leaves,
-- or the collapse's refusal
unfoldable pub previewed : Network → ℕ → SizeReport
previewed r s = report_of (on_record r (λ N. collapse N s))
