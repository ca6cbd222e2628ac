-- By the law of the same matter; a record's arrays have their lengths. Assumes nothing.
use borrow.Author.Rules.{rules}
use Rattle.network.specs.RecordLaws.{ArrayLengths}
use Rattle.guarantees.proofs.PreviewLaws.{preview_claim}
use Rattle.guarantees.proofs.previews_are_reports.Statement.{statement}
use Rattle.guarantees.proofs.previews_are_reports.Tie as tie

shaped : (c : tie.Start) → ArrayLengths c.args.held.network
shaped c = record { fanins = search rules; signals = search rules; weights = search rules; thresholds = search rules; drivers = search rules }

returns : tie.Need-returns
returns c = preview_claim c.args.held (shaped c)

pub previews_are_reports_spec : {M : Type 1} → statement M
previews_are_reports_spec = tie.close (tie.spec returns)
