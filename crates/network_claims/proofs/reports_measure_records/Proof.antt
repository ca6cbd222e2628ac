-- By the law of reports; a record's arrays have their lengths. Assumes nothing.
use borrow.Author.Rules.{rules}
use Rattle.network.specs.RecordLaws.{ArrayLengths}
use Rattle.network_claims.proofs.SizeLaws.{report_meant}
use Rattle.network_claims.proofs.reports_measure_records.Statement.{statement}
use Rattle.network_claims.proofs.reports_measure_records.Tie as tie

shaped : (c : tie.Start) → ArrayLengths c.args.network
shaped c = record { fanins = search rules; signals = search rules; weights = search rules; thresholds = search rules; drivers = search rules }

returns : tie.Need-returns
returns c = report_meant c.args.network (shaped c)

pub reports_measure_records_spec : {M : Type 1} → statement M
reports_measure_records_spec = tie.close (tie.spec returns)
