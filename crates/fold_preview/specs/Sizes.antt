-- Internal: what a preview gives, as a report. Nothing is proved here.
use Rattle.std.specs.Prelude.{Result, Ok, Err}
use Rattle.refusals.specs.Numbers.{number_of}
use Rattle.refusals.specs.declared.Refusal.{Refusal}
use Rattle.network_report.specs.declared.SizeReport.{SizeReport}

-- a report, or that of a refusal
abbrev pub as_size : Result SizeReport Refusal → SizeReport
as_size (Ok z) = z
as_size (Err e) = record { code = number_of e; gates = 0; cost = 0; levels = 0 }
