-- Internal: what a preview as a call of a list answers. Nothing is proved here.
use Rattle.std.specs.Prelude.{Result, Ok, Err}
use Rattle.refusals.specs.Numbers.{number_of}
use Rattle.refusals.specs.declared.Refusal.{Refusal}
use Rattle.network_report.specs.declared.SizeReport.{SizeReport}
use Rattle.call_theory.specs.declared.Figures.{Figures}
use Rattle.journal.specs.declared.CallAnswer.{CallAnswer}
use Rattle.journal.specs.declared.Record.{Record}

-- a preview at r
abbrev pub with_size : Record → SizeReport → CallAnswer
with_size r z = record { code = z.code; after = r; figures = record { first = z.gates; second = z.cost; third = z.levels } }

-- a report's three numbers
abbrev pub size_figures : SizeReport → Figures
size_figures z = record { first = z.gates; second = z.cost; third = z.levels }

-- three numbers, or a refusal, as a report
abbrev pub size_given : Result Figures Refusal → SizeReport
size_given (Ok f) = record { code = 0; gates = f.first; cost = f.second; levels = f.third }
size_given (Err e) = record { code = number_of e; gates = 0; cost = 0; levels = 0 }
