-- Internal: a call's code and what it gives, and a size report, as one answer. Nothing is proved here.
use Rattle.std.specs.Prelude.{List, [], ◌∷◌, ℕ, zero, suc}
use Rattle.basics.specs.Refusals.{Answer, accepted, refused}
use Rattle.network_report.specs.declared.SizeReport.{SizeReport}

-- code 0 gives the list, every other code is a refusal
unfoldable pub answer_of : ℕ → List ℕ → Answer (List ℕ)
answer_of zero xs = accepted xs
answer_of (suc k) xs = refused (suc k)

-- gates, cost and levels of a size report
abbrev pub size_places : SizeReport → Answer (List ℕ)
size_places z = answer_of z.code (z.gates ∷ z.cost ∷ z.levels ∷ [])
