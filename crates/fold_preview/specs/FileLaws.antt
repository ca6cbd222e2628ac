-- The preview on a whole file is that of the record of its network. Assumes nothing.
use Rattle.std.specs.Prelude.{◌≡◌, refl, List, ℕ, zero, suc, length}
use Rattle.std.proofs.Common.{sym, ap, ◌∙◌}
use Rattle.basics.specs.Refusals.{Answer, accepted, refused, bind}
use Rattle.network.specs.Threshold.{Net}
use Rattle.network.specs.declared.Network.{Network}
use Rattle.network_report.specs.Size.{sizes, report_of}
use Rattle.network_report.specs.declared.SizeReport.{SizeReport}
use Rattle.fold_theory.specs.Collapse.{collapse}
use Rattle.fold_theory.proofs.RefusalLaws.{Numbered}
use Rattle.fold_theory.proofs.NumberLaws.{collapse_numbered}
use Rattle.fold_merge.specs.AnswerLaws.{on_layout}
use Rattle.pmn_opening.specs.Places.{answer_of, size_places}
use Rattle.pmn_opening.specs.Opening.{FileOpen}
use Rattle.pmn_opening.specs.OpeningLaws.{open_on}
use Rattle.fold_preview.specs.Preview.{previewed}
use Rattle.fold_preview.specs.Files.{preview_places}

-- the places of a report are the figures of its network
size_places_lem : (a : Answer Net) → Numbered a → bind a (λ M. accepted (sizes M)) ≡ size_places (report_of a)
unfolding bind report_of answer_of
size_places_lem (accepted M) n = refl
size_places_lem (refused zero) n = absurd (n refl)
size_places_lem (refused (suc c)) n = refl

pub preview_answer : {file : List ℕ} {r : Network} (lent : List ℕ) → FileOpen file (length lent) 3 r → (s : ℕ) {z : SizeReport} → z ≡ previewed r s
    → preview_places file s lent ≡ size_places z
unfolding preview_places previewed
preview_answer lent a s e =
    let N = a.net in
    open_on a _
    ∙ size_places_lem (collapse N s) (collapse_numbered N s)
    ∙ sym (ap size_places (e ∙ ap (λ (r : Network). previewed r s) a.laid ∙ ap report_of (on_layout N a.sound (λ M. collapse M s))))
