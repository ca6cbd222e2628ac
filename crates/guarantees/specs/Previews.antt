-- Document 02, No. 1, of what the calls on a record promise. Nothing is proved here.
use Rattle.std.specs.Prelude.{◌≡◌, ◌≢◌, ℕ}
use Rattle.call_theory.specs.Calls.{figures_of}
use Rattle.call_theory.specs.declared.Call.TheVariants.{Collapse, Preview}
use Rattle.journal.specs.Answers.{applied}
use Rattle.journal.specs.declared.Record.{Record}
use Rattle.journal_calls.specs.Answers.{report_on, preview_on}

-- "The preview equals the report on a copy that was really collapsed", or it has the collapse's refusal and no figures; as a call of a list
-- it hands back the record that it got, "The network in hand is as before", with the whole preview
pub record PreviewClaim (r : Record) (s : ℕ) : Type 0 where
  pub equals : (applied r (Collapse s)).code ≡ 0 → preview_on r s ≡ report_on (applied r (Collapse s)).after
  pub refuses : (applied r (Collapse s)).code ≢ 0 → preview_on r s ≡ record { code = (applied r (Collapse s)).code; gates = 0; cost = 0; levels = 0 }
  pub in_a_list : applied r (Preview s) ≡ record { code = (preview_on r s).code; after = r; figures = figures_of (preview_on r s) }
