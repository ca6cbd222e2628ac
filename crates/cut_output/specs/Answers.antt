-- What the cut of a record answers. Document 02, No. 12. Nothing is proved here.
use Rattle.std.specs.Prelude.{[], ◌∷◌, ℕ}
use Rattle.basics.specs.Refusals.{Answer, accepted, refused, ◌else◌, checks}
use Rattle.network.specs.Threshold.{Net}
use Rattle.network.specs.Record.{net_of, layout}
use Rattle.journal.specs.Records.{sound_whole, just_read}
use Rattle.journal.specs.declared.Record.{Record}
use Rattle.cut_theory.specs.Cut as cuts
use Rattle.cut_output.specs.declared.CutAnswer.{CutAnswer}

-- "the journal is empty"; a refusal hands the record back
unfoldable pub as_cut_answer : Record → Answer Net → CutAnswer
as_cut_answer r (accepted M) = record { code = 0; after = just_read (layout M) }
as_cut_answer r (refused k) = record { code = k; after = r }

-- 20 for the network or the journal, then 8
unfoldable pub cut_record : Record → ℕ → CutAnswer
cut_record r output = as_cut_answer r (checks ((sound_whole r else 20) ∷ []) (cuts.cut (net_of r.network) output))
