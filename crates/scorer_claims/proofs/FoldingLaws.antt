-- Scores go by the output bits, so they are kept where these are. Assumes nothing.
use Rattle.std.specs.Prelude.{◌≡◌, refl, Bool, true, false, List, [], ◌∷◌, ℕ, leb, length}
use Rattle.std.proofs.Common.{sym, ap, ◌∙◌}
use Rattle.std.proofs.Math.Path.{fun_ext}
use Rattle.basics.specs.Refusals.{Answer, accepted, ◌else◌, checks}
use Rattle.network.specs.Threshold.{Net, frame, fits_frame, output_bits}
use Rattle.network.specs.Record.{net_of}
use Rattle.call_theory.specs.declared.Call.{Call}
use Rattle.journal.specs.Records.{sound_whole, just_read}
use Rattle.journal.specs.declared.Record.{Record}
use Rattle.question_theory.proofs.AlikeLaws.{alike_inputs, alike_outputs}
use Rattle.pmn_format.specs.Format.{Bytes}
use Rattle.pmn_reader.specs.Answers.{loaded}
use Rattle.guarantees.specs.Files.{Accepted}
use Rattle.guarantees.proofs.FileLaws.{read_is_written}
use Rattle.guarantees.specs.Lists.{calls_on, ListClaim}
use Rattle.guarantees.proofs.ListLaws.{inputs_of, accepted_claim}
use Rattle.scorer_theory.specs.Rules.{Pins, pins_of, first_frame, felled_from}
use Rattle.scorer_theory.specs.NetworkGames.{pins_on, game}
use Rattle.scorer_tally.specs.Sheets.{as_sheet}
use Rattle.scorer.specs.Answers.{scoring}
use Rattle.scorer_claims.specs.Folding.{SameScores}

-- two networks with as many inputs and outputs that have the same output bits on every frame that is not too long
record ReadAlike (N M : Net) : Type 0 where
  inputs : M.inputs ≡ N.inputs
  outputs : length M.outputs ≡ length N.outputs
  bits : (x : ℕ) → fits_frame N.inputs x ≡ true → output_bits M (frame x) ≡ output_bits N (frame x)

-- their pins
pins_same : (fits : Bool) (bits bits' : List Bool) → (fits ≡ true → bits ≡ bits')
    → checks ((fits else 10) ∷ []) (accepted (pins_of bits)) ≡ checks ((fits else 10) ∷ []) (accepted (pins_of bits'))
unfolding checks
pins_same false bits bits' h = refl
pins_same true bits bits' h = ap (λ (bs : List Bool). accepted (pins_of bs)) (h refl)

pins_alike : {N M : Net} → ReadAlike N M → (x : ℕ) → pins_on M x ≡ pins_on N x
unfolding pins_on
pins_alike {N} {M} a x =
    ap (λ (n : ℕ). checks ((fits_frame n x else 10) ∷ []) (accepted (pins_of (output_bits M (frame x))))) a.inputs
    ∙ pins_same (fits_frame N.inputs x) (output_bits M (frame x)) (output_bits N (frame x)) (a.bits x)

-- and their games
game_alike : {N M : Net} → ReadAlike N M → (frames : List ℕ) → game M frames ≡ game N frames
unfolding game
game_alike {N} {M} a frames =
    ap (λ (n : ℕ). checks ((leb 10 n else 27) ∷ []) (felled_from (pins_on M) first_frame frames)) a.outputs
    ∙ ap (λ (pins : ℕ → Answer Pins). checks ((leb 10 (length N.outputs) else 27) ∷ []) (felled_from pins first_frame frames)) (fun_ext (pins_alike a))

-- ---- a list of calls

list_alike : (r : Record) (calls : List Call) → ListClaim r calls → ReadAlike (net_of r.network) (net_of (calls_on r calls).network)
list_alike r calls c =
    let N = net_of r.network in
    let M = net_of (calls_on r calls).network in
    record {
      inputs = sym (alike_inputs N M c.same_counts);
      outputs = sym (alike_outputs N M c.same_counts);
      bits = λ x h. c.same_bits x (ap (λ (n : ℕ). fits_frame n x) (sym (inputs_of r.network)) ∙ h);
    }

scores_alike : (r : Record) (calls : List Call) → sound_whole r ≡ true → ListClaim r calls → SameScores r calls
unfolding scoring
scores_alike r calls s c = record {
  sheets = λ frames.
      ap (λ (b : Bool). as_sheet (checks ((b else 20) ∷ []) (game (net_of (calls_on r calls).network) frames))) (c.sound_after ∙ sym s)
      ∙ ap (λ (a : Answer (List ℕ)). as_sheet (checks ((sound_whole r else 20) ∷ []) a)) (game_alike (list_alike r calls c) frames);
}

pub scores_kept : (file : List ℕ) → Bytes file → Accepted file → (calls : List Call) → SameScores (just_read (loaded file).network) calls
scores_kept file bytes ok calls =
    scores_alike (just_read (loaded file).network) calls ((read_is_written file bytes).sound_read ok) (accepted_claim file bytes ok calls)
