-- The sheet on a whole file is that of its network, and its numbers in lent places. Assumes nothing.
use Rattle.std.specs.Prelude.{◌≡◌, refl, List, [], ◌∷◌, ℕ, zero, suc}
use Rattle.std.proofs.Common.{sym, ap, ◌∙◌, arith}
use Rattle.basics.specs.Refusals.{Answer, accepted, refused, bind}
use Rattle.basics.specs.RefusalLaws.{checks_next, checks_none}
use Rattle.network.specs.Threshold.{Net}
use Rattle.network.specs.Record.{sound_record}
use Rattle.network.specs.declared.Network.{Network}
use Rattle.fold_theory.proofs.RefusalLaws.{Numbered, checks_never, bind_never}
use Rattle.pmn_opening.specs.Places.{answer_of}
use Rattle.pmn_opening.specs.Opening.{FileOpen}
use Rattle.pmn_opening.specs.OpeningLaws.{file_sound, open_record, open_on}
use Rattle.scorer_theory.specs.Rules.{Pins, Game, first_frame, next_game, ball, felled_from}
use Rattle.scorer_theory.specs.NetworkGames.{pins_on, game}
use Rattle.scorer_tally.specs.Sheets.{as_sheet}
use Rattle.scorer.specs.Answers.{sheet_places, score_places}
use Rattle.scorer_places.specs.Numbers.{sheet_numbers}
use Rattle.scorer_play.specs.Sheets.{network_sheet}
use Rattle.scorer_tally.specs.declared.Sheet.{Sheet}

-- ---- the number of a refusal is not 0

pins_numbered : (N : Net) (x : ℕ) → Numbered (pins_on N x)
unfolding pins_on
pins_numbered N x = checks_never 0 _ (accepted _) (omega arith, tt) tt

ball_numbered : (g : Game) (after : Pins) → Numbered (ball g after)
unfolding ball
ball_numbered g after = checks_never 0 _ (accepted after) (omega arith, (omega arith, tt)) tt

felled_numbered : (pins : ℕ → Answer Pins) → ((x : ℕ) → Numbered (pins x)) → (g : Game) (xs : List ℕ) → Numbered (felled_from pins g xs)
unfolding felled_from
felled_numbered pins n g [] = tt
felled_numbered pins n g (x ∷ xs) =
    bind_never 0 (bind (pins x) (ball g)) _ (bind_never 0 (pins x) (ball g) (n x) (ball_numbered g))
    λ after. bind_never 0 (felled_from pins (next_game g after) xs) _ (felled_numbered pins n (next_game g after) xs) (λ rest. tt)

game_numbered : (N : Net) (frames : List ℕ) → Numbered (game N frames)
unfolding game
game_numbered N frames =
    checks_never 0 _ (felled_from (pins_on N) first_frame frames) (omega arith, tt) (felled_numbered (pins_on N) (pins_numbered N) first_frame frames)

-- ---- the sheet in its places

sheet_places_lem : (a : Answer (List ℕ)) → Numbered a → bind a (λ felled. accepted (sheet_places felled)) ≡ answer_of (as_sheet a).code (sheet_numbers (as_sheet a))
unfolding bind sheet_places as_sheet answer_of sheet_numbers
sheet_places_lem (accepted felled) n = refl
sheet_places_lem (refused zero) n = absurd (n refl)
sheet_places_lem (refused (suc c)) n = refl

pub score_answer : {file : List ℕ} {r : Network} {lent : ℕ} → FileOpen file lent 33 r → (frames : List ℕ) {s : Sheet} → s ≡ network_sheet r frames
    → score_places file frames lent ≡ answer_of s.code (sheet_numbers s)
unfolding score_places network_sheet
score_answer {r = r} f frames e =
    let N = f.net in
    let sheet = e ∙ ap as_sheet (checks_next (sound_record r) 20 [] _ (file_sound f) ∙ checks_none _) in
    open_on f _
    ∙ sheet_places_lem (game N frames) (game_numbered N frames)
    ∙ sym (ap (λ (x : Sheet). answer_of x.code (sheet_numbers x)) (sheet ∙ ap (λ (M : Net). as_sheet (game M frames)) (sym (open_record f))))
