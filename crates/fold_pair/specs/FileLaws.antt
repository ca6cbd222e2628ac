-- The pair of two gates of a file is that of the record of its network. Assumes nothing.
use Rattle.std.specs.Prelude.{◌≡◌, refl, List, [], ◌∷◌, ℕ, zero, suc, length}
use Rattle.std.proofs.Common.{sym, ap, ◌∙◌}
use Rattle.basics.specs.Refusals.{Answer, accepted, refused, bind}
use Rattle.network.specs.declared.Network.{Network}
use Rattle.fold_theory.specs.Pair.{Pair, pair}
use Rattle.fold_theory.proofs.RefusalLaws.{Numbered}
use Rattle.fold_theory.proofs.NumberLaws.{pair_numbered}
use Rattle.pmn_opening.specs.Places.{answer_of}
use Rattle.pmn_opening.specs.Opening.{FileOpen}
use Rattle.pmn_opening.specs.OpeningLaws.{open_on}
use Rattle.fold_pair.specs.Answers.{as_pair, pair_found}
use Rattle.fold_merge.specs.AnswerLaws.{on_layout}
use Rattle.fold_pair.specs.Files.{pair_places}
use Rattle.fold_pair.specs.declared.PairFound.{PairFound}

-- the places of a pair
abbrev pair_numbers : PairFound → Answer (List ℕ)
pair_numbers p = answer_of p.code (p.k ∷ p.l ∷ [])

pair_places_lem : (a : Answer Pair) → Numbered a → bind a (λ p. accepted (p.k ∷ p.l ∷ [])) ≡ pair_numbers (as_pair a)
unfolding bind as_pair answer_of
pair_places_lem (accepted p) n = refl
pair_places_lem (refused zero) n = absurd (n refl)
pair_places_lem (refused (suc c)) n = refl

pub pair_answer : {file : List ℕ} {r : Network} (lent : List ℕ) → FileOpen file (length lent) 2 r → (u v : ℕ) {p : PairFound} → p ≡ pair_found r u v
    → pair_places file u v lent ≡ answer_of p.code (p.k ∷ p.l ∷ [])
unfolding pair_places pair_found
pair_answer lent a u v e =
    let N = a.net in
    open_on a _
    ∙ pair_places_lem (pair N u v) (pair_numbered N u v)
    ∙ sym (ap pair_numbers (e ∙ ap (λ (r : Network). pair_found r u v) a.laid ∙ ap as_pair (on_layout N a.sound (λ M. pair M u v))))
