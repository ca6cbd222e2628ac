-- The bytes that are left of a list: from a place on, one after the other, and after a board. Assumes nothing.
use Rattle.std.specs.Prelude.{◌≡◌, List, ℕ, ◌+◌, ◌-◌, ◌≤◌, length, drop}
use Rattle.std.proofs.Common.{ap, ◌∙◌, arith, length-drop}
use Rattle.std.proofs.lemmas.Grind.{common_steps}
use Rattle.std.proofs.lemmas.List.{drop-drop}
use Rattle.network.specs.declared.Board.{Board}
use Rattle.pmn_format.specs.Format.{done, parse_board}
use Rattle.pmn_header.specs.HeadAnswers.{Left}

-- from a place on
pub left_from : (n : ℕ) (s : List ℕ) → n ≤ length s → Left s (drop n s)
left_from n s h = record {
  inside = omega (arith, length-drop n s);
  last = ap (λ (k : ℕ). drop k s) {x = n} {y = length s - length (drop n s)} (omega (arith, length-drop n s));
}

-- what is left of what is left
pub left_on : {s m l : List ℕ} → Left s m → Left m l → Left s l
left_on {s} {m} {l} h k =
    let f = h.inside in
    let g = k.inside in
    record {
      inside = omega arith;
      last = k.last
          ∙ ap (drop (length m - length l)) h.last
          ∙ drop-drop (length m - length l) (length s - length m) s
          ∙ ap (λ (n : ℕ). drop n s) {x = (length s - length m) + (length m - length l)} {y = length s - length l} (omega arith);
    }

-- after a board
pub left_board : (v : ℕ) (s : List ℕ) (b : Board) (m : List ℕ) → done b m ≡ parse_board v s → Left s m
left_board v s b m e = grind (arith, common_steps)
