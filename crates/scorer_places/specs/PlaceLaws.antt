-- Numbers copied to the front of lent places, and a sheet put into them. Assumes nothing.
use Rattle.std.specs.Prelude.{◌≡◌, refl, List, [], ◌∷◌, ◌++◌, ℕ, ◌+◌, ◌-◌, ◌≤◌, ◌<◌, length, get_or, set, take, drop}
use Rattle.std.proofs.Common.{sym, ap, ◌∙◌, add-one, arith, length-set, length-append, take-suc, length-take-le}
use Rattle.std.proofs.Math.Seq.{take-length}
use borrow.Rule.Slice.PartMut.{put_mid}
use Rattle.basics.specs.Refusals.{stored}
use Rattle.basics.specs.WriteLaws.{store_on, write_on}
use Rattle.pmn_opening.specs.Places.{answer_of}
use Rattle.scorer_tally.specs.declared.Sheet.{Sheet}
use Rattle.scorer_places.specs.Numbers.{sheet_numbers, CopiedToFront}

-- ---- numbers copied to the front

pub copied_none : (numbers before : List ℕ) → CopiedToFront numbers before before 0
copied_none numbers before = record { within = omega arith; front = refl; long = refl }

module _ {numbers before after : List ℕ} {n : ℕ} (c : CopiedToFront numbers before after n) where
  -- one more
  pub copied_next : n < length numbers → length numbers ≤ length before → CopiedToFront numbers before (set after n (get_or numbers n 0)) (n + 1)
  copied_next h room = record {
    within = omega arith;
    front = store_on before after (take n numbers) (get_or numbers n 0) n c.front (length-take-le n numbers c.within) (omega arith)
        ∙ ap (λ (l : List ℕ). l ++ drop (n + 1) before) (sym (ap (λ (k : ℕ). take k numbers) (add-one n) ∙ take-suc numbers n 0 h));
    long = length-set after n (get_or numbers n 0) ∙ c.long;
  }

  -- all
  pub copied_all : length numbers ≤ n → after ≡ numbers ++ drop (length numbers) before
  copied_all h =
      let all : n ≡ length numbers = omega (arith, c.within) in
      c.front ∙ ap (λ (k : ℕ). take k numbers ++ drop k before) all ∙ ap (λ (l : List ℕ). l ++ drop (length numbers) before) (take-length numbers)

-- ---- a sheet put into lent places

-- two numbers at the front, then the pins felled in the part from the third place on, then the scores in the part after these
pub sheet_put : (s : Sheet) (lent two pins scores : List ℕ) → length s.felled ≡ 21 → length s.scores ≡ 10 → 33 ≤ length lent → s.code ≡ 0
    → two ≡ (s.balls ∷ s.scored ∷ []) ++ drop 2 lent
    → pins ≡ s.felled ++ drop (length s.felled) (take (length two - 2) (drop 2 two))
    → let with_pins = put_mid 2 (length two - 2) two pins in
    scores ≡ s.scores ++ drop (length s.scores) (take (length with_pins - 23) (drop 23 with_pins))
    → put_mid 23 (length with_pins - 23) with_pins scores ≡ stored (answer_of s.code (sheet_numbers s)) lent
unfolding stored answer_of sheet_numbers
sheet_put s lent two pins scores p q h z first e f =
    let head = s.balls ∷ s.scored ∷ [] in
    let with_pins = put_mid 2 (length two - 2) two pins in
    let second : with_pins ≡ (head ++ s.felled) ++ drop 23 lent =
    write_on lent two pins head s.felled 2 21 first refl p (omega arith) (e ∙ ap (λ (n : ℕ). s.felled ++ drop n (take (length two - 2) (drop 2 two))) p) in
    let third : put_mid 23 (length with_pins - 23) with_pins scores ≡ ((head ++ s.felled) ++ s.scores) ++ drop 33 lent =
    write_on lent with_pins scores (head ++ s.felled) s.scores 23 10 second (omega (arith, length-append head s.felled)) q (omega arith)
    (f ∙ ap (λ (n : ℕ). s.scores ++ drop n (take (length with_pins - 23) (drop 23 with_pins))) q) in
    let many : 33 ≡ length (sheet_numbers s) = omega (arith, length-append s.felled s.scores) in
    third ∙ ap (λ (n : ℕ). (head ++ (s.felled ++ s.scores)) ++ drop n lent) many ∙ sym (ap (λ (n : ℕ). stored (answer_of n (sheet_numbers s)) lent) z)
