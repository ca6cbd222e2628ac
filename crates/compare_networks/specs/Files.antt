-- What a comparison of two whole files answers, with the order as the first is read, as the second is read, 18, 19, and what it leaves in the lent
-- numbers. Nothing is proved here.
use Rattle.std.specs.Prelude.{◌≡◌, List, ◌∷◌, ℕ, get_or, drop}
use Rattle.basics.specs.Refusals.{Answer, accepted, refused, bind}
use Rattle.pmn_opening.specs.Files.{read_net, open_net}
use Rattle.compare_theory.specs.Verdicts.{Pair, comparable, Verdict}

-- the networks of both files, where so many places are lent
unfoldable pub compared_files : List ℕ → List ℕ → ℕ → Answer Pair
compared_files first second places = bind (read_net first) (λ N. bind (open_net second places 3) (λ M. comparable N M))

-- 0, and the verdict, the frame and the steps in the first three places; those after them stay as they were
pub record VerdictPut (p : Pair) (budget : ℕ) (before after : List ℕ) (number : ℕ) : Type 0 where
  pub number_is : number ≡ 0
  pub put : after ≡ get_or after 0 0 ∷ get_or after 1 0 ∷ get_or after 2 0 ∷ drop 3 before
  pub verdict : Verdict p.first p.second budget (get_or after 0 0) (get_or after 1 0) (get_or after 2 0)

-- a refusal: its number, and everything as it was
abbrev pub CompareLeft : Answer Pair → ℕ → List ℕ → List ℕ → ℕ → Type 0
CompareLeft (accepted p) budget before after number = VerdictPut p budget before after number
CompareLeft (refused c) budget before after number = (number ≡ c) × (after ≡ before)
