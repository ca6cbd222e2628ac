-- Internal: what the functions that make a rising list say of each other: lists of sums in a table. A list of n sums stands at places n to 2 n − 1, so
-- that a list and the one twice as long that is made of it lie beside each other. Nothing is proved here.
use Rattle.std.specs.Prelude.{◌≡◌, Bool, cond, ◌&&◌, List, ℕ, ◌+◌, ◌*◌, ◌-◌, ◌≤◌, ◌<◌, ℤ, pos, nat_abs, ◌+ℤ◌, length, get_or, set}
use Rattle.std.specs.Int.Signed.{le_z}
use Rattle.basics.specs.Lists.{below}
use Rattle.basics.specs.IntegerLaws.{hi, lo}
use Rattle.gate_rising.specs.Sums.{every_sum}

-- x is at most y, as linear arithmetic reads it
abbrev pub AtMost : ℤ → ℤ → Type 0
AtMost x y = hi x + lo y ≤ hi y + lo x

-- member i of the list of n sums
abbrev pub member : List ℤ → ℕ → ℕ → ℤ
member sums n i = get_or sums (n + i) (pos 0)

-- the list of n sums rises
abbrev pub Rising : ℕ → List ℤ → Type 0
Rising n sums = (i j : ℕ) → i ≤ j → j < n → AtMost (member sums n i) (member sums n j)

-- no member of the list of n sums is above size in size
abbrev pub SumsWithin : ℕ → ℕ → List ℤ → Type 0
SumsWithin size n sums = (i : ℕ) → i < n → nat_abs (member sums n i) ≤ size

-- the list of n sums has the sums of ws and no others
abbrev pub Listed : List ℤ → ℕ → List ℤ → Type 0
Listed ws n sums = (p : ℤ → Bool) → below n (λ i. p (member sums n i)) ≡ every_sum p ws

-- a list that can be doubled: by a weight on the scale, within the table
pub record Growable (n : ℕ) (w : ℤ) (sums : List ℤ) : Type 0 where
  pub long : length sums ≡ 512
  pub few : n ≤ 128
  pub weight_small : nat_abs w ≤ 1000000
  pub sums_small : SumsWithin 7000000 n sums
  pub rising : Rising n sums

-- the next two members to choose from: one of the list of n sums, and one with w
pub record ChoiceOfTwo (n : ℕ) (w : ℤ) (a b : ℕ) (sums : List ℤ) : Type 0 where
  pub few : n ≤ 128
  pub a_inside : a < n
  pub b_inside : b < n
  pub weight_small : nat_abs w ≤ 1000000
  pub sums_small : SumsWithin 7000000 n sums

-- the chosen one stands at its place, and the answer is 1 for the first
pub record ChosenPut (first : Bool) (x y : ℤ) (place : ℕ) (before after : List ℤ) (answer : ℕ) : Type 0 where
  pub placed : after ≡ set before place (cond first x y)
  pub told : answer ≡ cond first 1 0

-- the lower of member a and of member b with w stands at the front, where a + b members stand; the answer is 1 for member a
abbrev pub PutFront : ℕ → ℤ → ℕ → ℕ → List ℤ → List ℤ → ℕ → Type 0
PutFront n w a b before after answer =
    ChosenPut (le_z (member before n a) (w +ℤ member before n b)) (member before n a) (w +ℤ member before n b) (2 * n + (a + b)) before after answer

-- the higher of member c − 1 and of member d − 1 with w stands at the back, where c + d places are left; the answer is 1 for the one with w
abbrev pub PutBack : ℕ → ℤ → ℕ → ℕ → List ℤ → List ℤ → ℕ → Type 0
PutBack n w c d before after answer =
    ChosenPut (le_z (member before n (c - 1)) (w +ℤ member before n (d - 1))) (w +ℤ member before n (d - 1)) (member before n (c - 1))
    (2 * n + (c + d - 1)) before after answer

-- the list of 2 n sums is that of n, with and without w
pub record Grown (n : ℕ) (w : ℤ) (before after : List ℤ) : Type 0 where
  pub long : length after ≡ 512
  pub doubled : (p : ℤ → Bool)
      → below (2 * n) (λ i. p (member after (2 * n) i)) ≡ (below n (λ i. p (member before n i)) && below n (λ i. p (w +ℤ member before n i)))
  pub rising : Rising (2 * n) after

-- the sums of ws stand in the table, rising
pub record HoldsSums (ws : List ℤ) (n : ℕ) (sums : List ℤ) : Type 0 where
  pub long : length sums ≡ 512
  pub listed : Listed ws n sums
  pub rising : Rising n sums
