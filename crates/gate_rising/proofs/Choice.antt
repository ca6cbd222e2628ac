-- The choice between two sums as the machine holds them: the one that is put, and the answer which it is. Assumes nothing.
use Rattle.std.proofs.Common.{◌≡◌, refl, ap, ◌∙◌, Bool, true, false, cond, List, ℕ, ◌<◌, ◌^◌, arith, set, to_z, of_z}
use Rattle.std.specs.Prelude.{ℤ, ◌+ℤ◌}
use Rattle.std.specs.Int.{w32, int_min, int_max, from_bool}
use Rattle.std.specs.Int.Signed.{mag, le_z}
use Rattle.std.proofs.lemmas.Int.{ints}
use Rattle.basics.specs.SizeLaws.{size_add, read_back}
use Rattle.basics.specs.TestLaws.{byte_cond}
use Rattle.gate_rising.specs.HeldLaws.{held}
use Rattle.gate_rising.specs.Tables.{member, ChoiceOfTwo, ChosenPut}

lower : (x y : ℤ) → int_min x y ≡ cond (le_z x y) x y
lower x y = grind (arith, ints)

higher : (x y : ℤ) → int_max x y ≡ cond (le_z x y) y x
higher x y = grind (arith, ints)

-- members a of the one list and b of the other, the latter with the weight
module _ (n : ℕ) (w : ℤ) (a b : ℕ) (sums : List ℤ) (ok : ChoiceOfTwo n w a b sums) where
  abbrev as_held : ℤ → ℤ
  as_held z = to_z w32 (of_z w32 z)

  abbrev x : ℤ
  x = member sums n a

  abbrev y : ℤ
  y = w +ℤ member sums n b

  abbrev held_x : ℤ
  held_x = as_held x

  abbrev held_y : ℤ
  held_y = as_held (as_held w +ℤ as_held (member sums n b))

  x_held : held_x ≡ x
  x_held = held x (omega (arith, ok.sums_small a ok.a_inside))

  y_held : held_y ≡ y
  y_held =
      let e : as_held w ≡ w = held w (omega (arith, ok.weight_small)) in
      let f : as_held (member sums n b) ≡ member sums n b = held (member sums n b) (omega (arith, ok.sums_small b ok.b_inside)) in
      simp (e, f) (held y (omega (arith, size_add w (member sums n b), ok.weight_small, ok.sums_small b ok.b_inside)))

  -- the lower one is put
  pub lower_put : {z : ℤ} {answer : ℕ} (place : ℕ) → mag z < 2 ^ 31 → z ≡ int_min held_x held_y → answer ≡ from_bool (le_z held_x held_y)
      → ChosenPut (le_z x y) x y place sums (set sums place (as_held z)) answer
  lower_put place f e t = record {
    placed = ap (set sums place) (read_back w32 f (e ∙ lower held_x held_y ∙ rw (x_held, y_held)));
    told = t ∙ byte_cond (le_z held_x held_y) ∙ rw (x_held, y_held);
  }

  -- the higher one is put
  pub higher_put : {z : ℤ} {answer : ℕ} (place : ℕ) → mag z < 2 ^ 31 → z ≡ int_max held_x held_y → answer ≡ from_bool (le_z held_x held_y)
      → ChosenPut (le_z x y) y x place sums (set sums place (as_held z)) answer
  higher_put place f e t = record {
    placed = ap (set sums place) (read_back w32 f (e ∙ higher held_x held_y ∙ rw (x_held, y_held)));
    told = t ∙ byte_cond (le_z held_x held_y) ∙ rw (x_held, y_held);
  }
