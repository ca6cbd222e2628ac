-- The two corners of the walk as the machine holds their sums. Assumes nothing.
use Rattle.std.proofs.Common.{◌≡◌, sym, ◌∙◌, Bool, true, false, ◌&&◌, ◌⊎◌, List, ℕ, ◌+◌, ◌-◌, ◌≤◌, ◌<◌, arith, length, get_or, to_z, of_z, to_z-of_z, SFits}
use Rattle.std.specs.Prelude.{ℤ, pos, ◌+ℤ◌}
use Rattle.std.specs.Int.{w32, from_bool}
use Rattle.std.specs.Int.Signed.{le_z}
use Rattle.basics.specs.SizeLaws.{size_add, size_fits}
use Rattle.basics.specs.TestLaws.{T_is, and_left, and_right, byte_below, byte_cond}
use Rattle.gate_rising.specs.HeldLaws.{held}
use Rattle.gate_margins.specs.Sums.{apart}
use Rattle.gate_margins.specs.Tables.{AddableList, lists_apart}
use Rattle.gate_margins.proofs.Walk.{Walk, upper_turn, lower_turn, walk_end, walk_broken, one_broken}

abbrev pub as_held : ℤ → ℤ
as_held z = to_z w32 (of_z w32 z)

pub one_few : (b : Bool) {r : ℕ} → r ≡ from_bool b → r ≤ 1
one_few b e = omega (arith, byte_below b)

module _ {lows highs : List ℤ} (low_ok : AddableList lows) (high_ok : AddableList highs) where
  abbrev low : ℕ → ℤ
  low x = get_or lows x (pos 0)

  abbrev high : ℕ → ℤ
  high y = get_or highs y (pos 0)

  -- the sum of two members, as it is added
  module _ (x y : ℕ) (h : x < length lows) (k : y < length highs) where
    abbrev both : ℤ
    both = as_held (low x) +ℤ as_held (high y)

    both_is : both ≡ low x +ℤ high y
    both_is = rw (held (low x) (omega (arith, low_ok.sums_small x h)), held (high y) (omega (arith, high_ok.sums_small y k)))

    pub both_fits : SFits w32 both
    both_fits = rw both_is (size_fits w32 (low x +ℤ high y)
        (omega (arith, size_add (low x) (high y), low_ok.sums_small x h, high_ok.sums_small y k)))

    both_held : as_held both ≡ low x +ℤ high y
    both_held = to_z-of_z both_fits ∙ both_is

  module _ {floor ceiling : ℤ} (floor_fits : SFits w32 floor) (ceiling_fits : SFits w32 ceiling) where
    -- the answer, from one with the numbers as the machine holds them
    answer : {b : Bool} → lists_apart lows highs (as_held floor) (as_held ceiling) ≡ b → b ≡ lists_apart lows highs floor ceiling
    answer e = sym (rw (to_z-of_z floor_fits, to_z-of_z ceiling_fits) at e)

    module _ {i j p q : ℕ} (s : Walk low high (length lows) (length highs) (as_held floor) (as_held ceiling) i j p q) where
      -- nothing is left
      pub ended : (p ≤ i) ⊎ (j ≤ q) → true ≡ lists_apart lows highs floor ceiling
      ended z = answer (unfold lists_apart in
          walk_end low high (length lows) (length highs) (as_held floor) (as_held ceiling) low_ok.rising high_ok.rising i j p q s z)

      -- members are left
      module _ (h : i < p) (k : q < j) {a b : Bool}
          (ea : a ≡ apart (as_held floor) (as_held ceiling) (as_held (as_held (low i) +ℤ as_held (high (j - 1)))))
          (eb : b ≡ apart (as_held floor) (as_held ceiling) (as_held (as_held (low (p - 1)) +ℤ as_held (high q)))) where
        upper : as_held (as_held (low i) +ℤ as_held (high (j - 1))) ≡ low i +ℤ high (j - 1)
        upper = both_held i (j - 1) (omega (arith, s.p_few)) (omega (arith, s.j_few))

        lower : as_held (as_held (low (p - 1)) +ℤ as_held (high q)) ≡ low (p - 1) +ℤ high q
        lower = both_held (p - 1) q (omega (arith, s.p_few)) (omega (arith, s.j_few))

        upper_clear : a ≡ apart (as_held floor) (as_held ceiling) (low i +ℤ high (j - 1))
        upper_clear = rw upper at ea

        lower_clear : b ≡ apart (as_held floor) (as_held ceiling) (low (p - 1) +ℤ high q)
        lower_clear = rw lower at eb

        -- one of the two sums lies between
        pub broken : a && b ≡ false → false ≡ lists_apart lows highs floor ceiling
        broken e = answer (unfold lists_apart in one_broken a b e
            (λ f. walk_broken low high (length lows) (length highs) (as_held floor) (as_held ceiling) i (j - 1) (omega (arith, s.p_few)) (omega (arith, s.j_few))
            (sym upper_clear ∙ f))
            (λ f. walk_broken low high (length lows) (length highs) (as_held floor) (as_held ceiling) (p - 1) q (omega (arith, s.p_few)) (omega (arith, s.j_few))
            (sym lower_clear ∙ f)))

        -- neither does: a member is passed at either corner
        pub passed : a && b ≡ true → {r o : ℕ} → r ≡ from_bool (le_z (as_held ceiling) (as_held (as_held (low i) +ℤ as_held (high (j - 1)))))
            → o ≡ from_bool (le_z (as_held ceiling) (as_held (as_held (low (p - 1)) +ℤ as_held (high q))))
            → Walk low high (length lows) (length highs) (as_held floor) (as_held ceiling) (i + (1 - r)) (j - r) (p - o) (q + (1 - o))
        passed e {r} {o} er eo =
            let tr = rw upper at (er ∙ byte_cond _) in
            let to = rw lower at (eo ∙ byte_cond _) in
            let first = upper_turn low high (length lows) (length highs) (as_held floor) (as_held ceiling) low_ok.rising high_ok.rising i j p q s
            (omega (arith, s.p_few)) (omega arith) (T_is _ (sym upper_clear ∙ and_left a b e)) r tr in
            lower_turn low high (length lows) (length highs) (as_held floor) (as_held ceiling) low_ok.rising high_ok.rising (i + (1 - r)) (j - r) p q first
            (omega arith) (omega (arith, s.j_few)) (T_is _ (sym lower_clear ∙ and_right a b e)) o to
