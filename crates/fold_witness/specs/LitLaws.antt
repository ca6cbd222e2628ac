-- The ones of a setting are the distinct feeds that it lights: so the fewest ones are the fewest lit. Assumes nothing.
use Rattle.std.specs.Prelude.{◌≡◌, refl, true, false, cond, List, [], ◌∷◌, ℕ, suc, ◌/◌, ◌%◌, ◌^◌, ◌≤◌, ◌<◌, eqb, length}
use Rattle.std.proofs.Common.{◌∙◌, arith, eqb-true}
use Rattle.std.proofs.Math.Nat.{two-pow-succ}
use Rattle.std.proofs.lemmas.Bool.{eqb-false}
use Rattle.std.specs.Int.Count.{ones, ones_step}
use Rattle.std.proofs.lemmas.Nat.{ones-le}
use Rattle.std.proofs.Math.Dec.{eqb_refl}
use Rattle.basics.specs.Lists.{keep}
use Rattle.basics.specs.TestLaws.{is_true, eqb_no}
use Rattle.network.specs.Threshold.{Assignment}
use Rattle.network.specs.Sound.{Rise}
use Rattle.fold_theory.specs.Merge.{Edge, distinct, setting, agrees_at}
use Rattle.fold_theory.proofs.AlignedLaws.{EdgeOk, distinct_rise}
use Rattle.pair_witness.specs.Fewest.{Fewest}
use Rattle.fold_witness.specs.Witness.{lit}

-- on a setting of a rising list of signals
lit_setting : (ρ : Assignment) (low own : ℕ) (ds : List ℕ) (s : ℕ) → Rise low own ds → ((x : ℕ) → low ≤ x → ρ x ≡ setting ds s x)
    → s < 2 ^ length ds → length (keep ρ ds) ≡ ones s
unfolding keep setting
lit_setting ρ low own [] s h e l = omega (arith, ones-le 0 s l)
lit_setting ρ low own (y ∷ ys) s h e l =
    let above : (x : ℕ) → suc y ≤ x → ρ x ≡ setting ys (s / 2) x =
    λ x g. e x (omega (arith, g, h.0)) ∙ rw (eqb_no x y (λ (q : x ≡ y). absurd (omega (arith, g, q)))) in
    let rest = lit_setting ρ (suc y) own ys (s / 2) h.2 above (omega (arith, l, two-pow-succ (length ys))) in
    rw (e y h.0, is_true (eqb y y) (eqb_refl y)) (
    elim (eqb (s % 2) 1) as (λ b. eqb (s % 2) 1 ≡ b → length (cond b (y ∷ keep ρ ys) (keep ρ ys)) ≡ ones s) [
      | true ↦ λ q. omega (arith, rest, eqb-true (s % 2) 1 q, ones_step s)
      | false ↦ λ q. let f : s % 2 ≡ 0 = omega (arith, eqb-false (s % 2) 1 q) in omega (arith, rest, f, ones_step s)
    ] refl)

module _ (e : Edge) (ok : EdgeOk e) where
  lit_ones : (s : ℕ) → s < 2 ^ length (distinct e) → lit e s ≡ ones s
  unfolding lit
  lit_ones s l = lit_setting (setting (distinct e) s) 0 e.v (distinct e) s (distinct_rise e ok) (λ x g. refl) l

  -- "with as few of them lit as any such setting has"
  pub fewest_lit : (k l s : ℕ) → Fewest (2 ^ length (distinct e)) (agrees_at e k l) s
      → (t : ℕ) → t < 2 ^ length (distinct e) → agrees_at e k l t ≡ false → lit e s ≤ lit e t
  fewest_lit k l s f t h d = omega (arith, lit_ones s f.inside, lit_ones t h, f.fewest t h d)
