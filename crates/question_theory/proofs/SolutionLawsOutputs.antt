-- The lines of the outputs hold exactly where each d that is 1 stands for an output with different bits, and the last line exactly where
-- some d is 1. Assumes nothing.
use Rattle.std.specs.Prelude.{◌≡◌, refl, Bool, true, false, cond, List, [], ◌∷◌, map, ◌≢◌, ◌↔◌, ℕ, zero, suc, ◌+◌, ◌<◌, T, ℤ, pos, negsuc, ◌+ℤ◌, length, get_or}
use Rattle.std.proofs.Common.{sym, ap, ◌∙◌, subst, true≢false, arith}
use Rattle.std.proofs.lemmas.Bool.{false≢true}
use Rattle.std.specs.Int.Signed.{le_z}
use Rattle.basics.specs.IntegerLaws.{#, nat, ◌⊕◌, le_of, of_le}
use Rattle.basics.specs.Lists.{range}
use Rattle.network.specs.Threshold.{Feed, Assignment, sum}
use Rattle.question_theory.specs.Question.{holds, Solves, term, some_line, not_both_line, output_lines, last_line}

-- ---- the two lines of an output
two_bits : (a b c : Bool)
    → (T (le_z (pos 0) (cond a (pos 1) (pos 0) +ℤ (cond b (pos 1) (pos 0) +ℤ (cond c (negsuc 0) (pos 0) +ℤ pos 0))))
    × T (le_z (negsuc 1) (cond a (negsuc 0) (pos 0) +ℤ (cond b (negsuc 0) (pos 0) +ℤ (cond c (negsuc 0) (pos 0) +ℤ pos 0))))) ↔ (T c → a ≢ b)
two_bits true true true = (λ h. absurd h.1, λ h. absurd (h tt refl))
two_bits true false true = (λ h t. true≢false, λ h. (tt, tt))
two_bits false true true = (λ h t. false≢true, λ h. (tt, tt))
two_bits false false true = (λ h. absurd h.0, λ h. absurd (h tt refl))
two_bits true true false = (λ h t. absurd t, λ h. (tt, tt))
two_bits true false false = (λ h t. absurd t, λ h. (tt, tt))
two_bits false true false = (λ h t. absurd t, λ h. (tt, tt))
two_bits false false false = (λ h t. absurd t, λ h. (tt, tt))

-- both hold exactly where p and q differ, if d is 1
output_apart : (ρ : Assignment) (p q d : ℕ) → (T (holds ρ (some_line p q d)) × T (holds ρ (not_both_line p q d))) ↔ (T (ρ d) → ρ p ≢ ρ q)
unfolding holds some_line not_both_line sum
output_apart ρ p q d = two_bits (ρ p) (ρ q) (ρ d)

-- ---- the lines of all outputs
pub outputs_apart : (ρ : Assignment) (ps qs : List ℕ) (d : ℕ) → length ps ≡ length qs
    → Solves ρ (output_lines ps qs d) ↔ ((j : ℕ) → j < length ps → T (ρ (d + j)) → get_or (map ρ ps) j false ≢ get_or (map ρ qs) j false)
unfolding output_lines
outputs_apart ρ [] [] d e = (λ h j k. absurd (omega arith), λ h. tt)
outputs_apart ρ [] (q ∷ qs) d e = absurd (omega arith)
outputs_apart ρ (p ∷ ps) [] d e = absurd (omega arith)
outputs_apart ρ (p ∷ ps) (q ∷ qs) d e =
    let own = output_apart ρ p q d in
    let rest = outputs_apart ρ ps qs (suc d) (omega arith) in (
      λ h. at (own.0 (h.0, h.1.0)) (rest.0 h.1.1),
      λ h. let o = own.1 (λ t. h 0 (omega arith) (subst (λ (v : ℕ). T (ρ v)) (let k : d ≡ d + 0 = omega arith in k) t)) in
          (o.0, (o.1, rest.1 λ j k t. h (suc j) (omega arith) (subst (λ (v : ℕ). T (ρ v)) (let i : suc d + j ≡ d + suc j = omega arith in i) t))),
    )
  where
    at : (T (ρ d) → ρ p ≢ ρ q) → ((j : ℕ) → j < length ps → T (ρ (suc d + j)) → get_or (map ρ ps) j false ≢ get_or (map ρ qs) j false)
        → (j : ℕ) → j < suc (length ps) → T (ρ (d + j)) → get_or (ρ p ∷ map ρ ps) j false ≢ get_or (ρ q ∷ map ρ qs) j false
    at own rest zero k t = own (subst (λ (v : ℕ). T (ρ v)) (let i : d + 0 ≡ d = omega arith in i) t)
    at own rest (suc j) k t = rest j (omega arith) (subst (λ (v : ℕ). T (ρ v)) (let i : d + suc j ≡ suc d + j = omega arith in i) t)

-- ---- the last line
-- +1 on each of the n variables from d on
ones : ℕ → ℕ → List Feed
ones d n = map (λ v. term v (pos 1)) (range d n)

ones_least : (ρ : Assignment) (d n : ℕ) → T (le_z (pos 0) (sum ρ (ones d n)))
unfolding sum range ones
ones_least ρ d zero = tt
ones_least ρ d (suc n) =
    let s = sum ρ (ones (suc d) n) in
    let h = le_of (nat 0) (# s) (ones_least ρ (suc d) n) in
    elim (ρ d) as (λ b. T (le_z (pos 0) (cond b (pos 1) (pos 0) +ℤ s)))
    [ true ↦ of_le (nat 0) (nat 1 ⊕ # s) (omega arith) | false ↦ of_le (nat 0) (nat 0 ⊕ # s) (omega arith) ]

ones_some : (ρ : Assignment) (d n : ℕ) → T (le_z (pos 1) (sum ρ (ones d n))) → (j : ℕ) × (j < n) × T (ρ (d + j))
unfolding sum range ones
ones_some ρ d zero h = absurd h
ones_some ρ d (suc n) h = go (ρ d) refl h (ones_some ρ (suc d) n)
  where
    s : ℤ
    s = sum ρ (ones (suc d) n)

    go : (b : Bool) → ρ d ≡ b → T (le_z (pos 1) (cond b (pos 1) (pos 0) +ℤ s)) → (T (le_z (pos 1) s) → (j : ℕ) × (j < n) × T (ρ (suc d + j)))
        → (j : ℕ) × (j < suc n) × T (ρ (d + j))
    go true e k r = (0, omega arith, subst T (sym (ap ρ (let i : d + 0 ≡ d = omega arith in i) ∙ e)) tt)
    go false e k r = let o = r (of_le (nat 1) (# s) (omega (arith, le_of (nat 1) (nat 0 ⊕ # s) k))) in
        (suc o.0, omega (arith, o.1), subst (λ (v : ℕ). T (ρ v)) (let i : suc d + o.0 ≡ d + suc o.0 = omega arith in i) o.2)

some_ones : (ρ : Assignment) (d n j : ℕ) → j < n → T (ρ (d + j)) → T (le_z (pos 1) (sum ρ (ones d n)))
unfolding sum range ones
some_ones ρ d zero j h t = absurd (omega arith)
some_ones ρ d (suc n) zero h t = go (ρ d) (subst (λ (v : ℕ). T (ρ v)) (let i : d + 0 ≡ d = omega arith in i) t)
  where
    s : ℤ
    s = sum ρ (ones (suc d) n)

    go : (b : Bool) → T b → T (le_z (pos 1) (cond b (pos 1) (pos 0) +ℤ s))
    go true t = of_le (nat 1) (nat 1 ⊕ # s) (omega (arith, le_of (nat 0) (# s) (ones_least ρ (suc d) n)))
    go false t = absurd t
some_ones ρ d (suc n) (suc j) h t =
    let i : d + suc j ≡ suc d + j = omega arith in
    go (ρ d) (some_ones ρ (suc d) n j (omega arith) (subst (λ (v : ℕ). T (ρ v)) i t))
  where
    s : ℤ
    s = sum ρ (ones (suc d) n)

    go : (b : Bool) → T (le_z (pos 1) s) → T (le_z (pos 1) (cond b (pos 1) (pos 0) +ℤ s))
    go true k = of_le (nat 1) (nat 1 ⊕ # s) (omega (arith, le_of (nat 1) (# s) k))
    go false k = of_le (nat 1) (nat 0 ⊕ # s) (omega (arith, le_of (nat 1) (# s) k))

-- it holds exactly where some d is 1
pub last_some : (ρ : Assignment) (d n : ℕ) → T (holds ρ (last_line d n)) ↔ ((j : ℕ) × (j < n) × T (ρ (d + j)))
unfolding holds last_line ones
last_some ρ d n = (ones_some ρ d n, λ o. some_ones ρ d n o.0 o.1 o.2)
