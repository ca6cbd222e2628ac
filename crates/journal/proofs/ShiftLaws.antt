-- Laws of lists moved by some places, at any type of values. Assumes nothing.
use Rattle.std.specs.Prelude.{◌≡◌, List, ◌++◌, ℕ, ◌+◌, ◌-◌, ◌≤◌, ◌<◌, length, get_or, take, drop, replicate}
use Rattle.std.proofs.Common.{sym, ap, ◌∙◌, arith, length-drop, length-append, length-take-le, get_or-take, get_or-drop, get_or-append-add}
use Rattle.std.proofs.Math.Decide.{dec_lt}
use Rattle.std.proofs.lemmas.List.{length-replicate, get_or-replicate}
use Rattle.std.proofs.Math.ListN.{get_or-append, get_or-eq_default}
use Rattle.basics.specs.Lists.{tab}
use Rattle.basics.specs.ListLaws.{length_tab, get_or_tab, tab_of, tab_same}
use Rattle.basics.specs.TableLaws.{tab_any}

module _ {A : Type 0} (d : A) where
  -- the first members of a list, as a table
  tab_take : (n : ℕ) (zs : List A) → n ≤ length zs → tab n (λ p. get_or zs p d) ≡ take n zs
  tab_take n zs h = tab_of d n (λ p. get_or zs p d) (take n zs) (sym (length-take-le n zs h)) λ i k.
      sym (get_or-take n zs i d (omega (arith, length-take-le n zs h)))

  -- a member of two lists joined
  pub join_low : (xs ys : List A) (p : ℕ) → p < length xs → get_or (xs ++ ys) p d ≡ get_or xs p d
  join_low xs ys p h = get_or-append xs ys d p h

  pub join_high : (xs ys : List A) (p : ℕ) → length xs ≤ p → get_or (xs ++ ys) p d ≡ get_or ys (p - length xs) d
  join_high xs ys p h = ap (λ (q : ℕ). get_or (xs ++ ys) q d) (let e : p ≡ length xs + (p - length xs) = omega arith in e)
      ∙ get_or-append-add xs ys (p - length xs) d

  -- the later members, and d in the places of the others
  pub drop_at : (gap : ℕ) (xs : List A) (p : ℕ) → p < length xs → get_or (drop gap xs ++ replicate gap d) p d ≡ get_or xs (p + gap) d
  drop_at gap xs p h = elim (dec_lt p (length (drop gap xs))) as (λ t. get_or (drop gap xs ++ replicate gap d) p d ≡ get_or xs (p + gap) d) [
    | yes k ↦ join_low (drop gap xs) (replicate gap d) p k ∙ get_or-drop gap xs p d ∙ ap (λ (q : ℕ). get_or xs q d) (omega arith)
    | no k ↦ join_high (drop gap xs) (replicate gap d) p (omega arith)
        ∙ get_or-replicate gap (p - length (drop gap xs)) d d (omega (arith, length-drop gap xs))
        ∙ sym (get_or-eq_default xs d {n = p + gap} (omega (arith, length-drop gap xs)))
  ]

  pub tab_drop : (n gap : ℕ) (xs : List A) → n ≡ length xs → gap ≤ n → tab n (λ p. get_or xs (p + gap) d) ≡ drop gap xs ++ replicate gap d
  tab_drop n gap xs e h =
      let long : length (drop gap xs ++ replicate gap d) ≡ length xs =
      length-append (drop gap xs) (replicate gap d) ∙ omega (arith, length-drop gap xs, length-replicate gap d) in
      tab_of d n (λ p. get_or xs (p + gap) d) (drop gap xs ++ replicate gap d) (e ∙ sym long) λ i k. sym (drop_at gap xs i (omega (arith, long)))

  -- a table with values put before it
  pub tab_before : (n gap : ℕ) (front : List A) (f g : ℕ → A) → length front ≡ gap → ((p : ℕ) → p < gap → get_or front p d ≡ g p)
      → ((p : ℕ) → f p ≡ g (p + gap)) → take n (front ++ tab n f) ≡ tab n g
  tab_before n gap front f g e first later =
      sym (tab_take n (front ++ tab n f) (omega (arith, length-append front (tab n f), length_tab n f)))
      ∙ tab_same n (λ p. get_or (front ++ tab n f) p d) g λ p h. elim (dec_lt p gap) as (λ t. get_or (front ++ tab n f) p d ≡ g p) [
        | yes k ↦ join_low front (tab n f) p (omega arith) ∙ first p k
        | no k ↦
            let back : p - length front + gap ≡ p = omega arith in
            join_high front (tab n f) p (omega arith) ∙ get_or_tab d n f (p - length front) (omega arith) ∙ later (p - length front) ∙ ap g back
      ]

  -- a table without its first values; past its end its rule gives d
  pub tab_after : (n gap : ℕ) (f g : ℕ → A) → gap ≤ n → ((p : ℕ) → n ≤ p → f p ≡ d) → ((p : ℕ) → f (p + gap) ≡ g p)
      → drop gap (tab n f) ++ replicate gap d ≡ tab n g
  tab_after n gap f g h spare later = sym (tab_drop n gap (tab n f) (sym (length_tab n f)) h)
      ∙ tab_same n (λ p. get_or (tab n f) (p + gap) d) g λ p k. tab_any d n f (p + gap) (spare (p + gap)) ∙ later p
