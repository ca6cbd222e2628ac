-- The gates of the cut keep their order. Assumes nothing.
use Rattle.std.specs.Prelude.{◌≡◌, refl, Bool, true, false, List, [], ◌∷◌, map, ℕ, zero, suc, ◌+◌, ◌-◌, ◌≤◌, ◌<◌, T, length, take}
use Rattle.std.proofs.Math.Path.{sym, ap}
use Rattle.std.proofs.Common.{◌∙◌, subst}
use native.Mathlib.Omega.{arith}
use Rattle.std.proofs.Math.ListN.{get_or, length-map}
use Rattle.basics.specs.TableLaws.{get_d_map}
use Rattle.basics.specs.TestLaws.{is_true, T_is}
use Rattle.network.specs.Threshold.{Gate, Net}
use Rattle.network.specs.Limits.{is_gate}
use Rattle.network.specs.Changes.{gate_at}
use Rattle.network.specs.Record.{no_gate}
use Rattle.network.specs.Sound.{Has, Sound}
use Rattle.network.specs.LimitLaws.{has_of, of_has}
use Rattle.cut_theory.specs.Cut.{InCut, picked, left_out, new_signal, renamed_gate, cut_marks, cut_net, cut_by}
use Rattle.cut_theory.specs.Claims.{InOrder}
use Rattle.cut_theory.proofs.BelongLaws.{cut_belongs, belongs_exact}
use Rattle.cut_theory.proofs.CopyLaws.{left_most, new_kept, new_gone}
use Rattle.cut_theory.proofs.RemoveLaws.{long_marks}

-- ---- where a member that is marked goes: down by those before it that are left out
record PickedAt {A : Type 0} (d : A) (ms : List Bool) (xs : List A) (g : ℕ) : Type 0 where
  inside : g - left_out (take g ms) < length (picked ms xs)
  same : get_or (picked ms xs) (g - left_out (take g ms)) d ≡ get_or xs g d

picked_at : {A : Type 0} (d : A) (ms : List Bool) (xs : List A) (g : ℕ) → g < length xs → get_or ms g false ≡ true → PickedAt d ms xs g
unfolding picked left_out
picked_at d [] xs g h e = let x : ◌≡◌ {A = ℕ} 0 1 = cc in absurd (omega arith)
picked_at d (m ∷ ms) [] g h e = absurd (omega arith)
picked_at d (true ∷ ms) (x ∷ xs) zero h e = record { inside = omega arith; same = refl }
picked_at d (false ∷ ms) (x ∷ xs) zero h e = let y : ◌≡◌ {A = ℕ} 0 1 = cc in absurd (omega arith)
picked_at d (true ∷ ms) (x ∷ xs) (suc g) h e =
    let r = picked_at d ms xs g (omega arith) e in
    let l = left_most g ms in
    let z : suc g - left_out (take g ms) ≡ suc (g - left_out (take g ms)) = omega arith in
    record { inside = omega (arith, r.inside); same = ap (λ (i : ℕ). get_or (x ∷ picked ms xs) i d) z ∙ r.same }
picked_at d (false ∷ ms) (x ∷ xs) (suc g) h e =
    let r = picked_at d ms xs g (omega arith) e in
    let z : suc g - suc (left_out (take g ms)) ≡ g - left_out (take g ms) = omega arith in
    record { inside = omega (arith, r.inside); same = ap (λ (i : ℕ). get_or (picked ms xs) i d) z ∙ r.same }

-- and where a member that is picked comes from
record PickedFrom (ms : List Bool) (n p : ℕ) : Type 0 where
  place : ℕ
  within : place < n
  marked : get_or ms place false ≡ true
  moved : place - left_out (take place ms) ≡ p

picked_from : {A : Type 0} (ms : List Bool) (xs : List A) (p : ℕ) → p < length (picked ms xs) → PickedFrom ms (length xs) p
unfolding picked left_out
picked_from [] xs p h = absurd (omega arith)
picked_from (m ∷ ms) [] p h = absurd (omega arith)
picked_from (true ∷ ms) (x ∷ xs) zero h = record { place = 0; within = omega arith; marked = refl; moved = refl }
picked_from (true ∷ ms) (x ∷ xs) (suc p) h =
    let r = picked_from ms xs p (omega arith) in
    let l = left_most r.place ms in
    record { place = suc r.place; within = omega (arith, r.within); marked = r.marked; moved = omega (arith, r.moved) }
picked_from (false ∷ ms) (x ∷ xs) p h =
    let r = picked_from ms xs p h in
    record { place = suc r.place; within = omega (arith, r.within); marked = r.marked; moved = omega (arith, r.moved) }

-- ---- new signals never fall
new_step : (n : ℕ) (ms : List Bool) (s : ℕ) → n ≤ s → s - n < length ms → new_signal n ms s ≤ new_signal n ms (s + 1)
new_step n ms s h k = by_mark (get_or ms (s - n) false) refl
  where
    by_mark : (b : Bool) → get_or ms (s - n) false ≡ b → new_signal n ms s ≤ new_signal n ms (s + 1)
    by_mark true e = let r = new_kept n ms s h e in omega arith
    by_mark false e = let r = new_gone n ms s h k e in omega arith

new_steps : (n : ℕ) (ms : List Bool) (s k : ℕ) → n ≤ s → s + k - n ≤ length ms → new_signal n ms s ≤ new_signal n ms (s + k)
new_steps n ms s zero h l = let e : s ≡ s + 0 = omega arith in subst (λ (x : ℕ). new_signal n ms s ≤ new_signal n ms x) e (omega arith)
new_steps n ms s (suc k) h l =
    let a = new_steps n ms s k h (omega arith) in
    let b = new_step n ms (s + k) (omega arith) (omega arith) in
    let e : s + k + 1 ≡ s + suc k = omega arith in
    subst (λ (x : ℕ). new_signal n ms s ≤ new_signal n ms x) e (omega arith)

-- ---- the cut
module _ (N : Net) (d : ℕ) (o : Sound N) (h : Has N d) where
  abbrev I : ℕ
  I = N.inputs

  abbrev ms : List Bool
  ms = cut_marks N d

  abbrev new : ℕ → ℕ
  new = new_signal I ms

  -- a gate of the cut is marked
  marked : (s : ℕ) → InCut N d s → Has N s × (get_or ms (s - I) false ≡ true)
  unfolding cut_marks
  marked s c = let b = cut_belongs N d o h s c in (b.0, is_true (get_or (cut_marks N d) (s - I) false) b.1)

  rises : (s t : ℕ) → InCut N d s → InCut N d t → s < t → new s < new t
  rises s t a b l =
      let p = marked s a in
      let q = marked t b in
      let long = long_marks N d o h in
      let up = new_kept I ms s p.0.0 p.1 in
      let on = new_steps I ms (s + 1) (t - (s + 1)) (omega (arith, p.0)) (omega (arith, p.0, q.0, long)) in
      let e : s + 1 + (t - (s + 1)) ≡ t = omega arith in
      let r = subst (λ (x : ℕ). new (s + 1) ≤ new x) e on in
      omega (arith, up, r)

  -- the new signal of a gate is its place among the gates that are picked
  new_place : (g : ℕ) → new (I + g) ≡ I + (g - left_out (take g ms))
  unfolding new_signal
  new_place g =
      let e : I + g - I ≡ g = omega arith in
      let l = left_most g ms in
      rw e (omega (arith, l))

  moved : (s : ℕ) → InCut N d s → T (is_gate (cut_net N d) (new s)) × (gate_at (cut_net N d) (new s) ≡ renamed_gate new (gate_at N s))
  unfolding cut_net cut_by gate_at
  moved s c =
      let p = marked s c in
      let g = s - I in
      let e : I + g ≡ s = omega (arith, p.0) in
      let at = picked_at no_gate ms N.gates g (omega (arith, p.0)) p.1 in
      let z : new s ≡ I + (g - left_out (take g ms)) = sym (ap new e) ∙ new_place g in
      let y : new s - I ≡ g - left_out (take g ms) = omega (arith, z) in
      let long = length-map (picked ms N.gates) (renamed_gate new) in (
        of_has (cut_net N d) (new s) (omega (arith, z, at.inside, long)),
        ap (λ (i : ℕ). get_or (map (renamed_gate new) (picked ms N.gates)) i no_gate) y
            ∙ get_d_map (renamed_gate new) (picked ms N.gates) (g - left_out (take g ms)) no_gate no_gate at.inside
            ∙ ap (renamed_gate new) at.same,
      )

  no_other : (t : ℕ) → T (is_gate (cut_net N d) t) → (s : ℕ) × InCut N d s × (new s ≡ t)
  unfolding cut_net cut_by
  no_other t k =
      let has = has_of (cut_net N d) t k in
      let long = length-map (picked ms N.gates) (renamed_gate new) in
      let from = picked_from ms N.gates (t - I) (omega (arith, has, long)) in
      let g = from.place in (
        I + g,
        (belongs_exact N d o h g from.within).0 (T_is (get_or (cut_marks N d) g false) from.marked),
        new_place g ∙ (let e : I + (g - left_out (take g ms)) ≡ t = omega (arith, has, from.moved) in e),
      )

  pub in_order : InOrder N d (cut_net N d)
  unfolding new_signal cut_net cut_by left_out
  in_order = record {
    new = new;
    inputs_stay = λ s l. omega (arith, left_most (s - I) ms);
    rises = rises;
    moved = moved;
    no_other = no_other;
    output_moved = refl;
  }
