-- Every gate of the cut network belongs to the cut of its one output, in that network. Assumes nothing.
use Rattle.std.specs.Prelude.{◌≡◌, Bool, true, false, not, ◌&&◌, T, eqb, length, take}
use Rattle.std.proofs.Math.Path.{refl, ap, subst}
use Rattle.std.proofs.Common.{sym, ◌∙◌, arith, eqb→eq}
use mathlib.Core.List.{List, [], ◌∷◌, map}
use Prim.Native.Nat.{ℕ, zero, suc, ◌+◌, ◌-◌, ◌<◌}
use Rattle.std.proofs.Math.Dec.{eqb_refl}
use Rattle.std.proofs.Math.ListN.{get_or, length-map}
use Rattle.basics.specs.Lists.{all, other}
use Rattle.basics.specs.TableLaws.{get_d_map}
use Rattle.basics.specs.TestLaws.{is_true}
use Rattle.network.specs.Threshold.{Feed, Gate, Net}
use Rattle.network.specs.Limits.{signals_of}
use Rattle.network.specs.Record.{no_gate}
use Rattle.network.specs.Changes.{gate_at}
use Rattle.network.specs.Sound.{Has, Sound}
use Rattle.network.specs.LimitLaws.{of_has}
use Rattle.fold_theory.specs.Merge.{silent, reads}
use Rattle.cut_theory.specs.Cut.{start, next, InCut, picked, left_out, new_signal, renamed_feed, renamed_gate, cut_by, cut_marks, cut_net, named}
use Rattle.cut_theory.proofs.BelongLaws.{not_right, cut_belongs, belongs_exact}

-- ---- members and picked members

-- member i is picked, as member k: those left out stand between
record PickedAs {A : Type 0} (d : A) (ms : List Bool) (xs : List A) (i k : ℕ) : Type 0 where
  from : i < length xs
  to : k < length (picked ms xs)
  fall : i ≡ k + left_out (take i ms)
  same : get_or (picked ms xs) k d ≡ get_or xs i d

module _ {A : Type 0} (d : A) where
  moved_first : (ms : List Bool) (x : A) (xs : List A) → PickedAs d (true ∷ ms) (x ∷ xs) 0 0
  unfolding picked left_out
  moved_first ms x xs = record { from = omega arith; to = omega arith; fall = refl; same = refl }

  moved_kept : {ms : List Bool} {x : A} {xs : List A} {i k : ℕ} → PickedAs d ms xs i k → PickedAs d (true ∷ ms) (x ∷ xs) (suc i) (suc k)
  unfolding picked left_out
  moved_kept m = record { from = omega (arith, m.from); to = omega (arith, m.to); fall = omega (arith, m.fall); same = m.same }

  moved_past : {ms : List Bool} {x : A} {xs : List A} {i k : ℕ} → PickedAs d ms xs i k → PickedAs d (false ∷ ms) (x ∷ xs) (suc i) k
  unfolding picked left_out
  moved_past m = record { from = omega (arith, m.from); to = m.to; fall = omega (arith, m.fall); same = m.same }

  -- a marked member goes somewhere
  moved_to : (ms : List Bool) (xs : List A) (i : ℕ) → i < length xs → T (get_or ms i false) → (k : ℕ) × PickedAs d ms xs i k
  moved_to [] xs i h t = absurd t
  moved_to (m ∷ ms) [] i h t = absurd (omega arith)
  moved_to (true ∷ ms) (x ∷ xs) zero h t = (0, moved_first ms x xs)
  moved_to (true ∷ ms) (x ∷ xs) (suc i) h t = let r = moved_to ms xs i (omega arith) t in (suc r.0, moved_kept r.1)
  moved_to (false ∷ ms) (x ∷ xs) zero h t = absurd t
  moved_to (false ∷ ms) (x ∷ xs) (suc i) h t = let r = moved_to ms xs i (omega arith) t in (r.0, moved_past r.1)

  -- a picked member comes from somewhere
  moved_from : (ms : List Bool) (xs : List A) (k : ℕ) → k < length (picked ms xs) → (i : ℕ) × T (get_or ms i false) × PickedAs d ms xs i k
  unfolding picked
  moved_from [] xs k h = absurd (omega arith)
  moved_from (m ∷ ms) [] k h = absurd (omega arith)
  moved_from (true ∷ ms) (x ∷ xs) zero h = (0, tt, moved_first ms x xs)
  moved_from (true ∷ ms) (x ∷ xs) (suc k) h = let r = moved_from ms xs k (omega arith) in (suc r.0, r.1, moved_kept r.2)
  moved_from (false ∷ ms) (x ∷ xs) k h = let r = moved_from ms xs k h in (suc r.0, r.1, moved_past r.2)

-- its new signal
moved_signal : {ms : List Bool} {gs : List Gate} {i k : ℕ} (n : ℕ) → PickedAs no_gate ms gs i k → new_signal n ms (n + i) ≡ n + k
unfolding new_signal
moved_signal {ms} {gs} {i} {k} n m =
    let e : n + i - n ≡ i = omega arith in
    rw e (omega (arith, m.fall))

-- ---- a gate with new signals reads what it read, by the new signal
renamed_has : (f : ℕ → ℕ) (s : ℕ) (fs : List Feed) → T (not (all (other s) (signals_of fs))) → T (not (all (other (f s)) (signals_of (map (renamed_feed f) fs))))
unfolding all other signals_of renamed_feed
renamed_has f s [] t = absurd t
renamed_has f s (x ∷ fs) t = elim (eqb x.signal s) as
    (λ b. (T b → x.signal ≡ s) → T (not (not b && all (other s) (signals_of fs)))
    → T (not (not (eqb (f x.signal) (f s)) && all (other (f s)) (signals_of (map (renamed_feed f) fs))))) [
      | true ↦ λ e t. rw (is_true (eqb (f x.signal) (f s)) (subst (λ (y : ℕ). T (eqb (f x.signal) (f y))) (e tt) (eqb_refl (f x.signal)))) tt
      | false ↦ λ e t. not_right (not (eqb (f x.signal) (f s))) (all (other (f s)) (signals_of (map (renamed_feed f) fs))) (renamed_has f s fs t)
    ] (eqb→eq x.signal s) t

renamed_reads : (f : ℕ → ℕ) (s : ℕ) (g : Gate) → T (reads s g) → T (reads (f s) (renamed_gate f g))
unfolding reads silent renamed_gate
renamed_reads f s g t = renamed_has f s g.feeds t

-- ---- from the cut to the cut network
module _ (N : Net) (d : ℕ) (o : Sound N) (gate : Has N d) where
  abbrev M : Net
  M = cut_net N d

  abbrev ms : List Bool
  ms = cut_marks N d

  abbrev f : ℕ → ℕ
  f = new_signal N.inputs (cut_marks N d)

  -- where a gate of the cut stands in the cut network
  place : (s : ℕ) → InCut N d s → (k : ℕ) × PickedAs no_gate ms N.gates (s - N.inputs) k
  unfolding cut_marks
  place s p = let b = cut_belongs N d o gate s p in moved_to no_gate ms N.gates (s - N.inputs) (omega (arith, b.0)) b.1

  new_place : (s : ℕ) (p : InCut N d s) → f s ≡ N.inputs + (place s p).0
  new_place s p =
      let b = (cut_belongs N d o gate s p).0 in
      ap f (let e : s ≡ N.inputs + (s - N.inputs) = omega (arith, b) in e) ∙ moved_signal N.inputs (place s p).1

  new_has : (s : ℕ) → InCut N d s → Has M (f s)
  unfolding cut_net cut_by
  new_has s p =
      let e = new_place s p in
      let k = (place s p).1.to in
      omega (arith, e, k, length-map (picked ms N.gates) (renamed_gate f))

  new_gate : (v : ℕ) → InCut N d v → gate_at M (f v) ≡ renamed_gate f (gate_at N v)
  unfolding cut_net cut_by gate_at
  new_gate v p =
      let m = place v p in
      let to = m.1.to in
      let e = new_place v p in
      ap (λ (k : ℕ). get_or (map (renamed_gate f) (picked ms N.gates)) k no_gate) (let q : f v - N.inputs ≡ m.0 = omega (arith, e) in q)
      ∙ get_d_map (renamed_gate f) (picked ms N.gates) m.0 no_gate no_gate to
      ∙ ap (renamed_gate f) m.1.same

  new_cut : (s : ℕ) → InCut N d s → InCut M (f d) (f s)
  new_cut s (start e) = start (ap f e)
  new_cut s (next {v} p b) = next (new_cut v p) (record {
    read = subst (λ (x : Gate). T (reads (f s) x)) (sym (new_gate v p)) (renamed_reads f s (gate_at N v) b.read);
    gate = of_has M (f s) (new_has s (next p b));
  })

  -- "every gate in it is needed by this rule"
  pub cut_needed : (s : ℕ) → Has (cut_net N d) s → InCut (cut_net N d) (named (cut_net N d) 0) s
  unfolding cut_net cut_by named
  cut_needed s h =
      let l = length-map (picked ms N.gates) (renamed_gate f) in
      let r = moved_from no_gate ms N.gates (s - N.inputs) (omega (arith, h, l)) in
      let back = (belongs_exact N d o gate r.0 r.2.from).0 r.1 in
      let e : N.inputs + (s - N.inputs) ≡ s = omega (arith, h) in
      subst (InCut M (f d)) (moved_signal N.inputs r.2 ∙ e) (new_cut (N.inputs + r.0) back)
