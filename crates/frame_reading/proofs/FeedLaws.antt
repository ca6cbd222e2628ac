-- A loop over the feeds of a gate, from the signals and the weights at its places side by side: the feed of a turn, and how many there were.
use Rattle.std.proofs.Common.{◌≡◌, List, ℕ, ◌+◌, ◌≤◌, ◌<◌, ℤ, pos, length, get_or, ◌∙◌, arith, Some, None, Iter, Bor, Option}
use Rattle.std.proofs.lemmas.List.Edits.{length-between, get_or-between}
use Rattle.std.proofs.lemmas.Slice.Zip.{zip_turn, zip_end}
use Rattle.std.proofs.lemmas.Iterator.{zips}
use Rattle.std.proofs.iter.Yields.{fronts}
use Rattle.std.specs.Iterator.{Yields}
use Rattle.std.specs.Iterator.Adapters.{zip_first, zip_second}
use Rattle.std.specs.List.{between}
use Rattle.std.specs.Slice.Iter.{iter_rest}
use Rattle.std.specs.declared.iter.Zip.{Zip}

module _ (ss : List ℕ) (ws : List ℤ) (base count : ℕ) (xs : List (Bor ℕ × Bor ℤ)) (s t u : Zip (Iter ℕ) (Iter ℤ)) {r : Option (Bor ℕ × Bor ℤ)}
    (in_signals : base + count ≤ length ss) (in_weights : base + count ≤ length ws)
    (first : iter_rest (zip_first s) ≡ between base (base + count) ss) (second : iter_rest (zip_second s) ≡ between base (base + count) ws)
    (y : Yields (zips fronts fronts) s xs t) where
  pub feed_turn : {p : Bor ℕ × Bor ℤ} → r ≡ Some p → zips fronts fronts t r u
      → (length xs < count) × (p.0.now ≡ get_or ss (base + length xs) 0) × (p.1.now ≡ get_or ws (base + length xs) (pos 0))
  feed_turn {p} e z =
      let turn = zip_turn _ _ xs s t u r first second y p e z in
      let early : length xs < count = omega (arith, length-between ss base (base + count) in_signals) in (
        early,
        turn.2 0 ∙ get_or-between ss base (base + count) (length xs) 0 (omega arith),
        turn.3 (pos 0) ∙ get_or-between ws base (base + count) (length xs) (pos 0) (omega arith),
      )

  pub feed_end : r ≡ None → zips fronts fronts t r u → length xs ≡ count
  feed_end e z = omega (arith, zip_end _ _ xs s t u r first second y e z, length-between ss base (base + count) in_signals, length-between ws base (base + count) in_weights)
