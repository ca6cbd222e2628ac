-- The tests of a list of frames, as the code makes them: the two lengths, and then frame by frame. Assumes nothing.
use Rattle.std.proofs.Common.{◌≡◌, Bool, true, false, ◌&&◌, List, [], ◌∷◌, ◌⊎◌, inl, inr, ℕ, ◌≤◌, ◌<◌, length, refl, ap, le-leb}
use Rattle.std.proofs.lemmas.Bool.{lt-leb}
use Rattle.std.specs.List.{list_all}
use Rattle.basics.specs.Lists.{all}
use Rattle.basics.specs.TestLaws.{both_true, and_false_left, and_false_right}
use Rattle.frame_batch.specs.Frames.{room_for}

-- ---- the two lengths
module _ (frames lent : List ℕ) where
  pub no_room : (64 < length frames) ⊎ ((length frames ≤ 64) × (length lent < length frames)) → room_for frames lent ≡ false
  unfolding room_for
  no_room (inl h) = and_false_left _ _ (lt-leb _ _ h)
  no_room (inr h) = and_false_right _ _ (lt-leb _ _ h.1)

  pub room_yes : length frames ≤ 64 → length frames ≤ length lent → room_for frames lent ≡ true
  unfolding room_for
  room_yes h k = both_true _ _ (le-leb _ _ h) (le-leb _ _ k)

-- ---- a test of each frame
pub all_is : (p : ℕ → Bool) (xs : List ℕ) → list_all p xs ≡ all p xs
unfolding all
all_is p [] = refl
all_is p (x ∷ xs) = ap (λ b. p x && b) (all_is p xs)
