-- What is claimed of the cut. Document 02, No. 12. Nothing is proved here.
use Rattle.std.specs.Prelude.{◌≡◌, false, [], ◌∷◌, ◌↔◌, ℕ, ◌+◌, ◌^◌, ◌<◌, T, length, get_or}
use Rattle.basics.specs.Refusals.{accepted}
use Rattle.network.specs.Threshold.{Net, frame, output_bits}
use Rattle.network.specs.Limits.{is_gate, sound}
use Rattle.network.specs.Changes.{gate_at}
use Rattle.cut_theory.specs.Cut.{InCut, renamed_gate, cut_by, cut_marks, named, cut}

-- "the gates of the cut keep their order with new signals", in other words than `cut_by` has: M's gates are those of the cut, each with its feeds'
-- new signals, and of two of them the one that was lower is lower; the inputs stay; d is the signal that the output names
pub record InOrder (N : Net) (d : ℕ) (M : Net) : Type 0 where
  pub new : ℕ → ℕ
  pub inputs_stay : (s : ℕ) → s < N.inputs → new s ≡ s
  pub rises : (s t : ℕ) → InCut N d s → InCut N d t → s < t → new s < new t
  pub moved : (s : ℕ) → InCut N d s → T (is_gate M (new s)) × (gate_at M (new s) ≡ renamed_gate new (gate_at N s))
  pub no_other : (t : ℕ) → T (is_gate M t) → (s : ℕ) × InCut N d s × (new s ≡ t)
  pub output_moved : M.outputs ≡ new d ∷ []

-- M, the cut of N's output j: the gates of N that belong to the cut, and no others, with new signals; M is sound, "All inputs, the margins and
-- the file version stay"; "It gives that output's bit on every frame, and every gate in it is needed by this rule"; and its own cut is itself
pub record CutOut (N : Net) (j : ℕ) (M : Net) : Type 0 where
  pub marked : (g : ℕ) → g < length N.gates → T (get_or (cut_marks N (named N j)) g false) ↔ InCut N (named N j) (N.inputs + g)
  pub network : M ≡ cut_by N (cut_marks N (named N j)) (named N j)
  pub keeps_order : InOrder N (named N j) M
  pub sound_after : T (sound M)
  pub same_board : M.board ≡ N.board
  pub same_inputs : M.inputs ≡ N.inputs
  pub same_bit : (n : ℕ) → n < 2 ^ N.inputs → output_bits M (frame n) ≡ get_or (output_bits N (frame n)) j false ∷ []
  pub all_needed : (s : ℕ) → T (is_gate M s) → InCut M (named M 0) s
  pub again : cut M 0 ≡ accepted M
