-- Internal: what the parts of the call promise, on two gates by their distinct feeds: needed by proofs only, no public call cites it. Nothing is
-- proved here.
use Rattle.std.specs.Prelude.{[], ◌∷◌, ℕ, ◌^◌}
use Rattle.basics.specs.Refusals.{◌else◌}
use Rattle.fold_theory.specs.Aligned.{agrees_on, clears_on, clears_all}
use Rattle.pair_theory.specs.Alignments.{aligned_in}
use Rattle.pair_theory.specs.declared.Alignment.{Alignment}
use Rattle.pair_witness.specs.declared.Unclear.{Unclear}
use Rattle.pair_witness.specs.declared.Unclear.TheVariants.{At, Nowhere}
use Rattle.fold_edges.specs.Codes.{first_failing}
use Rattle.fold_merge.specs.Codes.{setting_tests, merge_tests_on}
use Rattle.fold_witness.specs.declared.Witnessed.{Witnessed}
use Rattle.fold_witness.specs.Witness.{Shows}

-- none, with a number
unfoldable pub no_witness : ℕ → Witnessed
no_witness code = record { code = code; setting = 0 }

-- what a pass over the settings found, with 15 or 0
unfoldable pub as_witness : Unclear → Witnessed
as_witness (At s) = record { code = 15; setting = s }
as_witness Nowhere = no_witness 0

-- a setting of two gates on which the merged gate is not clear, with 15, or 0
abbrev pub FewestOn : Alignment → ℕ → ℕ → Witnessed → Type 0
FewestOn a k l w = Shows (first_failing ((clears_all (aligned_in a) k l else 15) ∷ [])) (2 ^ a.count) (clears_on (aligned_in a) k l) w

-- a witness of two gates, with 15 or 0
abbrev pub DiffersOn : Alignment → ℕ → ℕ → Witnessed → Type 0
DiffersOn a k l w = Shows (first_failing (setting_tests (aligned_in a) k l)) (2 ^ a.count) (agrees_on (aligned_in a) k l) w

-- with 14, 7, 6 and 24 before
abbrev pub WitnessOfAlignment : Alignment → ℕ → ℕ → Witnessed → Type 0
WitnessOfAlignment a k l w = Shows (first_failing (merge_tests_on a k l)) (2 ^ a.count) (agrees_on (aligned_in a) k l) w
