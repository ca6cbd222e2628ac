-- Internal: the tests of a merge after those of the record and of the edge. Nothing is proved here.
use Rattle.std.specs.Prelude.{◌≡◌, ◌&&◌, List, [], ◌∷◌, ◌++◌, ℕ, leb, Result, Ok, Err}
use Rattle.basics.specs.Refusals.{Test, ◌else◌, accepted, refused}
use Rattle.network.specs.Limits.{scale_ok, keeps}
use Rattle.network.specs.Changes.{with_gate}
use Rattle.network.specs.Record.{net_of, gate_in, gate_record}
use Rattle.fold_theory.specs.Merge.{Edge, merge, merged, agrees, merge_keeps, on_dial, narrow}
use Rattle.fold_theory.specs.Aligned.{Aligned, agrees_all, scale_fits}
use Rattle.pair_theory.specs.Alignments.{aligned_in, merged_of}
use Rattle.pair_theory.specs.declared.Alignment.{Alignment}
use Rattle.network.specs.Places.{SoundGate}
use Rattle.network.specs.declared.GateRecord.{GateRecord}
use Rattle.network.specs.declared.Network.{Network}
use Rattle.refusals.specs.Numbers.{number_of}
use Rattle.refusals.specs.declared.Refusal.{Refusal}

-- u is merged into v with k and l by putting the gate in the place of v
pub record MergesTo (r : Network) (u v k l : ℕ) (gate : GateRecord) : Type 0 where
  pub accepts : merge (net_of r) u v k l ≡ accepted (with_gate (net_of r) v (gate_in gate))
  pub own : SoundGate r v
  pub packed : gate ≡ gate_record (gate_in gate)

-- m is the gate with which u is merged into v, or the merge's refusal
pub record TriedMerge (r : Network) (u v k l : ℕ) (m : Result GateRecord Refusal) : Type 0 where
  pub refuses : (e : Refusal) → m ≡ Err e → merge (net_of r) u v k l ≡ refused (number_of e)
  pub merges : (gate : GateRecord) → m ≡ Ok gate → MergesTo r u v k l gate

-- 14, 7, 6, 24 and 15: what is tested of the two gates and of k and l
unfoldable pub merge_tests : Edge → ℕ → ℕ → List Test
merge_tests e k l =
    (on_dial k && on_dial l else 14) ∷ (narrow e else 7) ∷ (scale_ok (merged e k l) else 6) ∷ (merge_keeps e k l else 24) ∷ (agrees e k l else 15) ∷ []

-- ---- of two gates by their distinct feeds

-- 14, 7, 6 and 24: what is tested before the settings
unfoldable pub limit_tests_on : Alignment → ℕ → ℕ → List Test
limit_tests_on a k l =
    (on_dial k && on_dial l else 14) ∷ (leb a.count 16 else 7) ∷ (scale_fits (aligned_in a) k l else 6)
    ∷ (keeps a.thresholds.board (merged_of a k l) else 24) ∷ []

-- 15: on every setting
unfoldable pub setting_tests : Aligned → ℕ → ℕ → List Test
setting_tests a k l = (agrees_all a k l else 15) ∷ []

-- 14, 7, 6, 24 and 15
unfoldable pub merge_tests_on : Alignment → ℕ → ℕ → List Test
merge_tests_on a k l = limit_tests_on a k l ++ setting_tests (aligned_in a) k l
