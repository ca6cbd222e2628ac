-- Merging, one after another. Assumes nothing.
use Rattle.std.specs.Prelude.{◌≡◌, refl, List, map, ℕ, ◌≤◌, ◌<◌}
use Rattle.std.proofs.Common.{ap, ◌∙◌}
use Rattle.compare_theory.specs.Joint.{Joint, Ready, OneBit}
use Rattle.compare_theory.specs.Wiring.{moved, moved_row, with_wires}
use Rattle.compare_theory.proofs.WiringLaws.{kept_same, kept_rewired, kept_then}
use Rattle.compare_merging.specs.Merging.{Merged}

-- nothing is merged
pub merged_same : {J : Joint} {outs : List ℕ} → Merged J outs J outs
merged_same {J} {outs} = record { kept = kept_same J outs; same = refl }

-- what reads q reads p instead
pub merged_rewired : {J : Joint} {outs : List ℕ} (p q : ℕ) → p ≤ q → p < 296 → OneBit J p q → {wires' : List (List ℕ)} {outs' : List ℕ}
    → wires' ≡ map (moved_row p q) J.wires → outs' ≡ map (moved p q) outs → Merged J outs (with_wires J wires') outs'
merged_rewired {J} {outs} p q b l h {wires'} {outs'} e k = record { kept = kept_rewired J outs p q b l h wires' outs' e k; same = refl }

-- a refutation can still run
pub merged_ready : {J K : Joint} {outs outs' : List ℕ} → Ready J → Merged J outs K outs' → Ready K
merged_ready r h = h.kept.ready r

pub merged_then : {J K L : Joint} {outs outs' outs'' : List ℕ} → Ready J → Merged J outs K outs' → Merged K outs' L outs'' → Merged J outs L outs''
merged_then {J} {K} {L} r h k = record {
  kept = kept_then r h.kept k.kept;
  same = k.same ∙ ap (λ (M : Joint). with_wires M L.wires) h.same;
}
