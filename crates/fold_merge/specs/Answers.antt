-- What a merge on a record answers. A call on a record tests the record first (20); then it is the call of document 01 on the
-- network that the record stands for. "A refusal hands the record back unchanged, with 0 for every other number." Nothing is proved here.
use Rattle.std.specs.Prelude.{[], ◌∷◌, ℕ}
use Rattle.basics.specs.Refusals.{Answer, ◌else◌, checks, code_of}
use Rattle.network.specs.Threshold.{Net}
use Rattle.network.specs.Record.{net_of, sound_record}
use Rattle.network.specs.declared.Network.{Network}
use Rattle.fold_theory.specs.Merge.{merge}

-- a call on the network of a record that is sound
unfoldable pub on_record : {A : Type 0} → Network → (Net → Answer A) → Answer A
on_record r call = checks ((sound_record r else 20) ∷ []) (call (net_of r))

-- the merge's own number: 0 or the refusal
unfoldable pub merge_code : Network → ℕ → ℕ → ℕ → ℕ → ℕ
merge_code r u v k l = code_of (on_record r (λ N. merge N u v k l))
