-- The fewest lit patches that show it: what a witness of a merge is, and what the call promises. Document 02, No. 9. Nothing is proved
-- here.
use Rattle.std.specs.Prelude.{◌≡◌, Bool, ℕ, ◌^◌, length}
use Rattle.basics.specs.Lists.{keep}
use Rattle.network.specs.Record.{net_of}
use Rattle.network.specs.declared.Network.{Network}
use Rattle.fold_theory.specs.Merge.{Edge, edge, distinct, setting, agrees_at}
use Rattle.pair_witness.specs.Fewest.{Fewest}
use Rattle.fold_merge.specs.Answers.{merge_code}
use Rattle.fold_witness.specs.declared.Witnessed.{Witnessed}

-- an answer with this number, and a setting where it is 15; "for other merges the answer is none": 0 in its place
pub record Shows (number n : ℕ) (agree : ℕ → Bool) (w : Witnessed) : Type 0 where
  pub number_is : w.code ≡ number
  pub shown : w.code ≡ 15 → Fewest n agree w.setting
  pub none : (w.code ≡ 15 → ⊥) → w.setting ≡ 0

-- a witness of the merge of u into v with k and l, "with the merge's own number"
abbrev pub WitnessOf : Network → ℕ → ℕ → ℕ → ℕ → Witnessed → Type 0
WitnessOf r u v k l w =
    Shows (merge_code r u v k l) (2 ^ length (distinct (edge (net_of r) u v))) (agrees_at (edge (net_of r) u v) k l) w

-- "as few of them lit": the distinct signals that are 1 on setting s, counted signal by signal
unfoldable pub lit : Edge → ℕ → ℕ
lit e s = length (keep (setting (distinct e) s) (distinct e))
