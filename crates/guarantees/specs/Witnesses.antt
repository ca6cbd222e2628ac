-- Document 02, No. 9: "with as few of them lit as any such setting has", counted signal by signal. Nothing is proved here.
use Rattle.std.specs.Prelude.{◌≡◌, false, ℕ, ◌^◌, ◌≤◌, ◌<◌, length}
use Rattle.network.specs.Record.{net_of}
use Rattle.fold_theory.specs.Merge.{edge, distinct, agrees_at}
use Rattle.fold_witness.specs.Witness.{lit}
use Rattle.fold_witness.specs.declared.Witnessed.{Witnessed}
use Rattle.journal.specs.declared.Record.{Record}
use Rattle.journal_calls.specs.Answers.{WitnessOn}

-- whatever answer with 15 meets the call's promise: of the distinct signals it lights no more than any setting on which the two differ
abbrev pub LightsFewest : Record → ℕ → ℕ → ℕ → ℕ → Witnessed → Type 0
LightsFewest r u v k l w = WitnessOn r u v k l w → w.code ≡ 15 → let e = edge (net_of r.network) u v in
    (other : ℕ) → other < 2 ^ length (distinct e) → agrees_at e k l other ≡ false → lit e w.setting ≤ lit e other
