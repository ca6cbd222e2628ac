-- The newest step of a journal, as the code takes it out. Assumes nothing.
use Rattle.std.specs.Prelude.{◌≡◌, cond, eqb, length}
use Rattle.std.proofs.Common.{sym, ◌∙◌, arith, eq-eqb, ne_eqb}
use Rattle.std.proofs.Math.Path.{ap, subst}
use Rattle.std.proofs.Math.Bool.{true, false}
use Prim.Native.Nat.{ℕ, ◌≤◌, ◌<◌}
use Rattle.std.proofs.Math.ListN.{get_or}
use Rattle.network.specs.Threshold.{Gate, Net}
use Rattle.network.specs.Record.{gate_in, gate_record, row_at}
use Rattle.network.specs.PlaceLaws.{length_gate_in, gate_in_gate_record, gate_record_again}
use Rattle.network.specs.declared.GateRecord.{GateRecord}
use Rattle.call_theory.specs.Steps.{merging, dropping, old_gate, undoable}
use Rattle.journal.specs.Journals.{step_of, row_of, step_at}
use Rattle.journal.specs.declared.Journal.{Journal}
use Rattle.call_restoring.specs.TakenBack.{GateRecordOk}
use Rattle.call_restoring.specs.BackLaws.{too_wide}

-- a packed gate has at most 16 feeds
pub packed_few : (gate : GateRecord) → GateRecordOk gate → length (gate_in gate).feeds ≤ 16
packed_few gate p = omega (arith, p.few, length_gate_in gate)

module _ (j : Journal) where
  -- ---- its kind
  pub newest_merge : get_or j.kinds 0 0 ≡ 0 → step_at j 0 ≡ merging (get_or j.signals 0 0) (gate_in (row_of j 0))
  unfolding step_at step_of
  newest_merge e = rw (eq-eqb (get_or j.kinds 0 0) 0 e)

  pub newest_drop : (get_or j.kinds 0 0 ≡ 0 → ⊥) → step_at j 0 ≡ dropping (get_or j.signals 0 0) (gate_in (row_of j 0))
  unfolding step_at step_of
  newest_drop e = rw (ne_eqb (get_or j.kinds 0 0) 0 e)

  -- ---- its gate
  pub newest_wide : (N : Net) → 16 < get_or j.fanins 0 0 → undoable N (step_at j 0) ≡ false
  unfolding step_at step_of old_gate row_at
  newest_wide N h =
      let g : Gate = gate_in (row_of j 0) in
      let s : ℕ = get_or j.signals 0 0 in
      elim (eqb (get_or j.kinds 0 0) 0) as (λ b. undoable N (cond b (merging s g) (dropping s g)) ≡ false) [
        | true ↦ too_wide N (merging s g) (omega (arith, length_gate_in (row_of j 0)))
        | false ↦ too_wide N (dropping s g) (omega (arith, length_gate_in (row_of j 0)))
      ]

  module _ (few : get_or j.fanins 0 0 ≤ 16) (gate : GateRecord) (e : gate ≡ gate_record (gate_in (row_of j 0))) where
    pub newest_gate : gate_in gate ≡ gate_in (row_of j 0)
    unfolding row_at
    newest_gate = ap gate_in e ∙ gate_in_gate_record (gate_in (row_of j 0)) (omega (arith, length_gate_in (row_of j 0)))

    pub newest_packed : GateRecordOk gate
    unfolding gate_record row_at
    newest_packed = subst GateRecordOk (sym e) (record {
      row = gate_record_again (gate_in (row_of j 0)) (omega (arith, length_gate_in (row_of j 0)));
      few = omega (arith, length_gate_in (row_of j 0));
    })
