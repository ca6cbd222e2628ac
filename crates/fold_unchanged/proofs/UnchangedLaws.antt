-- What a collapse of u leaves: a gate that does not read u is as it was, but for the signals that fall by one. So a gate that one of its
-- readers refuses is still refused by it where neither of the two reads u. Assumes nothing.
use Rattle.std.specs.Prelude.{◌≡◌, refl, List, [], ◌∷◌, ◌≢◌, ℕ, zero, suc, ◌-◌, ◌≤◌, T, get_or}
use Rattle.std.proofs.Common.{sym, ◌∙◌, arith}
use Rattle.std.proofs.Math.Path.{ap, subst}
use Rattle.std.proofs.Math.Decide.{dec_lt}
use Rattle.std.proofs.Math.ListN.{get_or-map}
use Rattle.basics.specs.Lists.{all, other}
use Rattle.basics.specs.Refusals.{accepted, refused, ◌else◌}
use Rattle.basics.specs.RefusalLaws.{Refused, accepted_inj, checks_accepted, bind_accepted}
use Rattle.network.specs.Threshold.{Gate, Net}
use Rattle.network.specs.Limits.{is_gate, sound}
use Rattle.network.specs.Record.{no_gate}
use Rattle.network.specs.Changes.{gate_at, lowered, lowered_gate, remove_at, with_gates, without}
use Rattle.network.specs.ChangeLaws.{lowered_low, lowered_high, remove_low, remove_high}
use Rattle.network.specs.Sound.{Has, Sound}
use Rattle.network.specs.LimitLaws.{has_of, of_has, sound_of, gate_ok_lem}
use Rattle.network.specs.declared.Board.{Board}
use Rattle.fold_theory.specs.Merge.{edge_of, edge, silent}
use Rattle.fold_theory.specs.Pair.{pair_of}
use Rattle.fold_theory.specs.Collapse.{merged_reader, merged_readers, collapse}
use Rattle.fold_theory.proofs.LowerLaws.{DoesNotRead, free_silent}
use Rattle.fold_theory.proofs.AlignedLaws.{EdgeOk}
use Rattle.fold_theory.proofs.StepLaws.{merged_reader_silent, collapse_kept}
use Rattle.fold_theory.proofs.CollapseLaws.{paired_of, found_accepted, collapse_only}
use Rattle.fold_unchanged.specs.Unchanged.{lowered_edge, NeitherReads, RefusedBy}
use Rattle.fold_unchanged.proofs.LoweredLaws.{reads_lowered, pair_of_lowered}

-- ---- a gate that a reader refuses is not collapsed
pub refused_collapse : (N : Net) (u v : ℕ) → RefusedBy N u v → Refused (collapse N u)
refused_collapse N u v r = elim (collapse N u) as (λ a. collapse N u ≡ a → Refused a) [
  | accepted M ↦ λ q. found_accepted (edge N u v) (paired_of N u v ((collapse_only N u M q).all_pairs v (of_has N v r.reader) r.joined)) r.refusal
  | refused c ↦ λ q. tt
] refl

-- ---- the gates of a network from which the gate with signal u is removed
without_gate : (N : Net) (u v : ℕ) → N.inputs ≤ u → N.inputs ≤ v → v ≢ u → gate_at (without N u) (lowered u v) ≡ lowered_gate u (gate_at N v)
unfolding gate_at without lowered_gate
without_gate N u v low above n =
    let i : ℕ = u - N.inputs in
    let at : get_or (remove_at i N.gates) (lowered u v - N.inputs) no_gate ≡ get_or N.gates (v - N.inputs) no_gate = elim (dec_lt u v) as
    (λ d. get_or (remove_at i N.gates) (lowered u v - N.inputs) no_gate ≡ get_or N.gates (v - N.inputs) no_gate) [
      | yes h ↦ rw (lowered_high u v h) (remove_high no_gate N.gates i (v - 1 - N.inputs) (omega arith)
          ∙ ap (λ (j : ℕ). get_or N.gates j no_gate) (let e : suc (v - 1 - N.inputs) ≡ v - N.inputs = omega arith in e))
      | no h ↦ rw (lowered_low u v (omega arith)) (remove_low no_gate N.gates i (v - N.inputs) (omega arith))
    ] in
    get_or-map (lowered_gate u) (remove_at i N.gates) (lowered u v - N.inputs) no_gate ∙ ap (lowered_gate u) at

-- ---- the gates that do not read u stay where the others are merged
merged_readers_silent : (b : Board) (u : ℕ) (gate_u : Gate) (n : ℕ) (gs hs : List Gate) → merged_readers b u gate_u n gs ≡ accepted hs
    → (j : ℕ) → T (silent u (get_or gs j no_gate)) → get_or hs j no_gate ≡ get_or gs j no_gate
unfolding merged_readers
merged_readers_silent b u gate_u n [] hs q j t = ap (λ (l : List Gate). get_or l j no_gate) (sym (accepted_inj q))
merged_readers_silent b u gate_u n (g ∷ gs) hs q zero t =
    let a = bind_accepted (merged_reader (edge_of b u n gate_u g)) _ q in
    let c = bind_accepted (merged_readers b u gate_u (suc n) gs) _ a.2 in
    ap (λ (l : List Gate). get_or l 0 no_gate) (sym (accepted_inj c.2)) ∙ merged_reader_silent (edge_of b u n gate_u g) a.0 t a.1
merged_readers_silent b u gate_u n (g ∷ gs) hs q (suc j) t =
    let a = bind_accepted (merged_reader (edge_of b u n gate_u g)) _ q in
    let c = bind_accepted (merged_readers b u gate_u (suc n) gs) _ a.2 in
    ap (λ (l : List Gate). get_or l (suc j) no_gate) (sym (accepted_inj c.2)) ∙ merged_readers_silent b u gate_u (suc n) gs c.0 c.1 j t

-- ---- an accepted collapse of u
module _ (N : Net) (u : ℕ) (M : Net) (q : collapse N u ≡ accepted M) where
  -- the gates with the readers merged, and u removed
  record Parts : Type 0 where
    whole : Sound N
    own : Has N u
    gates : List Gate
    accepts : merged_readers N.board u (gate_at N u) N.inputs N.gates ≡ accepted gates
    left : without (with_gates N gates) u ≡ M

  parts : Parts
  unfolding collapse
  parts =
      let a = checks_accepted ((sound N else 20) ∷ (is_gate N u else 11) ∷ (all (other u) N.outputs else 17) ∷ []) _ q in
      let b = bind_accepted (merged_readers N.board u (gate_at N u) N.inputs N.gates) _ a.1 in
      record { whole = sound_of N a.0.0; own = has_of N u a.0.1.0; gates = b.0; accepts = b.1; left = accepted_inj b.2 }

  -- the inputs stay, and there is one gate less
  pub collapse_inputs : M.inputs ≡ N.inputs
  unfolding without
  collapse_inputs = ap (λ (K : Net). K.inputs) (sym parts.left)

  collapse_has : (v : ℕ) → Has N v → v ≢ u → Has M (lowered u v)
  collapse_has v h n =
      let few = (collapse_kept N u M q).fewer in
      elim (dec_lt u v) as (λ d. Has M (lowered u v)) [
        | yes l ↦ rw (lowered_high u v l) (omega (arith, few, collapse_inputs, parts.own))
        | no l ↦ rw (lowered_low u v (omega arith)) (omega (arith, few, collapse_inputs, parts.own))
      ]

  -- a gate that does not read u is only lowered
  pub collapse_silent : (v : ℕ) → Has N v → v ≢ u → DoesNotRead u (gate_at N v) → gate_at M (lowered u v) ≡ lowered_gate u (gate_at N v)
  unfolding gate_at
  collapse_silent v h n free =
      ap (λ (K : Net). gate_at K (lowered u v)) (sym parts.left) ∙ without_gate (with_gates N parts.gates) u v parts.own.0 h.0 n
      ∙ ap (lowered_gate u) (merged_readers_silent N.board u (gate_at N u) N.inputs N.gates parts.gates parts.accepts (v - N.inputs)
      (free_silent u (gate_at N v) free))

  -- ---- a refusal that stands: neither the gate nor the reader that refuses it is u or reads u
  module _ (w v : ℕ) (r : RefusedBy N w v) (w_other : w ≢ u) (v_other : v ≢ u)
      (w_free : DoesNotRead u (gate_at N w)) (v_free : DoesNotRead u (gate_at N v)) where
    edge_after : edge M (lowered u w) (lowered u v) ≡ lowered_edge u (edge N w v)
    unfolding edge lowered_edge
    edge_after = λ x. edge_of ((collapse_kept N u M q).all_kept.board x) (lowered u w) (lowered u v)
        (collapse_silent w r.gate w_other w_free x) (collapse_silent v r.reader v_other v_free x)

    pub refusal_stands : RefusedBy M (lowered u w) (lowered u v)
    unfolding edge
    refusal_stands =
        let ok_v = gate_ok_lem N v parts.whole r.reader in
        let ok : EdgeOk (edge N w v) =
        record { on_board = parts.whole.board_ok_lem; ok_u = gate_ok_lem N w parts.whole r.gate; ok_v = ok_v; joined = r.joined } in
        let apart : NeitherReads u (edge N w v) = record { u_other = w_other; v_other = v_other; u_free = w_free; v_free = v_free } in
        let same : pair_of (edge M (lowered u w) (lowered u v)) ≡ pair_of (edge N w v) = ap pair_of edge_after ∙ pair_of_lowered u (edge N w v) ok apart in
        record {
          gate = collapse_has w r.gate w_other;
          reader = collapse_has v r.reader v_other;
          joined = rw (collapse_silent v r.reader v_other v_free, reads_lowered u w (gate_at N v) ok_v w_other v_free) r.joined;
          refusal = subst Refused (sym same) r.refusal;
        }
