-- A collapse is accepted exactly where it can be: a gate that is no output, and of which every reader has a pair. Assumes nothing.
use Rattle.std.specs.Prelude.{◌≡◌, List, [], ◌∷◌, ◌≢◌, ℕ, suc, ◌+◌, ◌-◌, T, get_or}
use Rattle.std.proofs.Common.{subst, arith, T_not}
use Rattle.basics.specs.Lists.{all, other}
use Rattle.basics.specs.TestLaws.{cond_case, ne_other}
use Rattle.basics.specs.ListLaws.{of_each, all_other}
use Rattle.basics.specs.Refusals.{Answer, accepted, ◌else◌, bind}
use Rattle.basics.specs.RefusalLaws.{Refused, checks_accepted, bind_accepted}
use Rattle.network.specs.Threshold.{Gate, Net}
use Rattle.network.specs.Limits.{is_gate, sound}
use Rattle.network.specs.Record.{no_gate}
use Rattle.network.specs.Changes.{gate_at}
use Rattle.network.specs.Sound.{Has, Sound}
use Rattle.network.specs.LimitLaws.{has_of, of_has, of_sound}
use Rattle.network.specs.declared.Board.{Board}
use Rattle.fold_theory.specs.Merge.{Edge, edge_of, edge, silent, reads, merged}
use Rattle.fold_theory.specs.Pair.{Pair, pair_of}
use Rattle.fold_theory.specs.Collapse.{merged_reader, merged_readers, collapse}
use Rattle.fold_theory.specs.Guarantee.{HasPair, Collapsible}
use Rattle.fold_theory.proofs.MemberLaws.{EachFrom, each_from, from_at}
use Rattle.fold_theory.proofs.RefusalLaws.{checks_refused, bind_refused}
use Rattle.fold_theory.proofs.LimitLaws.{FeedsGate}
use Rattle.fold_theory.proofs.PairLaws.{pair_of_found, pair_of_given, qualifying_limited, qualifying_test, test_qualifying}

-- a pair is found for two gates
abbrev Paired : Edge → Type 0
Paired e = (p : Pair) × (pair_of e ≡ accepted p)

pub paired_of : (N : Net) (u v : ℕ) → HasPair N u v → Paired (edge N u v)
paired_of N u v h = pair_of_given (edge N u v) h.0 (qualifying_limited N u v h.0 h.1).searched (qualifying_test N u v h.0 h.1)

pub found_accepted : (e : Edge) → Paired e → Refused (pair_of e) → ⊥
found_accepted e p r = subst Refused p.1 r

merged_reader_tried : (e : Edge) → (T (reads e.u e.gate_v) → Paired e) → Refused (merged_reader e) → ⊥
unfolding merged_reader reads
merged_reader_tried e q h = cond_case {A = Answer Gate} (λ r. Refused r → ⊥) (silent e.u e.gate_v) {x = accepted e.gate_v}
    {y = bind (pair_of e) (λ p. accepted (merged e p.k p.l))}
    (λ t h. h)
    (λ t h. bind_refused (pair_of e) _ h (found_accepted e (q t)) (λ p r. r)) h

merged_readers_tried : (b : Board) (u : ℕ) (gate_u : Gate) (n : ℕ) (gs : List Gate)
    → EachFrom (λ v g. T (reads u g) → Paired (edge_of b u v gate_u g)) n gs → Refused (merged_readers b u gate_u n gs) → ⊥
unfolding merged_readers
merged_readers_tried b u gate_u n [] q h = h
merged_readers_tried b u gate_u n (g ∷ gs) q h = bind_refused (merged_reader (edge_of b u n gate_u g)) _ h
    (merged_reader_tried (edge_of b u n gate_u g) q.0)
    (λ a h. bind_refused (merged_readers b u gate_u (suc n) gs) _ h (merged_readers_tried b u gate_u (suc n) gs q.1) (λ hs r. r))

each_gate : (N : Net) (P : ℕ → Gate → Type 0) → ((v : ℕ) → Has N v → P v (gate_at N v)) → EachFrom P N.inputs N.gates
unfolding gate_at
each_gate N P h = each_from P N.inputs N.gates no_gate λ i k.
    subst (λ x. P (N.inputs + i) (get_or N.gates x no_gate)) (let j : N.inputs + i - N.inputs ≡ i = omega arith in j) (h (N.inputs + i) (omega arith))

pub collapse_tried : (N : Net) (u : ℕ) → Sound N → Collapsible N u → Refused (collapse N u) → ⊥
unfolding collapse edge
collapse_tried N u s c h = bind_refused (merged_readers N.board u (gate_at N u) N.inputs N.gates) _
    (checks_refused ((sound N else 20) ∷ (is_gate N u else 11) ∷ (all (other u) N.outputs else 17) ∷ []) _
    (of_sound N s, (c.is_gate_lem, (of_each (other u) (λ s. s ≢ u) (ne_other u) N.outputs c.no_output, tt))) h)
    (merged_readers_tried N.board u (gate_at N u) N.inputs N.gates
    (each_gate N (λ v g. T (reads u g) → Paired (edge_of N.board u v (gate_at N u) g)) λ v k t. paired_of N u v (c.all_pairs v (of_has N v k) t)))
    (λ gs r. r)

-- ---- and it is accepted only there

-- a reader's pair was found
merged_reader_pair : (e : Edge) (h : Gate) → merged_reader e ≡ accepted h → T (reads e.u e.gate_v) → Paired e
unfolding merged_reader reads
merged_reader_pair e h q t = cond_case (λ x. x ≡ accepted h → Paired e) (silent e.u e.gate_v)
    (λ s q. absurd (T_not (silent e.u e.gate_v) t s))
    (λ s q. let b = bind_accepted (pair_of e) _ q in (b.0, b.1)) q

merged_readers_pairs : (b : Board) (u : ℕ) (gate_u : Gate) (n : ℕ) (gs hs : List Gate) → merged_readers b u gate_u n gs ≡ accepted hs
    → EachFrom (λ v g. T (reads u g) → Paired (edge_of b u v gate_u g)) n gs
unfolding merged_readers
merged_readers_pairs b u gate_u n [] hs q = tt
merged_readers_pairs b u gate_u n (g ∷ gs) hs q =
    let a = bind_accepted (merged_reader (edge_of b u n gate_u g)) _ q in
    let r = bind_accepted (merged_readers b u gate_u (suc n) gs) _ a.2 in
    (merged_reader_pair (edge_of b u n gate_u g) a.0 a.1, merged_readers_pairs b u gate_u (suc n) gs r.0 r.1)

-- a pair that was found qualifies
has_pair : (N : Net) (u v : ℕ) → FeedsGate N u v → Paired (edge N u v) → HasPair N u v
has_pair N u v f p = let d = pair_of_found (edge N u v) p.0 p.1 in (p.0, test_qualifying N u v p.0 f d.searched d.qualified)

pub collapse_only : (N : Net) (u : ℕ) (M : Net) → collapse N u ≡ accepted M → Collapsible N u
unfolding collapse gate_at edge
collapse_only N u M q =
    let a = checks_accepted ((sound N else 20) ∷ (is_gate N u else 11) ∷ (all (other u) N.outputs else 17) ∷ []) _ q in
    let b = bind_accepted (merged_readers N.board u (gate_at N u) N.inputs N.gates) _ a.1 in
    let each = merged_readers_pairs N.board u (gate_at N u) N.inputs N.gates b.0 b.1 in
    record {
      is_gate_lem = a.0.1.0;
      no_output = all_other u N.outputs a.0.1.1.0;
      all_pairs = λ v k t.
          let has = has_of N v k in
          let i = v - N.inputs in
          let n : N.inputs + i ≡ v = omega (arith, has) in
          let p = from_at _ N.inputs N.gates no_gate each i (omega (arith, has)) t in
          has_pair N u v (record { is_sound = a.0.0; u_gate = a.0.1.0; v_gate = k; joined = t })
          (subst (λ (w : ℕ). Paired (edge_of N.board u w (gate_at N u) (gate_at N v))) n p);
    }
