-- What each accepted merge, drop and collapse keeps: the network that it leaves is sound and simulates the one before. Assumes nothing.
use Rattle.std.specs.Prelude.{◌≡◌, refl, ◌&&◌, List, [], ◌∷◌, map, ◌≢◌, ◌↔◌, ℕ, suc, ◌-◌, T, length}
use Rattle.std.proofs.Common.{sym, ap, ◌∙◌, subst, arith, T_not}
use Rattle.std.proofs.Math.Seq.{map-set_same}
use Rattle.basics.specs.Lists.{all, range, other, Each}
use Rattle.basics.specs.TestLaws.{T_and, and_T, cond_case, or_case, other_ne}
use Rattle.basics.specs.ListLaws.{each_of, each_imp, kept, all_other}
use Rattle.basics.specs.Refusals.{accepted, Test, ◌else◌, Passed}
use Rattle.basics.specs.RefusalLaws.{accepted_inj, checks_accepted, passed_checks, bind_accepted}
use Rattle.network.specs.Threshold.{Gate, Net, Assignment, bit}
use Rattle.network.specs.Limits.{keeps, is_gate, sound}
use Rattle.network.specs.Record.{no_gate}
use Rattle.network.specs.Changes.{gate_at, with_gate, with_gates, without}
use Rattle.network.specs.Sound.{GateOk, GatesOk, Has, Sound}
use Rattle.network.specs.LimitLaws.{has_of, sound_of, gate_ok_lem}
use Rattle.network.specs.declared.Board.{Board}
use Rattle.network_equivalence.proofs.ConsistentLaws.{own_bit, sim_trans, replaced}
use Rattle.fold_theory.specs.Merge.{Edge, edge_of, edge, silent, reads, among, distinct, merged, agrees, merge_keeps, limits, merge}
use Rattle.fold_theory.specs.Pair.{pair_of}
use Rattle.fold_theory.specs.Collapse.{unread, drop_gate, merged_reader, merged_readers, collapse}
use Rattle.fold_theory.specs.Guarantee.{Alike, AlikeUnderAll, MarginsKept}
use Rattle.fold_theory.proofs.LowerLaws.{DoesNotRead, silent_free, without_sim}
use Rattle.fold_theory.proofs.LimitLaws.{FeedsGate, narrow_few, limited_of}
use Rattle.fold_theory.proofs.AgreeLaws.{FeedsBelow, merged_signals, merged_bit_lem, alike_of, of_alike, alike_all}
use Rattle.fold_theory.proofs.SoundLaws.{merged_ok, reader_above, both_low, resized_sound, with_gate_sound, without_size, without_sound}
use Rattle.fold_theory.proofs.PairLaws.{qualified_of, margins_kept, pair_of_found}
use Rattle.network_equivalence.specs.Consistent.{Simulates}

-- what every accepted call keeps: M simulates N, is sound, and has its board
pub record Kept (N M : Net) : Type 0 where
  pub board : M.board ≡ N.board
  pub sim : Simulates N M
  pub sound : Sound M

-- ---- merge

-- both gates' feeds lie below v
fed_low : (N : Net) (u v : ℕ) → FeedsGate N u v → FeedsBelow (edge N u v)
unfolding edge
fed_low N u v f =
    let s = sound_of N f.is_sound in
    both_low (edge N u v) (gate_ok_lem N u s (has_of N u f.u_gate)) (gate_ok_lem N v s (has_of N v f.v_gate)) f.joined

pub merge_kept : (N : Net) (u v k l : ℕ) (M : Net) → merge N u v k l ≡ accepted M → Kept N M
unfolding merge with_gate gate_at edge
merge_kept N u v k l M h =
    let a = checks_accepted (limits N u v k l) _ h in
    let b = checks_accepted ((merge_keeps e k l else 24) ∷ (agrees e k l else 15) ∷ []) _ a.1 in
    let p = limited_of N u v k l a.0 in
    let s = sound_of N p.fed.is_sound in
    let hu = has_of N u p.fed.u_gate in
    let hv = has_of N v p.fed.v_gate in
    subst (Kept N) (accepted_inj b.1) (record {
      board = refl;
      sim = replaced N _ λ ρ r. map-set_same (bit ρ) N.gates (v - N.inputs) (merged e k l) no_gate
          (merged_bit_lem e k l (fed_low N u v p.fed) b.0.1.0 ρ (own_bit N u ρ hu r));
      sound = with_gate_sound N v (merged e k l) hv (merged_ok e k l (narrow_few e p.searched.is_narrow) p.scaled) (unfold merge_keeps in b.0.0) s;
    })
  where
    e : Edge
    e = edge N u v

-- the tests of a merge within the limits
abbrev served : Edge → ℕ → ℕ → List Test
served e k l = (merge_keeps e k l else 24) ∷ (agrees e k l else 15) ∷ []

-- it is accepted exactly when merged gate and composed pair are alike, and the margins are kept
pub merge_exact : (N : Net) (u v k l : ℕ) → Passed (limits N u v k l)
    → (merge N u v k l ≡ accepted (with_gate N v (merged (edge N u v) k l))) ↔ (Alike (edge N u v) k l × MarginsKept (edge N u v) k l)
unfolding merge
merge_exact N u v k l p =
    let e = edge N u v in
    let h = limited_of N u v k l p in
    let m = margins_kept e k l h.searched.is_narrow h.scaled in (
      (λ q. let t = (checks_accepted (served e k l) _ (checks_accepted (limits N u v k l) _ q).1).0 in (alike_of e k l t.1.0, m.0 t.0)),
      (λ q. passed_checks (limits N u v k l) _ p ∙ passed_checks (served e k l) _ (m.1 q.1, (of_alike e k l q.0, tt))),
    )

-- on every setting is under every assignment
pub merge_same : (N : Net) (u v k l : ℕ) → Passed (limits N u v k l) → Alike (edge N u v) k l ↔ AlikeUnderAll (edge N u v) k l
merge_same N u v k l p = alike_all (edge N u v) k l (fed_low N u v (limited_of N u v k l p).fed)

pub merge_net : (N : Net) (u v k l : ℕ) (M : Net) → merge N u v k l ≡ accepted M → merge N u v k l ≡ accepted (with_gate N v (merged (edge N u v) k l))
unfolding merge
merge_net N u v k l M h =
    let a = checks_accepted (limits N u v k l) _ h in
    let b = checks_accepted (served (edge N u v) k l) _ a.1 in
    passed_checks (limits N u v k l) _ a.0 ∙ passed_checks (served (edge N u v) k l) _ b.0

-- ---- drop
pub drop_kept : (N : Net) (u : ℕ) (M : Net) → drop_gate N u ≡ accepted M → Kept N M
unfolding drop_gate unread
drop_kept N u M h =
    let a = checks_accepted ((sound N else 20) ∷ (is_gate N u else 11) ∷ (unread N u else 17) ∷ []) _ h in
    let r = T_and (all (silent u) N.gates) (all (other u) N.outputs) a.0.1.1.0 in
    let g = has_of N u a.0.1.0 in
    let f = each_of (silent u) (DoesNotRead u) (silent_free u) N.gates r.0 in
    let o = all_other u N.outputs r.1 in
    subst (Kept N) (accepted_inj a.1)
    (record { board = unfold without in refl; sim = without_sim N u g f o; sound = without_sound N u g f o (sound_of N a.0.0) })

-- ---- collapse
merged_free : (e : Edge) (k l : ℕ) → GateOk e.u e.gate_u → DoesNotRead e.u (merged e k l)
unfolding merged distinct among reads silent
merged_free e k l o = merged_signals (λ s. s ≢ e.u) e k l (distinct e) (each_imp (λ s. T (among e s)) (λ s. s ≢ e.u)
    (λ s t. or_case (reads s e.gate_u) (other e.u s && reads s e.gate_v) t
    (λ a. let h = reader_above s e.u e.gate_u o a in omega arith)
    (λ b. other_ne e.u s (T_and (other e.u s) (reads s e.gate_v) b).0))
    (distinct e) (kept (among e) (range 0 e.v)))

-- a gate that does not read u stays
pub merged_reader_silent : (e : Edge) (h : Gate) → T (silent e.u e.gate_v) → merged_reader e ≡ accepted h → h ≡ e.gate_v
unfolding merged_reader
merged_reader_silent e h t q = cond_case (λ x. x ≡ accepted h → h ≡ e.gate_v) (silent e.u e.gate_v)
    (λ s q. sym (accepted_inj q)) (λ s q. absurd (T_not (silent e.u e.gate_v) s t)) q

-- what becomes of a gate: the same bit where u has its own, no feed u, within the limits
record GateCollapsed (e : Edge) (h : Gate) : Type 0 where
  bits : (ρ : Assignment) → ρ e.u ≡ bit ρ e.gate_u → bit ρ h ≡ bit ρ e.gate_v
  free : DoesNotRead e.u h
  good : GateOk e.v h
  keep : T (keeps e.board h)

merged_reader_collapsed : (e : Edge) (h : Gate) → GateOk e.u e.gate_u → GateOk e.v e.gate_v
    → T (keeps e.board e.gate_v) → merged_reader e ≡ accepted h → GateCollapsed e h
unfolding merged_reader reads merge_keeps
merged_reader_collapsed e h ou ov m q = cond_case (λ x. x ≡ accepted h → GateCollapsed e h) (silent e.u e.gate_v)
    (λ t q. subst (GateCollapsed e) (accepted_inj q) (record { bits = λ ρ r. refl; free = silent_free e.u e.gate_v t; good = ov; keep = m }))
    (λ t q.
    let b = bind_accepted (pair_of e) _ q in
    let p = b.0 in
    let f = pair_of_found e p b.1 in
    let d = qualified_of e p f.qualified in
    subst (GateCollapsed e) (accepted_inj b.2) (record {
      bits = merged_bit_lem e p.k p.l (both_low e ou ov t) d.agreed;
      free = merged_free e p.k p.l ou;
      good = merged_ok e p.k p.l (narrow_few e f.searched.is_narrow) d.scaled;
      keep = d.kept;
    })) q

-- the same of the gates from signal n on
pub record GatesCollapsed (b : Board) (u : ℕ) (gate_u : Gate) (n : ℕ) (gs hs : List Gate) : Type 0 where
  pub bits : (ρ : Assignment) → ρ u ≡ bit ρ gate_u → map (bit ρ) hs ≡ map (bit ρ) gs
  pub free : Each (DoesNotRead u) hs
  pub good : GatesOk n hs
  pub keep : T (all (keeps b) hs)
  pub size : length hs ≡ length gs

pub merged_readers_collapsed : (b : Board) (u : ℕ) (gate_u : Gate) (n : ℕ) (gs hs : List Gate) → GateOk u gate_u → GatesOk n gs → T (all (keeps b) gs)
    → merged_readers b u gate_u n gs ≡ accepted hs → GatesCollapsed b u gate_u n gs hs
unfolding merged_readers all
merged_readers_collapsed b u gate_u n [] hs ou os m q =
    subst (GatesCollapsed b u gate_u n []) (accepted_inj q) (record { bits = λ ρ r. refl; free = tt; good = tt; keep = tt; size = refl })
merged_readers_collapsed b u gate_u n (g ∷ gs) hs ou os m q =
    let t = T_and (keeps b g) (all (keeps b) gs) m in
    let a = bind_accepted (merged_reader (edge_of b u n gate_u g)) _ q in
    let c = bind_accepted (merged_readers b u gate_u (suc n) gs) _ a.2 in
    let h = merged_reader_collapsed (edge_of b u n gate_u g) a.0 ou os.0 t.0 a.1 in
    let r = merged_readers_collapsed b u gate_u (suc n) gs c.0 ou os.1 t.1 c.1 in
    subst (GatesCollapsed b u gate_u n (g ∷ gs)) (accepted_inj c.2) (record {
      bits = λ ρ x. rw (h.bits ρ x, r.bits ρ x);
      free = (h.free, r.free);
      good = (h.good, r.good);
      keep = and_T (keeps b a.0) (all (keeps b) c.0) h.keep r.keep;
      size = ap suc r.size;
    })

-- what an accepted collapse leaves: all that is kept, and one gate less
pub record Collapsed (N M : Net) : Type 0 where
  pub all_kept : Kept N M
  pub fewer : suc (length M.gates) ≡ length N.gates

pub collapse_kept : (N : Net) (u : ℕ) (M : Net) → collapse N u ≡ accepted M → Collapsed N M
unfolding collapse
collapse_kept N u M h =
    let a = checks_accepted ((sound N else 20) ∷ (is_gate N u else 11) ∷ (all (other u) N.outputs else 17) ∷ []) _ h in
    let d = bind_accepted (merged_readers N.board u (gate_at N u) N.inputs N.gates) _ a.1 in
    let s = sound_of N a.0.0 in
    let g = has_of N u a.0.1.0 in
    let f = merged_readers_collapsed N.board u (gate_at N u) N.inputs N.gates d.0 (gate_ok_lem N u s g) s.all_gates s.all_keep d.1 in
    let o = all_other u N.outputs a.0.1.1.0 in
    let k : Has (with_gates N d.0) u = omega (arith, f.size, g) in
    subst (Collapsed N) (accepted_inj d.2) (record {
      all_kept = record {
        board = unfold without in refl;
        sim = sim_trans (replaced N d.0 λ ρ r. f.bits ρ (own_bit N u ρ g r)) (without_sim (with_gates N d.0) u k f.free o);
        sound = without_sound (with_gates N d.0) u k f.free o (resized_sound N d.0 f.size f.good f.keep s);
      };
      fewer = without_size (with_gates N d.0) u k ∙ f.size;
    })
