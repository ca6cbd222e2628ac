-- Sweeps take the lowest gate, and collapses merge each reader with its pair. Assumes nothing.
use Rattle.std.specs.Prelude.{◌≡◌, refl, Bool, true, false, cond, List, [], ◌∷◌, ◌≢◌, ℕ, zero, suc, ◌+◌, ◌-◌, ◌≤◌, ◌<◌, T, leb, length, get_or}
use Rattle.std.proofs.Common.{sym, ap, ◌∙◌, subst, arith, le-leb, T_not, leb→le, le→leb}
use Rattle.basics.specs.Lists.{all, other}
use Rattle.basics.specs.Refusals.{Answer, accepted, refused, Test, ◌else◌, checks, bind}
use Rattle.basics.specs.RefusalLaws.{Refused, accepted≢refused, accepted_inj, checks_accepted, passed_checks, bind_accepted}
use Rattle.basics.specs.TestLaws.{cond_case, is_true}
use Rattle.network.specs.Threshold.{Gate, Net}
use Rattle.network.specs.Limits.{is_gate, sound}
use Rattle.network.specs.Sound.{Sound, Has}
use Rattle.network.specs.Record.{no_gate}
use Rattle.network.specs.Changes.{gate_at, with_gates, without}
use Rattle.network.specs.LimitLaws.{has_of, of_has, sound_of, of_sound}
use Rattle.network.specs.declared.Board.{Board}
use Rattle.fold_theory.specs.Merge.{Edge, edge_of, edge, reads, silent, merged, feed_tests}
use Rattle.fold_theory.specs.Pair.{Pair, pair_of, pair}
use Rattle.fold_theory.specs.Collapse.{merged_reader, merged_readers, collapse}
use Rattle.fold_theory.specs.Sweep.{readers, or_else, sweep_from, sweep_once, Swept, go_on, sweeping, sweep}
use Rattle.fold_theory.specs.Guarantee.{LeastPair, Collapsible, Settled}
use Rattle.fold_theory.proofs.LimitLaws.{FeedsGate, of_fed}
use Rattle.fold_theory.proofs.PairLaws.{pair_least}
use Rattle.fold_theory.proofs.StepLaws.{Collapsed, collapse_kept}
use Rattle.fold_theory.proofs.CollapseLaws.{collapse_tried, collapse_only}
use Rattle.network_claims.specs.Folds.{MergedWithPair, AllMerged, Lowest, one_more, BeginsAgain, SweepClaim}

-- ---- a collapse

-- the gates of a list that a collapse makes, one by one
merged_length : (b : Board) (u : ℕ) (gate_u : Gate) (n : ℕ) (gs hs : List Gate) → merged_readers b u gate_u n gs ≡ accepted hs → length hs ≡ length gs
unfolding merged_readers
merged_length b u gate_u n [] hs q = ap length (sym (accepted_inj q))
merged_length b u gate_u n (g ∷ gs) hs q =
    let a = bind_accepted (merged_reader (edge_of b u n gate_u g)) _ q in
    let r = bind_accepted (merged_readers b u gate_u (suc n) gs) _ a.2 in
    ap length (sym (accepted_inj r.2)) ∙ ap suc (merged_length b u gate_u (suc n) gs r.0 r.1)

merged_at : (b : Board) (u : ℕ) (gate_u : Gate) (n : ℕ) (gs hs : List Gate) (d : Gate) → merged_readers b u gate_u n gs ≡ accepted hs
    → (i : ℕ) → i < length gs → merged_reader (edge_of b u (n + i) gate_u (get_or gs i d)) ≡ accepted (get_or hs i d)
unfolding merged_readers
merged_at b u gate_u n [] hs d q i h = absurd (omega arith)
merged_at b u gate_u n (g ∷ gs) hs d q zero h =
    let a = bind_accepted (merged_reader (edge_of b u n gate_u g)) _ q in
    let r = bind_accepted (merged_readers b u gate_u (suc n) gs) _ a.2 in
    let e : n + 0 ≡ n = omega arith in
    ap (λ (m : ℕ). merged_reader (edge_of b u m gate_u g)) e ∙ a.1 ∙ ap (λ (l : List Gate). accepted (get_or l 0 d)) (accepted_inj r.2)
merged_at b u gate_u n (g ∷ gs) hs d q (suc i) h =
    let a = bind_accepted (merged_reader (edge_of b u n gate_u g)) _ q in
    let r = bind_accepted (merged_readers b u gate_u (suc n) gs) _ a.2 in
    let e : n + suc i ≡ suc n + i = omega arith in
    ap (λ (m : ℕ). merged_reader (edge_of b u m gate_u (get_or gs i d))) e
    ∙ merged_at b u gate_u (suc n) gs r.0 d r.1 i (omega arith)
    ∙ ap (λ (l : List Gate). accepted (get_or l (suc i) d)) (accepted_inj r.2)

-- a reader's pair, and its gate
reader_merged : (e : Edge) (h : Gate) → merged_reader e ≡ accepted h → T (reads e.u e.gate_v)
    → (p : Pair) × (pair_of e ≡ accepted p) × (h ≡ merged e p.k p.l)
unfolding merged_reader reads
reader_merged e h q t = cond_case (λ x. x ≡ accepted h → (p : Pair) × (pair_of e ≡ accepted p) × (h ≡ merged e p.k p.l)) (silent e.u e.gate_v)
    (λ s q. absurd (T_not (silent e.u e.gate_v) t s))
    (λ s q. let b = bind_accepted (pair_of e) _ q in (b.0, b.1, sym (accepted_inj b.2))) q

-- another gate
other_stays : (e : Edge) (h : Gate) → merged_reader e ≡ accepted h → T (silent e.u e.gate_v) → h ≡ e.gate_v
unfolding merged_reader
other_stays e h q t =
    let r : Answer Gate = bind (pair_of e) (λ p. accepted (merged e p.k p.l)) in
    sym (accepted_inj (sym (ap (λ (b : Bool). cond b (accepted e.gate_v) r) (is_true (silent e.u e.gate_v) t)) ∙ q))

pub all_merged_lem : (N : Net) (u : ℕ) (M : Net) → collapse N u ≡ accepted M → AllMerged N u M
unfolding collapse gate_at edge pair
all_merged_lem N u M q =
    let a = checks_accepted ((sound N else 20) ∷ (is_gate N u else 11) ∷ (all (other u) N.outputs else 17) ∷ []) _ q in
    let b = bind_accepted (merged_readers N.board u (gate_at N u) N.inputs N.gates) _ a.1 in
    let hs = b.0 in
    let at : (v : ℕ) → T (is_gate N v) → merged_reader (edge N u v) ≡ accepted (gate_at (with_gates N hs) v) = λ v k.
    let has = has_of N v k in
    let n : N.inputs + (v - N.inputs) ≡ v = omega (arith, has) in
    subst (λ (w : ℕ). merged_reader (edge_of N.board u w (gate_at N u) (gate_at N v)) ≡ accepted (gate_at (with_gates N hs) v)) n
    (merged_at N.board u (gate_at N u) N.inputs N.gates hs no_gate b.1 (v - N.inputs) (omega (arith, has))) in
    record {
      gates = hs;
      as_many = merged_length N.board u (gate_at N u) N.inputs N.gates hs b.1;
      readers_merged = λ v k t.
          let m = reader_merged (edge N u v) (gate_at (with_gates N hs) v) (at v k) t in
          let f = of_fed N u v (record { is_sound = a.0.0; u_gate = a.0.1.0; v_gate = k; joined = t }) in
          let p : pair N u v ≡ accepted m.0 = passed_checks (feed_tests N u v) (pair_of (edge N u v)) f ∙ m.1 in
          record { its = m.0; is_pair = p; is_least = pair_least N u v m.0 p; is_merged = m.2 };
      others_stay = λ v k t. other_stays (edge N u v) (gate_at (with_gates N hs) v) (at v k) t;
      dropped = sym (accepted_inj b.2);
    }

-- ---- a sweep
abbrev within : Net → ℕ → ℕ → List Test
within N B u = (leb (readers N u) B else 0) ∷ []

passed_over : {A : Type 0} (r q : Answer A) → Refused r → or_else r q ≡ q
unfolding or_else
passed_over (accepted a) q h = absurd h
passed_over (refused c) q h = refl

not_taken : (b : Bool) (a : Answer Net) → (T b → Refused a) → Refused (checks ((b else 0) ∷ []) a)
unfolding checks
not_taken true a h = h tt
not_taken false a h = tt

-- the first gate that is within the limit and collapses is taken
finds : (N : Net) (B i n j : ℕ) (M : Net) → j < n → readers N (i + j) ≤ B → collapse N (i + j) ≡ accepted M
    → ((k : ℕ) → k < j → readers N (i + k) ≤ B → Refused (collapse N (i + k))) → sweep_from N B i n ≡ accepted M
unfolding sweep_from or_else
finds N B i zero j M h r e low = absurd (omega arith)
finds N B i (suc n) zero M h r e low =
    let z : i + 0 ≡ i = omega arith in
    let few = subst (λ (x : ℕ). readers N x ≤ B) z r in
    ap (λ (a : Answer Net). or_else a (sweep_from N B (suc i) n))
    (passed_checks (within N B i) (collapse N i) (le→leb (readers N i) B few, tt) ∙ subst (λ (x : ℕ). collapse N x ≡ accepted M) z e)
finds N B i (suc n) (suc j) M h r e low =
    let z : i + 0 ≡ i = omega arith in
    let s : (k : ℕ) → i + suc k ≡ suc i + k = λ k. omega arith in
    let first : T (leb (readers N i) B) → Refused (collapse N i) = λ t.
    subst (λ (x : ℕ). Refused (collapse N x)) z (low 0 (omega arith) (subst (λ (x : ℕ). readers N x ≤ B) (sym z) (leb→le (readers N i) B t))) in
    passed_over (checks (within N B i) (collapse N i)) (sweep_from N B (suc i) n) (not_taken (leb (readers N i) B) (collapse N i) first)
    ∙ finds N B (suc i) n j M (omega arith) (subst (λ (x : ℕ). readers N x ≤ B) (s j) r) (subst (λ (x : ℕ). collapse N x ≡ accepted M) (s j) e)
    (λ k l m. subst (λ (x : ℕ). Refused (collapse N x)) (s k)
    (low (suc k) (omega arith) (subst (λ (x : ℕ). readers N x ≤ B) (sym (s k)) m)))

-- a collapse that is not accepted is refused
refused_or : (a : Answer Net) {X : Type 0} → ((M : Net) → a ≡ accepted M → X) → (Refused a → X) → X
refused_or (accepted M) f g = f M refl
refused_or (refused c) f g = g tt

must_refuse : (N : Net) (w : ℕ) → (Collapsible N w → ⊥) → Refused (collapse N w)
must_refuse N w h = refused_or (collapse N w) (λ M e. absurd (h (collapse_only N w M e))) (λ r. r)

once_lowest : (N : Net) (B u : ℕ) (M : Net) → Lowest N B u → collapse N u ≡ accepted M → sweep_once N B ≡ accepted M
unfolding sweep_once
once_lowest N B u M l e =
    let has = has_of N u l.can.is_gate_lem in
    let j = u - N.inputs in
    let z : N.inputs + j ≡ u = omega (arith, has) in
    finds N B N.inputs (length N.gates) j M (omega (arith, has)) (subst (λ (x : ℕ). readers N x ≤ B) (sym z) l.few)
    (subst (λ (x : ℕ). collapse N x ≡ accepted M) (sym z) e)
    (λ k h r. must_refuse N (N.inputs + k) (λ c. l.none_lower (N.inputs + k) (omega arith) c r))

none_found : (N : Net) (B i n : ℕ) → ((w : ℕ) → readers N w ≤ B → Refused (collapse N w)) → Refused (sweep_from N B i n)
unfolding sweep_from
none_found N B i zero h = tt
none_found N B i (suc n) h =
    let r = not_taken (leb (readers N i) B) (collapse N i) (λ t. h i (leb→le (readers N i) B t)) in
    subst Refused (sym (passed_over (checks (within N B i) (collapse N i)) (sweep_from N B (suc i) n) r)) (none_found N B (suc i) n h)

-- collapses before a sweep are counted
counted_on : (n B : ℕ) (N : Net) (c : ℕ) → sweeping n B N (suc c) ≡ one_more (sweeping n B N c)
unfolding sweeping go_on
counted_on zero B N c = refl
counted_on (suc n) B N c = elim (sweep_once N B) as
    (λ r. go_on r (λ M. sweeping n B M (suc (suc c))) (record { net = N; collapses = suc c })
    ≡ one_more (go_on r (λ M. sweeping n B M (suc c)) (record { net = N; collapses = c }))) [
      | accepted M ↦ counted_on n B M (suc c)
      | refused d ↦ refl
    ]

sweep_is : (N : Net) (B : ℕ) → Sound N → B ≤ 128 → sweep N B ≡ accepted (sweeping (length N.gates) B N 0)
unfolding sweep
sweep_is N B s h = passed_checks ((sound N else 20) ∷ (leb B 128 else 14) ∷ []) _ (of_sound N s, (le→leb B 128 h, tt))

ended : (N : Net) (B n : ℕ) → Refused (sweep_once N B) → sweeping n B N 0 ≡ record { net = N; collapses = 0 }
unfolding sweeping go_on
ended N B zero h = refl
ended N B (suc n) h = go (sweep_once N B) h
  where
    go : (a : Answer Net) → Refused a → go_on a (λ M. sweeping n B M 1) (record { net = N; collapses = 0 }) ≡ record { net = N; collapses = 0 }
    go (accepted M) h = absurd h
    go (refused c) h = refl

pub sweep_claim : (N : Net) (B : ℕ) → T (sound N) → B ≤ 128 → SweepClaim N B
unfolding sweeping go_on sweep_once
sweep_claim N B t h = let s = sound_of N t in record {
  takes_lowest = λ u l. refused_or (collapse N u)
      (λ M e.
      let k = collapse_kept N u M e in
      let z : length N.gates ≡ suc (length M.gates) = sym k.fewer in
      let rest = sweeping (length M.gates) B M 0 in
      record {
        after = M;
        collapsed_first = e;
        rest = rest;
        swept_then = sweep_is M B k.all_kept.sound h;
        whole = sweep_is N B s h
            ∙ ap (λ (n : ℕ). accepted (sweeping n B N 0)) z
            ∙ ap (λ (a : Answer Net). accepted (go_on a (λ L. sweeping (length M.gates) B L 1) (record { net = N; collapses = 0 }))) (once_lowest N B u M l e)
            ∙ ap accepted (counted_on (length M.gates) B M 0);
      })
      (λ r. absurd (collapse_tried N u s l.can r));
  ends = λ q. sweep_is N B s h ∙ ap accepted (ended N B (length N.gates)
      (none_found N B N.inputs (length N.gates) (λ w r. must_refuse N w (λ c. q w c r))));
}
