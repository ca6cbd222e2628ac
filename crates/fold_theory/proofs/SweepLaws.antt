-- Sweeps: each step is a collapse, they end, nothing is left to collapse, and the count is the number of gates lost. Assumes nothing.
use Rattle.std.specs.Prelude.{◌≡◌, List, [], ◌∷◌, ℕ, zero, suc, ◌+◌, ◌-◌, ◌≤◌, ◌<◌, leb, length}
use Rattle.std.proofs.Math.Path.{refl, subst}
use Rattle.std.proofs.Common.{sym, ◌∙◌, arith, le→leb}
use Rattle.basics.specs.Refusals.{Answer, accepted, refused, Test, ◌else◌, checks}
use Rattle.basics.specs.RefusalLaws.{Refused, accepted≢refused, accepted_inj, checks_accepted}
use Rattle.network.specs.Threshold.{Net}
use Rattle.network.specs.Limits.{sound}
use Rattle.network.specs.Sound.{Sound}
use Rattle.network.specs.LimitLaws.{sound_of}
use Rattle.network.specs.LimitLaws.{has_of}
use Rattle.network_equivalence.proofs.ConsistentLaws.{sim_refl, sim_trans}
use Rattle.fold_theory.specs.Collapse.{collapse}
use Rattle.fold_theory.specs.Sweep.{readers, or_else, sweep_from, sweep_once, Swept, go_on, sweeping, sweep}
use Rattle.fold_theory.specs.Guarantee.{Settled, SweepDone}
use Rattle.fold_theory.proofs.StepLaws.{Kept, Collapsed, collapse_kept}
use Rattle.fold_theory.proofs.RefusalLaws.{checks_refused}
use Rattle.fold_theory.proofs.CollapseLaws.{collapse_tried}

-- ---- what is kept is kept by one call after another
pub kept_refl : (N : Net) → Sound N → Kept N N
kept_refl N s = record { board = refl; sim = sim_refl N; sound = s }

pub kept_trans : {N M L : Net} → Kept N M → Kept M L → Kept N L
kept_trans p q = record { board = q.board ∙ p.board; sim = sim_trans p.sim q.sim; sound = q.sound }

-- ---- the first answer that is accepted
or_else_accepted : {A X : Type 0} (r q : Answer A) {a : A} → (r ≡ accepted a → X) → (q ≡ accepted a → X) → or_else r q ≡ accepted a → X
unfolding or_else
or_else_accepted (accepted b) q f g e = f e
or_else_accepted (refused c) q f g e = g e

or_else_refused : {A : Type 0} (r q : Answer A) → Refused (or_else r q) → Refused r × Refused q
unfolding or_else
or_else_refused (accepted b) q h = absurd h
or_else_refused (refused c) q h = (tt, h)

-- ---- each step of a sweep is a collapse

-- the test of a step: u has at most B readers
abbrev few : Net → ℕ → ℕ → List Test
few N B u = (leb (readers N u) B else 0) ∷ []

sweep_from_kept : (N : Net) (B u n : ℕ) (M : Net) → sweep_from N B u n ≡ accepted M → Collapsed N M
unfolding sweep_from
sweep_from_kept N B u zero M e = accepted≢refused (sym e)
sweep_from_kept N B u (suc n) M e = or_else_accepted (checks (few N B u) (collapse N u)) (sweep_from N B (suc u) n)
    (λ e. collapse_kept N u M (checks_accepted (few N B u) (collapse N u) e).1) (sweep_from_kept N B (suc u) n M) e

-- ---- where no step is left, nothing within the limit can be collapsed
sweep_from_refused : (N : Net) (B u n : ℕ) → Refused (sweep_from N B u n) → (i : ℕ) → i < n → readers N (u + i) ≤ B → Refused (collapse N (u + i))
unfolding sweep_from
sweep_from_refused N B u zero h i j r = absurd (omega arith)
sweep_from_refused N B u (suc n) h zero j r =
    let k = or_else_refused (checks (few N B u) (collapse N u)) (sweep_from N B (suc u) n) h in
    let e : u + 0 ≡ u = omega arith in
    rw e (checks_refused (few N B u) (collapse N u) (le→leb (readers N u) B (subst (λ x. readers N x ≤ B) e r), tt) k.0)
sweep_from_refused N B u (suc n) h (suc i) j r =
    let k = or_else_refused (checks (few N B u) (collapse N u)) (sweep_from N B (suc u) n) h in
    let e : u + suc i ≡ suc u + i = omega arith in
    rw e (sweep_from_refused N B (suc u) n k.1 i (omega arith) (subst (λ x. readers N x ≤ B) e r))

sweep_once_settled : (N : Net) (B : ℕ) → Sound N → Refused (sweep_once N B) → Settled N B
unfolding sweep_once
sweep_once_settled N B s h u c r =
    let has = has_of N u c.is_gate_lem in
    let here : N.inputs + (u - N.inputs) ≡ u = omega (arith, has) in
    collapse_tried N u s c (subst (λ x. Refused (collapse N x)) here
    (sweep_from_refused N B N.inputs (length N.gates) h (u - N.inputs) (omega (arith, has)) (subst (λ x. readers N x ≤ B) (sym here) r)))

-- ---- the whole sweep

-- what n turns do after c collapses: what they keep and count, and that they are enough for n gates
record Sweeps (N : Net) (B c n : ℕ) (s : Swept) : Type 0 where
  all_kept : Kept N s.net
  counted : s.collapses + length s.net.gates ≡ c + length N.gates
  ended : length N.gates ≤ n → Refused (sweep_once s.net B)

no_gates : (N : Net) (B : ℕ) → length N.gates ≤ 0 → Refused (sweep_once N B)
unfolding sweep_once sweep_from
no_gates N B h = rw (let e : length N.gates ≡ 0 = omega arith in e) tt

sweeping_sweeps : (n B : ℕ) (N : Net) (c : ℕ) → Sound N → Sweeps N B c n (sweeping n B N c)
unfolding sweeping go_on
sweeping_sweeps zero B N c s = record { all_kept = kept_refl N s; counted = refl; ended = λ h. no_gates N B h }
sweeping_sweeps (suc n) B N c s = elim (sweep_once N B) as
    (λ r. sweep_once N B ≡ r → Sweeps N B c (suc n) (go_on r (λ M. sweeping n B M (suc c)) (record { net = N; collapses = c }))) [
      | accepted M ↦ λ e.
          let k = sweep_from_kept N B N.inputs (length N.gates) M (unfold sweep_once in e) in
          let w = sweeping_sweeps n B M (suc c) k.all_kept.sound in
          record {
            all_kept = kept_trans k.all_kept w.all_kept;
            counted = omega (arith, w.counted, k.fewer);
            ended = λ h. w.ended (omega (arith, k.fewer));
          }
      | refused d ↦ λ e. record { all_kept = kept_refl N s; counted = refl; ended = λ h. subst Refused (sym e) tt }
    ] refl

sweep_sweeps : (N : Net) (B : ℕ) (s : Swept) → sweep N B ≡ accepted s → Sweeps N B 0 (length N.gates) s
unfolding sweep
sweep_sweeps N B s e = let a = checks_accepted ((sound N else 20) ∷ (leb B 128 else 14) ∷ []) _ e in
    subst (Sweeps N B 0 (length N.gates)) (accepted_inj a.1) (sweeping_sweeps (length N.gates) B N 0 (sound_of N a.0.0))

pub sweep_done : (N : Net) (B : ℕ) (s : Swept) → sweep N B ≡ accepted s → SweepDone N B s.net s.collapses
sweep_done N B s e = let w = sweep_sweeps N B s e in record {
  settled = sweep_once_settled s.net B w.all_kept.sound (w.ended (omega arith));
  counted = omega (arith, w.counted);
}
