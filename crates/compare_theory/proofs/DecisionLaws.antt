-- Decisions made, taken back and turned round, and two signals that are never apart. Assumes nothing.
use Rattle.std.specs.Prelude.{◌≡◌, refl, Bool, true, false, cond, ◌≢◌, ◌⊎◌, List, ℕ, zero, suc, ◌+◌, ◌-◌, ◌/◌, ◌%◌, ◌^◌, ◌≤◌, ◌<◌, eqb, length, get_or, set, replicate}
use Rattle.std.proofs.Common.{sym, ◌∙◌, subst, true≢false, inl, inr, ⊎_elim, arith, eqb→eq, length-set, get_or-set_same, get_or-set_other}
use Rattle.std.proofs.lemmas.List.{length-replicate, get_or-replicate}
use Rattle.std.proofs.Math.Facts.{eqb_yes, eqb_no}
use Rattle.basics.specs.ListLaws.{get_or_spare}
use Rattle.basics.specs.TestLaws.{test_case, T_is}
use Rattle.network.specs.Threshold.{Assignment}
use Rattle.compare_theory.specs.Joint.{Joint, FitsJoint, OneBit, Allows, Extends, Refuted}
use Rattle.compare_theory.specs.Reasons.{Meets, Rests, Propagated}
use Rattle.compare_theory.specs.Decisions.{apart, met_by, Decided, Reopened, Decision, JumpedBack}
use Rattle.compare_theory.proofs.ForceLaws.{allows_own, allows_open}
use Rattle.compare_theory.proofs.MaskLaws.{meets_none, meets_one, meets_low, meets_last}
use Rattle.compare_theory.proofs.ReasonLaws.{rests_set}

-- ---- at first there are no decisions
pub decided_none : {J : Joint} (goal : List ℕ) → Decided J goal (replicate 64 0) (replicate 64 0) goal (replicate 296 0)
decided_none goal = record {
  long_chosen = length-replicate {A = ℕ} 64 0;
  long_tried = length-replicate {A = ℕ} 64 0;
  few = λ d. rw (get_or_spare {A = ℕ} 64 d 0) (omega arith);
  rests_on = λ ρ h x. record { long = x.long; long_rests = length-replicate {A = ℕ} 296 0; at = λ s k m. x.at s k };
}

-- ---- propagation
module _ {J : Joint} {goal chosen tried bits rests bits' rests' : List ℕ} {code why : ℕ} (d : Decided J goal chosen tried bits rests)
    (p : Propagated (FitsJoint J) bits rests bits' rests' code why) where
  pub decided_after : Decided J goal chosen tried bits' rests'
  decided_after = record {
    long_chosen = d.long_chosen;
    long_tried = d.long_tried;
    few = d.few;
    rests_on = λ ρ h x. p.kept _ ρ h (d.rests_on ρ h x);
  }

  -- with a contradiction, none meets its decisions
  pub decided_clash : code ≡ 2 → (ρ : Assignment) → FitsJoint J ρ → Extends ρ goal → Meets (met_by chosen tried ρ) why → ⊥
  decided_clash e ρ h x m = p.none e _ ρ h (d.rests_on ρ h x) m

  -- a contradiction that rests on no decision
  pub decided_refuted : code ≡ 2 → why ≡ 0 → Refuted J goal
  decided_refuted e z = record { no_such = λ ρ h x. decided_clash e ρ h x (subst (Meets (met_by chosen tried ρ)) (sym z) (meets_none _)) }

-- ---- bits open again

-- a byte put in that lets through what the one before did
rests_byte : {met : ℕ → Bool} {ρ : Assignment} {bits rests : List ℕ} (s v : ℕ) → Rests met ρ bits rests → (Meets met (get_or rests s 0) → Allows v (ρ s))
    → Rests met ρ (set bits s v) rests
rests_byte {met} {ρ} {bits} {rests} s v x a = record {
  long = length-set bits s v ∙ x.long;
  long_rests = x.long_rests;
  at = λ r k. test_case (eqb r s) (λ t. here r k (eqb_yes t)) (λ t. rw (get_or-set_other bits s r v 0 (eqb_no t)) (x.at r k));
}
  where
    here : (r : ℕ) → r < 296 → r ≡ s → Meets met (get_or rests r 0) → Allows (get_or (set bits s v) r 0) (ρ r)
    here r k e = rw (e, get_or-set_same bits s v 0 (omega (arith, x.long))) a

-- k signals looked at: each is open, or rests on nothing at the level or above
pub record Reopening (level : ℕ) (rests bits₀ : List ℕ) (k : ℕ) (bits : List ℕ) : Type 0 where
  pub kept : (met : ℕ → Bool) (ρ : Assignment) → Rests met ρ bits₀ rests → Rests met ρ bits rests
  pub low : (met : ℕ → Bool) (ρ : Assignment) → Rests met ρ bits₀ rests → (s : ℕ) → s < k
      → (2 ≤ get_or bits s 0) ⊎ (get_or rests s 0 / 2 ^ level ≡ 0)

module _ {level : ℕ} {rests bits₀ : List ℕ} where
  pub reopening_none : Reopening level rests bits₀ 0 bits₀
  reopening_none = record { kept = λ met ρ x. x; low = λ met ρ x s h. absurd (omega arith) }

  pub reopening_next : {bits : List ℕ} (k v : ℕ) → k < 296 → Reopening level rests bits₀ k bits
      → ((get_or rests k 0 / 2 ^ level ≡ 0) × (v ≡ get_or bits k 0)) ⊎ (v ≡ 2) → Reopening level rests bits₀ (k + 1) (set bits k v)
  reopening_next {bits} k v l h e = record {
    kept = λ met ρ x.
        let y = h.kept met ρ x in
        rests_byte k v y (λ m. ⊎_elim (λ p. subst (λ (n : ℕ). Allows n (ρ k)) (sym p.1) (y.at k l m)) (λ p. allows_open v (ρ k) (omega arith)) e);
    low = λ met ρ x s b.
        let y = h.kept met ρ x in
        test_case (eqb s k) (λ t. here s (eqb_yes t) y.long)
        (λ t. rw (get_or-set_other bits k s v 0 (eqb_no t)) (h.low met ρ x s (let d = eqb_no {a = s} {b = k} t in less s b d)));
  }
    where
      less : (s : ℕ) → s < k + 1 → s ≢ k → s < k
      less s b d = omega arith

      here : (s : ℕ) → s ≡ k → length bits ≡ 296 → (2 ≤ get_or (set bits k v) s 0) ⊎ (get_or rests s 0 / 2 ^ level ≡ 0)
      here s q z = rw (q, get_or-set_same bits k v 0 (omega arith)) (⊎_elim (λ p. inr p.0) (λ p. inl (omega arith)) e)

  pub reopening_all : {bits : List ℕ} (k : ℕ) → 296 ≤ k → Reopening level rests bits₀ k bits → Reopened level rests bits₀ bits
  reopening_all k l h = record { kept = h.kept; low = λ met ρ x s b. h.low met ρ x s (omega arith) }

-- ---- a decision
pub decision : {chosen tried bits rests bits' : List ℕ} (level signal bit mask : ℕ) → level < 64 → bit < 2 → mask ≡ 2 ^ level
    → Reopened level rests bits bits'
    → Decision chosen tried bits rests (set chosen level signal) (set tried level bit) (set bits' signal bit) (set rests signal mask)
decision {chosen} {tried} {bits} {rests} {bits'} level signal bit mask l b e r = record {
  decided = λ J goal d. record {
    long_chosen = length-set chosen level signal ∙ d.long_chosen;
    long_tried = length-set tried level bit ∙ d.long_tried;
    few = λ n. test_case (eqb n level) (λ t. here n (eqb_yes t) d.long_tried)
        (λ t. rw (get_or-set_other tried level n bit 0 (eqb_no t)) (d.few n));
    rests_on = λ ρ h x.
        let y = d.rests_on ρ h x in
        rests_set signal bit mask (lowered ρ y) (λ m. own ρ d.long_chosen d.long_tried (meets_one level (subst (Meets _) e m)));
  };
}
  where
    here : (n : ℕ) → n ≡ level → length tried ≡ 64 → get_or (set tried level bit) n 0 < 2
    here n q z = rw (q, get_or-set_same tried level bit 0 (omega arith)) b

    same : (ρ : Assignment) (d : ℕ) → d < level → met_by (set chosen level signal) (set tried level bit) ρ d ≡ met_by chosen tried ρ d
    same ρ d h = rw (get_or-set_other chosen level d signal 0 (λ q. omega arith), get_or-set_other tried level d bit 0 (λ q. omega arith))

    lowered : (ρ : Assignment) → Rests (met_by chosen tried ρ) ρ bits rests → Rests (met_by (set chosen level signal) (set tried level bit) ρ) ρ bits' rests
    lowered ρ y =
        let z = r.kept _ ρ y in
        record {
          long = z.long;
          long_rests = z.long_rests;
          at = λ s k m. ⊎_elim (λ o. allows_open _ (ρ s) o) (λ q. z.at s k (meets_low _ level q (same ρ) m)) (r.low _ ρ y s k);
        }

    own : (ρ : Assignment) → length chosen ≡ 64 → length tried ≡ 64 → met_by (set chosen level signal) (set tried level bit) ρ level ≡ true
        → Allows bit (ρ signal)
    own ρ p q m =
        let t : eqb bit (cond (ρ signal) 1 0) ≡ true =
        rw (get_or-set_same chosen level signal 0 (omega arith), get_or-set_same tried level bit 0 (omega arith)) at m in
        subst (λ (n : ℕ). Allows n (ρ signal)) (sym (eqb→eq bit (cond (ρ signal) 1 0) (T_is _ t))) (allows_own (ρ signal))

-- ---- the last decision turned round
pub jumped_back : {chosen tried bits rests bits' : List ℕ} (level bit mask why : ℕ) → bit ≡ cond (eqb (get_or tried level 0) 0) 1 0 → why / 2 ^ level ≡ 1
    → mask ≡ why % 2 ^ level → Reopened level rests bits bits'
    → JumpedBack chosen tried bits rests why (set bits' (get_or chosen level 0) bit) (set rests (get_or chosen level 0) mask)
jumped_back {chosen} {tried} {bits} {rests} {bits'} level bit mask why e one q r = record {
  decided = λ J goal d clash. record {
    long_chosen = d.long_chosen;
    long_tried = d.long_tried;
    few = d.few;
    rests_on = λ ρ h x. rests_set (get_or chosen level 0) bit mask (r.kept _ ρ (d.rests_on ρ h x)) (λ m.
        turned ρ (d.few level) (met_by chosen tried ρ level) refl (λ t. clash ρ h x (meets_last why level one (subst (Meets _) q m) t)));
  };
}
  where
    other : (b : Bool) (v : ℕ) → v < 2 → eqb v (cond b 1 0) ≡ false → ◌≡◌ {A = ℕ} (cond (eqb v 0) 1 0) (cond b 1 0)
    other true zero h n = refl
    other true (suc zero) h n = absurd (true≢false n)
    other false zero h n = absurd (true≢false n)
    other false (suc zero) h n = refl
    other b (suc (suc v)) h n = absurd (omega arith)

    turned : (ρ : Assignment) → get_or tried level 0 < 2 → (b : Bool) → met_by chosen tried ρ level ≡ b → (met_by chosen tried ρ level ≡ true → ⊥)
        → Allows bit (ρ (get_or chosen level 0))
    turned ρ l true t f = absurd (f t)
    turned ρ l false t f =
        subst (λ (n : ℕ). Allows n (ρ (get_or chosen level 0))) (sym (e ∙ other (ρ (get_or chosen level 0)) (get_or tried level 0) l t)) (allows_own _)

-- nothing is turned round
pub not_jumped : {chosen tried bits rests : List ℕ} {why : ℕ} → JumpedBack chosen tried bits rests why bits rests
not_jumped = record { decided = λ J goal d clash. d }

-- ---- two signals apart

-- a byte put in
extends_set : {ρ : Assignment} {bits : List ℕ} (s v : ℕ) → Extends ρ bits → Allows v (ρ s) → Extends ρ (set bits s v)
extends_set {ρ} {bits} s v x a = record {
  long = length-set bits s v ∙ x.long;
  at = λ r k. test_case (eqb r s) (λ t. here r k (eqb_yes t)) (λ t. rw (get_or-set_other bits s r v 0 (eqb_no t)) (x.at r k));
}
  where
    here : (r : ℕ) → r < 296 → r ≡ s → Allows (get_or (set bits s v) r 0) (ρ r)
    here r k e = rw (e, get_or-set_same bits s v 0 (omega (arith, x.long))) a

-- all signals open
extends_blank : (ρ : Assignment) → Extends ρ (replicate 296 2)
extends_blank ρ = record {
  long = length-replicate {A = ℕ} 296 2;
  at = λ s k. rw (get_or-replicate {A = ℕ} 296 s 2 0 k) (allows_open 2 (ρ s) (omega arith));
}

-- signals that can be apart neither way have one bit
pub never_apart : {J : Joint} {p q : ℕ} → Refuted J (apart p q 1) → Refuted J (apart p q 0) → OneBit J p q
never_apart {J} {p} {q} one other = record { same = λ ρ h. same ρ h (ρ p) refl (ρ q) refl }
  where
    put : (ρ : Assignment) (v : ℕ) → Allows v (ρ p) → Allows (1 - v) (ρ q) → Extends ρ (apart p q v)
    put ρ v a b = extends_set q (1 - v) (extends_set p v (extends_blank ρ) a) b

    same : (ρ : Assignment) → FitsJoint J ρ → (a : Bool) → ρ p ≡ a → (b : Bool) → ρ q ≡ b → a ≡ b
    same ρ h true d true e = refl
    same ρ h false d false e = refl
    same ρ h true d false e = absurd (one.no_such ρ h (put ρ 1 (rw d (allows_own true)) (rw e (allows_own false))))
    same ρ h false d true e = absurd (other.no_such ρ h (put ρ 0 (rw d (allows_own false)) (rw e (allows_own true))))
