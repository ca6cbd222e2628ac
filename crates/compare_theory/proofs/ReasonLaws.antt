-- Bits that rest on decisions: put in, forced by a gate's rule, and the masks that hold the ends of a sum. Assumes nothing.
use Rattle.std.specs.Prelude.{◌≡◌, refl, Bool, not, cond, ◌≢◌, ◌⊎◌, List, ℕ, zero, suc, ◌+◌, ◌≤◌, ◌<◌, T, eqb, ltb, ℤ, pos, length, get_or, set}
use Rattle.std.proofs.Common.{sym, ap, ◌∙◌, subst, inl, inr, ⊎_elim, arith, ltb→lt, nltb→le, length-set, get_or-set_same, get_or-set_other}
use Rattle.std.proofs.Math.Bool.{true, false}
use Rattle.std.proofs.Math.Decide.{dec_lt}
use Rattle.std.specs.Int.Bits.{bit_or}
use Rattle.std.specs.Int.Signed.{le_z}
use Rattle.std.proofs.Math.Facts.{eqb_yes, eqb_no}
use Rattle.basics.specs.TestLaws.{test_case}
use Rattle.network.specs.Threshold.{Assignment}
use Rattle.compare_theory.specs.Joint.{Joint, fanin, wires_of, weights_of, FitsJoint, Summable, Allows}
use Rattle.compare_theory.specs.Spans.{AtMost, least, most, least_at, most_at, least_sum, most_sum, forced, forced_bit, room_at, settled, RoomyAll}
use Rattle.compare_theory.specs.Reasons.{Meets, Rests, Counted, HoldsUp, HoldsDown, EndsOf, FitsRows, Propagated, FeedsSettled}
use Rattle.compare_theory.proofs.SpanLaws.{share_least, share_most, gate_bit}
use Rattle.compare_theory.proofs.ForceLaws.{Above, Below, allows_open, allows_one, settled_allows, settled_open, lit_by, dark_by, roomy_dark, roomy_lit}
use Rattle.compare_theory.proofs.MaskLaws.{meets_left, meets_right}

-- ---- a bit and its mask put in
pub rests_set : {met : ℕ → Bool} {ρ : Assignment} {bits rests : List ℕ} (s v m : ℕ) → Rests met ρ bits rests → (Meets met m → Allows v (ρ s))
    → Rests met ρ (set bits s v) (set rests s m)
rests_set {met} {ρ} {bits} {rests} s v m x a = record {
  long = length-set bits s v ∙ x.long;
  long_rests = length-set rests s m ∙ x.long_rests;
  at = λ r k. test_case (eqb r s) (λ t. here r k (eqb_yes t))
      (λ t. rw (get_or-set_other bits s r v 0 (eqb_no t), get_or-set_other rests s r m 0 (eqb_no t)) (x.at r k));
}
  where
    here : (r : ℕ) → r < 296 → r ≡ s → Meets met (get_or (set rests s m) r 0) → Allows (get_or (set bits s v) r 0) (ρ r)
    here r k e = rw (e, get_or-set_same bits s v 0 (omega (arith, x.long)), get_or-set_same rests s m 0 (omega (arith, x.long_rests))) a

-- ---- the masks of the two ends, feed by feed
module _ {bits rests wires : List ℕ} {weights : List ℤ} where
  pub up_none : (mask : ℕ) → HoldsUp bits rests wires weights 0 mask
  up_none mask = record { up = λ met m j l. absurd (omega arith) }

  pub down_none : (mask : ℕ) → HoldsDown bits rests wires weights 0 mask
  down_none mask = record { down = λ met m j l. absurd (omega arith) }

  pub up_next : {i mask : ℕ} (x : ℕ) → HoldsUp bits rests wires weights i mask
      → (least_at bits wires weights (1 + i) ≡ least 2 (get_or weights (1 + i) (pos 0))) ⊎ (x ≡ get_or rests (get_or wires (1 + i) 0) 0)
      → HoldsUp bits rests wires weights (i + 1) (bit_or mask x)
  up_next {i} {mask} x h e = record {
    up = λ met m j l. elim (dec_lt j i) as (λ _.
        Counted met (least_at bits wires weights (1 + j)) (least 2 (get_or weights (1 + j) (pos 0))) (get_or rests (get_or wires (1 + j) 0) 0)) [
          | yes k ↦ h.up met (meets_left mask x m) j k
          | no k ↦ rw (let q : j ≡ i = omega arith in q) (⊎_elim inl (λ r. inr (subst (Meets met) r (meets_right mask x m))) e)
        ];
  }

  pub down_next : {i mask : ℕ} (x : ℕ) → HoldsDown bits rests wires weights i mask
      → (most_at bits wires weights (1 + i) ≡ most 2 (get_or weights (1 + i) (pos 0))) ⊎ (x ≡ get_or rests (get_or wires (1 + i) 0) 0)
      → HoldsDown bits rests wires weights (i + 1) (bit_or mask x)
  down_next {i} {mask} x h e = record {
    down = λ met m j l. elim (dec_lt j i) as (λ _.
        Counted met (most_at bits wires weights (1 + j)) (most 2 (get_or weights (1 + j) (pos 0))) (get_or rests (get_or wires (1 + j) 0) 0)) [
          | yes k ↦ h.down met (meets_left mask x m) j k
          | no k ↦ rw (let q : j ≡ i = omega arith in q) (⊎_elim inl (λ r. inr (subst (Meets met) r (meets_right mask x m))) e)
        ];
  }

-- ---- the rule of the gate of two rows, by the ends of its sums
module _ {wires : List ℕ} {weights : List ℤ} {signal : ℕ} {bits rests : List ℕ} {lowest highest : ℤ} {up down : ℕ}
    (summable : Summable wires weights) (there : signal < 296) (ends : EndsOf bits rests wires weights lowest highest up down) where
  -- with the decisions met, each feed's share is above its least and below its most
  above : {met : ℕ → Bool} {ρ : Assignment} → Rests met ρ bits rests → Meets met up → Above ρ bits wires weights
  above {met} {ρ} x m i l =
      let s = get_or wires (1 + i) 0 in
      let w = get_or weights (1 + i) (pos 0) in
      ⊎_elim (λ e. subst (λ (z : ℤ). AtMost z (cond (ρ s) w (pos 0))) (sym e) (share_least 2 w (ρ s) (allows_open 2 (ρ s) (omega arith))))
      (λ h. share_least (get_or bits s 0) w (ρ s) (x.at s (summable.there i l) h)) (ends.holds_up.up met m i l)

  below : {met : ℕ → Bool} {ρ : Assignment} → Rests met ρ bits rests → Meets met down → Below ρ bits wires weights
  below {met} {ρ} x m i l =
      let s = get_or wires (1 + i) 0 in
      let w = get_or weights (1 + i) (pos 0) in
      ⊎_elim (λ e. subst (λ (z : ℤ). AtMost (cond (ρ s) w (pos 0)) z) (sym e) (share_most 2 w (ρ s) (allows_open 2 (ρ s) (omega arith))))
      (λ h. share_most (get_or bits s 0) w (ρ s) (x.at s (summable.there i l) h)) (ends.holds_down.down met m i l)

  -- the bit that the ends force rests on the mask of its end
  own_rests : {met : ℕ → Bool} {ρ : Assignment} → FitsRows wires weights signal ρ → Rests met ρ bits rests
      → Meets met (cond (eqb (forced_bit bits wires weights) 1) up down) → Allows (forced_bit bits wires weights) (ρ signal)
  unfolding forced
  own_rests {met} {ρ} h x = go (le_z (get_or weights 0 (pos 0)) (least_sum bits wires weights)) (le_z (get_or weights 0 (pos 0)) (most_sum bits wires weights))
      (λ e m. lit_by h bits (above x m) e) (λ e m. dark_by h bits (below x m) e)
    where
      go : (a b : Bool) → (T a → Meets met up → ρ signal ≡ true) → (T (not b) → Meets met down → ρ signal ≡ false)
          → Meets met (cond (eqb (cond a 1 (cond b 2 0)) 1) up down) → Allows (cond a 1 (cond b 2 0)) (ρ signal)
      go true b p q m = record { lit = λ _. p tt m; dark = λ z. absurd (omega arith) }
      go false true p q m = allows_open 2 (ρ signal) (omega arith)
      go false false p q m = record { lit = λ z. absurd (omega arith); dark = λ _. q tt m }

  -- the same of the bit and the mask as the code has them
  own_allows : {met : ℕ → Bool} {ρ : Assignment} (own why : ℕ) → own ≡ forced_bit bits wires weights → why ≡ cond (eqb own 1) up down
      → FitsRows wires weights signal ρ → Rests met ρ bits rests → Meets met why → Allows own (ρ signal)
  own_allows {met} {ρ} own why o e h x m =
      subst (λ (n : ℕ). Allows n (ρ signal)) (sym o) (own_rests h x (subst (Meets met) (e ∙ ap (λ (n : ℕ). cond (eqb n 1) up down) o) m))

  -- its bit is not the one that is forced
  pub own_clash : (own why : ℕ) → own ≡ forced_bit bits wires weights → why ≡ cond (eqb own 1) up down → own < 2 → get_or bits signal 0 < 2
      → get_or bits signal 0 ≢ own → Propagated (FitsRows wires weights signal) bits rests bits rests 2 (bit_or why (get_or rests signal 0))
  own_clash own why o e m n d = record {
    kept = λ met ρ h x. x;
    none = λ c met ρ h x w. allows_one (x.at signal there (meets_right why _ w)) (own_allows own why o e h x (meets_left why _ w)) n m d;
  }

  -- its bit is put in
  pub own_put : (own why : ℕ) → own ≡ forced_bit bits wires weights → why ≡ cond (eqb own 1) up down
      → Propagated (FitsRows wires weights signal) bits rests (set bits signal own) (set rests signal why) 1 0
  own_put own why o e = record { kept = λ met ρ h x. rests_set signal own why x (own_allows own why o e h x); none = λ c. absurd (omega arith) }

  -- its bit is known, and its feeds follow
  pub feeds_put : {bits' rests' : List ℕ} {room : ℤ} (why code : ℕ) → why ≡ cond (eqb (get_or bits signal 0) 1) down up → code ≢ 2
      → get_or bits signal 0 < 2 → room ≡ room_at bits wires weights (get_or bits signal 0)
      → FeedsSettled bits rests wires weights (get_or bits signal 0) room (bit_or why (get_or rests signal 0)) bits' rests'
      → Propagated (FitsRows wires weights signal) bits rests bits' rests' code 0
  feeds_put why code e d l r f = record {
    kept = λ met ρ h x. f.kept met ρ (λ m. rw r
        (roomy h x (get_or bits signal 0) l (x.at signal there (meets_right why _ m)) (subst (Meets met) e (meets_left why _ m)))) x;
    none = λ c. absurd (d c);
  }
    where
      roomy : {met : ℕ → Bool} {ρ : Assignment} → FitsRows wires weights signal ρ → Rests met ρ bits rests → (goal : ℕ) → goal < 2
          → Allows goal (ρ signal) → Meets met (cond (eqb goal 1) down up) → RoomyAll ρ bits wires weights goal (room_at bits wires weights goal)
      roomy h x zero l a m = roomy_dark h bits (above x m) (a.dark refl)
      roomy h x (suc zero) l a m = roomy_lit h bits (below x m) (a.lit refl)
      roomy h x (suc (suc n)) l a m = absurd (omega arith)

-- ---- the feeds, one by one

-- what holds after some feeds: bits that rest on decisions as before, and what is open was open before
pub record Settling (bits₀ rests₀ wires : List ℕ) (weights : List ℤ) (goal : ℕ) (room : ℤ) (why : ℕ) (bits rests : List ℕ) : Type 0 where
  pub kept : (met : ℕ → Bool) (ρ : Assignment) → (Meets met why → RoomyAll ρ bits₀ wires weights goal room)
      → Rests met ρ bits₀ rests₀ → Rests met ρ bits rests
  pub were_open : (met : ℕ → Bool) (ρ : Assignment) → (Meets met why → RoomyAll ρ bits₀ wires weights goal room)
      → Rests met ρ bits₀ rests₀ → (s : ℕ) → 2 ≤ get_or bits s 0 → 2 ≤ get_or bits₀ s 0

module _ {bits₀ rests₀ wires : List ℕ} {weights : List ℤ} {goal : ℕ} {room : ℤ} {why : ℕ} where
  pub settling_none : Settling bits₀ rests₀ wires weights goal room why bits₀ rests₀
  settling_none = record { kept = λ met ρ r x. x; were_open = λ met ρ r x s h. h }

  -- feed i settled
  pub settling_next : {bits rests : List ℕ} (i : ℕ) → i < fanin wires → goal < 2 → get_or wires (1 + i) 0 < 296
      → Settling bits₀ rests₀ wires weights goal room why bits rests
      → Settling bits₀ rests₀ wires weights goal room why
      (set bits (get_or wires (1 + i) 0) (settled (get_or bits (get_or wires (1 + i) 0) 0) (get_or weights (1 + i) (pos 0)) goal room))
      (set rests (get_or wires (1 + i) 0) (cond (ltb (get_or bits (get_or wires (1 + i) 0) 0) 2) (get_or rests (get_or wires (1 + i) 0) 0) why))
  settling_next {bits} {rests} i k l there f = record {
    kept = λ met ρ r x.
        let y = f.kept met ρ r x in
        rests_set s v m y (allowed met ρ r y (f.were_open met ρ r x s) (ltb known 2) (λ t. ltb→lt known 2 t) (λ t. nltb→le known 2 t));
    were_open = λ met ρ r x t h.
        let y = f.kept met ρ r x in
        f.were_open met ρ r x t (test_case (eqb t s) (λ e. here t h (eqb_yes e) y.long) (λ e. rw (get_or-set_other bits s t v 0 (eqb_no e)) at h));
  }
    where
      s : ℕ
      s = get_or wires (1 + i) 0

      w : ℤ
      w = get_or weights (1 + i) (pos 0)

      known : ℕ
      known = get_or bits s 0

      v : ℕ
      v = settled known w goal room

      m : ℕ
      m = cond (ltb known 2) (get_or rests s 0) why

      here : (t : ℕ) → 2 ≤ get_or (set bits s v) t 0 → t ≡ s → length bits ≡ 296 → 2 ≤ get_or bits t 0
      here t h e l = rw e (settled_open _ goal w room (rw (e, get_or-set_same bits s v 0 (omega arith)) at h))

      allowed : (met : ℕ → Bool) (ρ : Assignment) → (Meets met why → RoomyAll ρ bits₀ wires weights goal room) → Rests met ρ bits rests
          → (2 ≤ known → 2 ≤ get_or bits₀ s 0) → (b : Bool) → (T b → known < 2) → (T (not b) → 2 ≤ known)
          → Meets met (cond b (get_or rests s 0) why) → Allows v (ρ s)
      allowed met ρ r y were true low free mm = settled_allows known goal w room (ρ s) l (y.at s there mm) (λ h. absurd (omega (arith, low tt)))
      allowed met ρ r y were false low free mm =
          settled_allows known goal w room (ρ s) l (allows_open known (ρ s) (free tt)) (λ h. (r mm).each i k (were h))

-- ---- rules that follow one another
module _ {Fits : Assignment → Type 0} {bits rests : List ℕ} where
  -- nothing changes, and nothing is claimed
  pub unmoved : (code why : ℕ) → code ≢ 2 → Propagated Fits bits rests bits rests code why
  unmoved code why d = record { kept = λ met ρ h x. x; none = λ e. absurd (d e) }

  -- the code and the decisions are those of the second
  pub then : {bits' rests' bits'' rests'' : List ℕ} {m n w v : ℕ} → Propagated Fits bits rests bits' rests' m w
      → Propagated Fits bits' rests' bits'' rests'' n v → Propagated Fits bits rests bits'' rests'' n v
  then p q = record {
    kept = λ met ρ h x. q.kept met ρ h (p.kept met ρ h x);
    none = λ e met ρ h x. q.none e met ρ h (p.kept met ρ h x);
  }

  -- another code, which claims nothing
  pub unclaimed : {bits' rests' : List ℕ} {m w : ℕ} (n v : ℕ) → n ≢ 2 → Propagated Fits bits rests bits' rests' m w
      → Propagated Fits bits rests bits' rests' n v
  unclaimed n v d p = record { kept = p.kept; none = λ e. absurd (d e) }

-- the rule of a gate's rows is one of the joint
pub of_gate : {J : Joint} {g code why : ℕ} {bits rests bits' rests' : List ℕ} → g < J.gates
    → Propagated (FitsRows (wires_of J g) (weights_of J g) (J.inputs + g)) bits rests bits' rests' code why
    → Propagated (FitsJoint J) bits rests bits' rests' code why
of_gate {J} {g} k p = record {
  kept = λ met ρ h x. p.kept met ρ (fits ρ h) x;
  none = λ e met ρ h x. p.none e met ρ (fits ρ h) x;
}
  where
    fits : (ρ : Assignment) → FitsJoint J ρ → FitsRows (wires_of J g) (weights_of J g) (J.inputs + g) ρ
    fits ρ h = record { own_bit = gate_bit J ρ h g k }
