-- What the pass over the settings knows at a setting, and how a turn keeps it. Assumes nothing.
use mathlib.Core.Path.{◌≡◌, refl, sym, ap, ◌∙◌, subst}
use mathlib.Core.Bool.{Bool, true, false, true≢false}
use Prim.Native.Nat.{ℕ, ◌+◌, ◌-◌, ◌*◌, ◌^◌, ◌≤◌, ◌<◌}
use native.Mathlib.Decide.{dec_lt}
use native.Mathlib.Omega.{arith}
use lib.Count.{ones, ones-le, ones_cat}
use lib.Dec.{T}
use borrow.Author.Count.{below_more}
use Rattle.basics.specs.Lists.{below}
use Rattle.basics.specs.ListLaws.{at_below}
use Rattle.basics.specs.TestLaws.{is_true}
use Rattle.pair_clearing.specs.HalfLaws.{SettingHalves, halved, half_few}
use Rattle.pair_witness.specs.Fewest.{Fewest}

-- `shown` is a setting of n that differs, with `least` ones
pub record Kept (agree : ℕ → Bool) (n least shown : ℕ) : Type 0 where
  pub inside : shown < n
  pub differs : agree shown ≡ false
  pub lit : ones shown ≡ least

-- the settings below `next` were passed: none of them that differs has under `least` ones; 17 says that none differs
pub record Passing (agree : ℕ → Bool) (n least shown next : ℕ) : Type 0 where
  pub low : (other : ℕ) → other < next → agree other ≡ false → least ≤ ones other
  pub kept : least ≤ 16 → Kept agree n least shown

-- the ones of a setting are those of its halves
pub half_ones : (count lows high low : ℕ) → SettingHalves count lows high low → low < 256 → ones (high * lows + low) ≡ ones high + ones low
half_ones count lows high low h l =
    let e : high * lows + low ≡ high * 256 + low = omega (arith, h.same) in
    ap ones e ∙ ones_cat 8 high low (omega arith)

-- a high half whose own ones are not fewer is passed over
pub high_ones : (count highs lows high least : ℕ) → count ≤ 16 → highs ≡ 2 ^ (count - 8) → lows ≡ 2 ^ (count - (count - 8)) → high < highs
    → least ≤ ones high → (low : ℕ) → low < lows → least ≤ ones (high * lows + low)
high_ones count highs lows high least few a b h m low l =
    let parts = half_ones count lows high low (halved count highs lows high low few a b h l) (omega (arith, l, half_few count lows b)) in
    omega (arith, m, parts)

-- what agrees does not differ
unlike : {b : Bool} {X : Type 0} → b ≡ true → b ≡ false → X
unlike a e = absurd (true≢false (sym a ∙ e))

module _ {agree : ℕ → Bool} {n : ℕ} where
  -- nothing is passed
  pub begin : {shown : ℕ} → Passing agree n 17 shown 0
  begin {shown} = record { low = λ other h e. absurd (omega (arith, h)); kept = λ h. absurd (omega (arith, h)) }

  -- the same, the settings that were passed being counted otherwise
  pub placed : {least shown next : ℕ} (other : ℕ) → next ≡ other → Passing agree n least shown next → Passing agree n least shown other
  placed {least} {shown} other e p = subst (λ (m : ℕ). Passing agree n least shown m) e p

  -- settings that are passed over, for their ones
  pub many_lit : {least shown next : ℕ} (r : ℕ) → Passing agree n least shown next → ((j : ℕ) → j < r → least ≤ ones (next + j))
      → Passing agree n least shown (next + r)
  many_lit {least} {shown} {next} r p o = record {
    low = λ other h e. elim (dec_lt other next) as (λ d. least ≤ ones other) [
      | yes b ↦ p.low other b e
      | no b ↦
          let back : next + (other - next) ≡ other = omega (arith, b) in
          rw back at (o (other - next) (omega (arith, b, h)))
    ];
    kept = p.kept;
  }

  -- one, on which the two agree
  pub agreeing : {least shown next : ℕ} → Passing agree n least shown next → agree next ≡ true → Passing agree n least shown (next + 1)
  agreeing {least} {shown} {next} p a = record {
    low = below_more (λ (t : ℕ). agree t ≡ false → least ≤ ones t) next p.low (λ e. unlike a e);
    kept = p.kept;
  }

  -- a block on which the two agree
  pub block_agreeing : {least shown next : ℕ} (r : ℕ) → Passing agree n least shown next → ((j : ℕ) → j < r → T (agree (next + j)))
      → Passing agree n least shown (next + r)
  block_agreeing {least} {shown} {next} r p a = record {
    low = λ other h e. elim (dec_lt other next) as (λ d. least ≤ ones other) [
      | yes b ↦ p.low other b e
      | no b ↦
          let back : next + (other - next) ≡ other = omega (arith, b) in
          unlike (is_true (agree other) (subst (λ (s : ℕ). T (agree s)) back (a (other - next) (omega (arith, b, h))))) e
    ];
    kept = p.kept;
  }

  -- one that is kept
  pub better : {least shown next : ℕ} → Passing agree n least shown next → next < n → ones next < least → agree next ≡ false
      → Passing agree n (ones next) next (next + 1)
  better {least} {shown} {next} p h m d = record {
    low = below_more (λ (t : ℕ). agree t ≡ false → ones next ≤ ones t) next (λ t l e. omega (arith, m, p.low t l e)) (λ e. omega arith);
    kept = λ o. record { inside = h; differs = d; lit = refl };
  }

  -- at the end the one that is kept has the fewest ones
  pub found : {least shown next : ℕ} → Passing agree n least shown next → n ≤ next → least ≤ 16 → Fewest n agree shown
  found p h o = let k = p.kept o in record {
    inside = k.inside;
    differs = k.differs;
    fewest = λ t l e. omega (arith, k.lit, p.low t (omega (arith, h, l)) e);
  }

  -- or none differs: no setting has 17 ones
  pub nothing : {least shown next : ℕ} → Passing agree n least shown next → n ≤ next → n ≤ 65536 → 16 < least → below n agree ≡ true
  nothing {least} {shown} {next} p h few o = is_true (below n agree) (at_below n agree λ s l.
      elim (agree s) as (λ b. agree s ≡ b → T b) [
        | true ↦ λ e. tt
        | false ↦ λ e. absurd (omega (arith, o, p.low s (omega (arith, h, l)) e, ones-le 16 s (omega (arith, few, l))))
      ] refl)
