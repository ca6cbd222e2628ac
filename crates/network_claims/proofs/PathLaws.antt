-- The levels of a sound network are its longest path. Assumes nothing.
use Rattle.std.specs.Prelude.{◌≡◌, Bool, cond, ◌≢◌, ◌⊎◌, T}
use Rattle.std.proofs.Math.Path.{refl, ap, subst}
use Rattle.std.proofs.Common.{sym, ◌∙◌, inl, inr, eq-eqb, ne_eqb, eqb-true}
use Rattle.std.proofs.Math.Bool.{true, false}
use mathlib.Core.List.{List, [], ◌∷◌}
use Prim.Native.Nat.{ℕ, zero, suc, ◌+◌, ◌-◌, ◌≤◌, ◌<◌, max}
use Rattle.std.proofs.Math.Decide.{dec_lt}
use native.Mathlib.Omega.{arith}
use Rattle.std.proofs.Math.Dec.{eqb}
use Rattle.std.proofs.Math.ListN.{length, get_or}
use Rattle.basics.specs.Lists.{Each}
use Rattle.network.specs.Threshold.{Feed, Gate, Net}
use Rattle.network.specs.Limits.{signals_of, is_gate}
use Rattle.network.specs.Changes.{gate_at}
use Rattle.network.specs.Record.{no_gate}
use Rattle.network.specs.Sound.{Rise, GateOk, Has, Sound}
use Rattle.network.specs.LimitLaws.{has_of, of_has, gate_ok_lem}
use Rattle.network_levels.specs.Levels.{highest, level_above, gate_level, with_level, levels_from}
use Rattle.network_report.specs.Size.{levels}
use Rattle.network_claims.specs.Sizes.{Feeds, Path, LongestPath}

-- ---- feeds

-- a feed's signal is below its gate
below_own : (low own : ℕ) (fs : List Feed) → Rise low own (signals_of fs) → (s : ℕ) → Feeds s fs → s < own
unfolding signals_of
below_own low own [] h s k = absurd k
below_own low own (f ∷ fs) h s (inl e) = omega (arith, h.1)
below_own low own (f ∷ fs) h s (inr k) = below_own (suc f.signal) own fs h.2 s k

-- no feed has a level above the highest
max_left : (a b : ℕ) → a ≤ max a b
max_left a b = omega arith

max_right : (a b : ℕ) → b ≤ max a b
max_right a b = omega arith

highest_bounds : (lv : ℕ → ℕ) (fs : List Feed) (s : ℕ) → Feeds s fs → lv s ≤ highest lv fs
unfolding highest
highest_bounds lv [] s k = absurd k
highest_bounds lv (f ∷ fs) s (inl e) = subst (λ (x : ℕ). lv x ≤ max (lv f.signal) (highest lv fs)) e (max_left (lv f.signal) (highest lv fs))
highest_bounds lv (f ∷ fs) s (inr k) = let h = highest_bounds lv fs s k in let m = max_right (lv f.signal) (highest lv fs) in omega arith

-- and one of them has it
record Highest (lv : ℕ → ℕ) (fs : List Feed) (h : ℕ) : Type 0 where
  at : ℕ
  is_feed : Feeds at fs
  level : lv at ≡ h

max_case : (X : ℕ → Type 0) (a b : ℕ) → X a → X b → X (max a b)
max_case X a b x y = elim (dec_lt a b) as (λ d. X (max a b)) [
  | yes k ↦ subst X (let e : b ≡ max a b = omega arith in e) y
  | no k ↦ subst X (let e : a ≡ max a b = omega arith in e) x
]

highest_at : (lv : ℕ → ℕ) (f : Feed) (fs : List Feed) → Highest lv (f ∷ fs) (highest lv (f ∷ fs))
unfolding highest
highest_at lv f [] = record { at = f.signal; is_feed = inl refl; level = let e : lv f.signal ≡ max (lv f.signal) 0 = omega arith in e }
highest_at lv f (g ∷ gs) =
    let r = highest_at lv g gs in
    max_case (Highest lv (f ∷ g ∷ gs)) (lv f.signal) (highest lv (g ∷ gs))
    (record { at = f.signal; is_feed = inl refl; level = refl })
    (record { at = r.at; is_feed = inr r.is_feed; level = r.level })

module _ (N : Net) (t : Sound N) where
  -- levels that are those of paths, of the signals below n
  record Right (n : ℕ) (lv : ℕ → ℕ) : Type 0 where
    path : (s : ℕ) → Path N s (lv s)
    top : (s m : ℕ) → s < n → Path N s m → m ≤ lv s

  -- the gate with signal n
  module _ (n : ℕ) (has : Has N n) (lv : ℕ → ℕ) (r : Right n lv) where
    path_by : (fs : List Feed) → fs ≡ (gate_at N n).feeds → Path N n (level_above lv fs)
    unfolding level_above
    path_by [] e = tt
    path_by (f ∷ fs) e =
        let h = highest_at lv f fs in
        (of_has N n has, (h.at, subst (Feeds h.at) e h.is_feed, subst (Path N h.at) h.level (r.path h.at)))

    top_by : (fs : List Feed) → fs ≡ (gate_at N n).feeds → (m : ℕ) → Path N n m → m ≤ level_above lv fs
    unfolding level_above
    top_by fs e zero p = omega arith
    top_by [] e (suc m) p = absurd (subst (Feeds p.1.0) (sym e) p.1.1)
    top_by (f ∷ fs) e (suc m) p =
        let s = p.1.0 in
        let b = below_own 0 n (gate_at N n).feeds (gate_ok_lem N n t has).rise s p.1.1 in
        let l = r.top s m b p.1.2 in
        let k = highest_bounds lv (f ∷ fs) s (subst (Feeds s) (sym e) p.1.1) in
        omega arith

    abbrev own : ℕ
    own = gate_level lv (gate_at N n)

    own_path : Path N n own
    unfolding gate_level
    own_path = path_by (gate_at N n).feeds refl

    own_top : (m : ℕ) → Path N n m → m ≤ own
    unfolding gate_level
    own_top = top_by (gate_at N n).feeds refl

    level_here : (h : ℕ) → with_level lv n h n ≡ h
    unfolding with_level
    level_here h = rw (eq-eqb n n refl)

    level_other : (h s : ℕ) → s ≢ n → with_level lv n h s ≡ lv s
    unfolding with_level
    level_other h s k = rw (ne_eqb s n k)

    next_path : (s : ℕ) → Path N s (with_level lv n own s)
    unfolding with_level
    next_path s = elim (eqb s n) as (λ b. eqb s n ≡ b → Path N s (cond b own (lv s))) [
      | true ↦ λ e. subst (λ (x : ℕ). Path N x own) (sym (eqb-true s n e)) own_path
      | false ↦ λ e. r.path s
    ] refl

    next_top : (s m : ℕ) → s < suc n → Path N s m → m ≤ with_level lv n own s
    next_top s m h p = elim (dec_lt s n) as (λ d. m ≤ with_level lv n own s) [
      | yes k ↦ subst (λ (x : ℕ). m ≤ x) (sym (level_other own s (λ e. omega arith))) (r.top s m k p)
      | no k ↦
          let e : s ≡ n = omega arith in
          subst (λ (x : ℕ). m ≤ with_level lv n own x) (sym e)
          (subst (λ (x : ℕ). m ≤ x) (sym (level_here own)) (own_top m (subst (λ (x : ℕ). Path N x m) e p)))
    ]

    next : Right (suc n) (with_level lv n own)
    next = record { path = next_path; top = next_top }

  -- the gates from n on
  record Over (n count h : ℕ) : Type 0 where
    some : (s : ℕ) × Path N s h
    none : (s m : ℕ) → n ≤ s → s < n + count → Path N s m → m ≤ h

  over : (n : ℕ) (gs : List Gate) (lv : ℕ → ℕ) → N.inputs ≤ n → n + length gs ≡ N.inputs + length N.gates
      → ((j : ℕ) → j < length gs → gate_at N (n + j) ≡ get_or gs j no_gate) → Right n lv → Over n (length gs) (levels_from n gs lv)
  unfolding levels_from
  over n [] lv low e at r = record { some = (0, tt); none = λ s m a b p. absurd (omega arith) }
  over n (g ∷ gs) lv low e at r =
      let has : Has N n = (low, omega arith) in
      let z : n + 0 ≡ n = omega arith in
      let here : gate_at N n ≡ g = ap (gate_at N) (sym z) ∙ at 0 (omega arith) in
      let h = gate_level lv g in
      let same : gate_level lv (gate_at N n) ≡ h = ap (gate_level lv) here in
      let path : Path N n h = subst (Path N n) same (own_path n has lv r) in
      let top : (m : ℕ) → Path N n m → m ≤ h = λ m p. subst (λ (x : ℕ). m ≤ x) same (own_top n has lv r m p) in
      let next' : Right (suc n) (with_level lv n h) = subst (λ (x : ℕ). Right (suc n) (with_level lv n x)) same (next n has lv r) in
      let at' : (j : ℕ) → j < length gs → gate_at N (suc n + j) ≡ get_or gs j no_gate = λ j k.
      let y : suc n + j ≡ n + suc j = omega arith in ap (gate_at N) y ∙ at (suc j) (omega arith) in
      let o = over (suc n) gs (with_level lv n h) (omega arith) (omega arith) at' next' in
      let l = levels_from (suc n) gs (with_level lv n h) in
      record {
        some = max_case (λ x. (s : ℕ) × Path N s x) h l (n, path) o.some;
        none = λ s m a b p. elim (dec_lt n s) as (λ d. m ≤ max h l) [
          | yes k ↦ let q = o.none s m (omega arith) (omega arith) p in let y = max_right h l in omega arith
          | no k ↦
              let y : s ≡ n = omega arith in
              let q = top m (subst (λ (x : ℕ). Path N x m) y p) in let w = max_left h l in omega arith
        ];
      }

  inputs_right : Right N.inputs (λ s. 0)
  inputs_right = record { path = λ s. tt; top = go }
    where
      go : (s m : ℕ) → s < N.inputs → Path N s m → m ≤ 0
      go s zero h p = omega arith
      go s (suc m) h p = let has = has_of N s p.0 in absurd (omega (arith, has))

  pub longest : LongestPath N (levels N)
  unfolding levels gate_at
  longest =
      let at : (j : ℕ) → j < length N.gates → gate_at N (N.inputs + j) ≡ get_or N.gates j no_gate = λ j k.
      let y : N.inputs + j - N.inputs ≡ j = omega arith in ap (λ (i : ℕ). get_or N.gates i no_gate) y in
      let o = over N.inputs N.gates (λ s. 0) (omega arith) refl at inputs_right in
      record { some = o.some; none_longer = none o }
    where
      none : Over N.inputs (length N.gates) (levels_from N.inputs N.gates (λ s. 0)) → (s n : ℕ) → Path N s n
          → n ≤ levels_from N.inputs N.gates (λ s. 0)
      none o s zero p = omega arith
      none o s (suc n) p = let has = has_of N s p.0 in o.none s (suc n) has.0 has.1 p
