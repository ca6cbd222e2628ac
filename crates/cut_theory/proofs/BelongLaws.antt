-- The marks are those of the cut: a gate is marked exactly when the output names it or a gate of the cut reads it. Assumes nothing.
use Rattle.std.specs.Prelude.{◌≡◌, refl, Bool, true, false, not, ◌&&◌, List, [], ◌∷◌, ◌↔◌, ℕ, zero, suc, ◌+◌, ◌-◌, ◌<◌, T, eqb, length, get_or}
use Rattle.std.proofs.Common.{sym, ap, ◌∙◌, subst, arith, eqb→eq}
use Rattle.std.proofs.Math.Dec.{eqb_refl}
use Rattle.basics.specs.Lists.{all}
use Rattle.basics.specs.TestLaws.{or_T, T_or, or_case}
use Rattle.network.specs.Threshold.{Gate, Net}
use Rattle.network.specs.Record.{no_gate}
use Rattle.network.specs.Changes.{gate_at}
use Rattle.network.specs.Sound.{Has, Sound}
use Rattle.network.specs.LimitLaws.{has_of, of_has, gate_ok_lem}
use Rattle.fold_theory.specs.Merge.{silent, reads}
use Rattle.fold_theory.proofs.SoundLaws.{reader_above}
use Rattle.cut_theory.specs.Cut.{Reached, start, next, InCut, picked, added, belongs, cut_marks}

-- what is reached from what is reached is reached
pub reached_on : {Step : ℕ → ℕ → Type 0} {a b s : ℕ} → Reached Step a b → Reached Step b s → Reached Step a s
reached_on {Step} {a} {b} p (start e) = subst (Reached Step a) (sym e) p
reached_on p (next q r) = next (reached_on p q) r

-- ---- some picked gate reads s
not_and_case : {X : Type 0} (a b : Bool) → T (not (a && b)) → (T (not a) → X) → (T (not b) → X) → X
not_and_case true b t f g = g t
not_and_case false b t f g = f tt

not_left : (a b : Bool) → T (not a) → T (not (a && b))
not_left true b t = absurd t
not_left false b t = tt

pub not_right : (a b : Bool) → T (not b) → T (not (a && b))
not_right true b t = t
not_right false b t = tt

-- gate j is marked and reads s
record MarkedReader (s : ℕ) (marks : List Bool) (gs : List Gate) : Type 0 where
  number : ℕ
  inside : number < length gs
  marked : T (get_or marks number false)
  reading : T (reads s (get_or gs number no_gate))

later : {s : ℕ} {m : Bool} {marks : List Bool} {g : Gate} {gs : List Gate} → MarkedReader s marks gs → MarkedReader s (m ∷ marks) (g ∷ gs)
later r = record { number = suc r.number; inside = omega (arith, r.inside); marked = r.marked; reading = r.reading }

some_reader : (s : ℕ) (marks : List Bool) (gs : List Gate) → T (not (all (silent s) (picked marks gs))) → MarkedReader s marks gs
unfolding picked all reads
some_reader s [] gs t = absurd t
some_reader s (m ∷ marks) [] t = absurd t
some_reader s (true ∷ marks) (g ∷ gs) t = not_and_case (silent s g) (all (silent s) (picked marks gs)) t
    (λ a. record { number = 0; inside = omega arith; marked = tt; reading = a }) (λ b. later (some_reader s marks gs b))
some_reader s (false ∷ marks) (g ∷ gs) t = later (some_reader s marks gs t)

reader_some : (s : ℕ) (marks : List Bool) (gs : List Gate) (j : ℕ) → j < length gs → T (get_or marks j false) → T (reads s (get_or gs j no_gate))
    → T (not (all (silent s) (picked marks gs)))
unfolding picked all reads
reader_some s [] gs j h m r = absurd m
reader_some s (m ∷ marks) [] j h k r = absurd (omega arith)
reader_some s (true ∷ marks) (g ∷ gs) zero h m r = not_left (silent s g) (all (silent s) (picked marks gs)) r
reader_some s (true ∷ marks) (g ∷ gs) (suc j) h m r = not_right (silent s g) (all (silent s) (picked marks gs)) (reader_some s marks gs j (omega arith) m r)
reader_some s (false ∷ marks) (g ∷ gs) zero h m r = absurd m
reader_some s (false ∷ marks) (g ∷ gs) (suc j) h m r = reader_some s marks gs j (omega arith) m r

-- ---- the marks, gate by gate
pub length_belongs : (d n : ℕ) (gs : List Gate) → length (belongs d n gs) ≡ length gs
unfolding belongs added
length_belongs d n [] = refl
length_belongs d n (g ∷ gs) = ap suc (length_belongs d (suc n) gs)

-- the gate that the output names is marked
pub named_belongs : (d n : ℕ) (gs : List Gate) (i : ℕ) → i < length gs → n + i ≡ d → T (get_or (belongs d n gs) i false)
unfolding belongs added
named_belongs d n [] i h e = absurd (omega arith)
named_belongs d n (g ∷ gs) zero h e =
    let same : d ≡ n = omega arith in
    subst (λ (x : ℕ). T (get_or (belongs x n (g ∷ gs)) 0 false)) (sym same)
    (T_or (eqb n n) (not (all (silent n) (picked (belongs n (suc n) gs) gs))) (eqb_refl n))
named_belongs d n (g ∷ gs) (suc i) h e = named_belongs d (suc n) gs i (omega arith) (omega arith)

-- a gate that a marked gate after it reads is marked
pub read_belongs : (d n : ℕ) (gs : List Gate) (i j : ℕ) → i < j → j < length gs → T (get_or (belongs d n gs) j false)
    → T (reads (n + i) (get_or gs j no_gate)) → T (get_or (belongs d n gs) i false)
unfolding belongs added
read_belongs d n [] i j l h m r = absurd (omega arith)
read_belongs d n (g ∷ gs) zero zero l h m r = absurd (omega arith)
read_belongs d n (g ∷ gs) zero (suc j) l h m r =
    let e : n + 0 ≡ n = omega arith in
    or_T (eqb n d) (not (all (silent n) (picked (belongs d (suc n) gs) gs)))
    (reader_some n (belongs d (suc n) gs) gs j (omega arith) m (subst (λ (k : ℕ). T (reads k (get_or gs j no_gate))) e r))
read_belongs d n (g ∷ gs) (suc i) zero l h m r = absurd (omega arith)
read_belongs d n (g ∷ gs) (suc i) (suc j) l h m r =
    let e : n + suc i ≡ suc n + i = omega arith in
    read_belongs d (suc n) gs i j (omega arith) (omega arith) m (subst (λ (k : ℕ). T (reads k (get_or gs j no_gate))) e r)

-- gs are the gates of N from signal n on
record GatesFromSignal (N : Net) (n : ℕ) (gs : List Gate) : Type 0 where
  same : (j : ℕ) → j < length gs → get_or gs j no_gate ≡ gate_at N (n + j)
  gates : (j : ℕ) → j < length gs → Has N (n + j)

suffix_tail : (N : Net) (n : ℕ) (g : Gate) (gs : List Gate) → GatesFromSignal N n (g ∷ gs) → GatesFromSignal N (suc n) gs
suffix_tail N n g gs s = record {
  same = λ j h. s.same (suc j) (omega arith) ∙ ap (gate_at N) (let e : n + suc j ≡ suc n + j = omega arith in e);
  gates = λ j h. omega (arith, s.gates (suc j) (omega arith));
}

-- a marked gate belongs to the cut
belongs_cut : (N : Net) (d n : ℕ) (gs : List Gate) → GatesFromSignal N n gs → (i : ℕ) → i < length gs → T (get_or (belongs d n gs) i false) → InCut N d (n + i)
unfolding belongs added
belongs_cut N d n [] s i h t = absurd (omega arith)
belongs_cut N d n (g ∷ gs) s zero h t = or_case (eqb n d) (not (all (silent n) (picked (belongs d (suc n) gs) gs))) t
    (λ a. start (let e = eqb→eq n d a in omega (arith, e)))
    (λ b.
    let r = some_reader n (belongs d (suc n) gs) gs b in
    let later = suffix_tail N n g gs s in
    let e : n ≡ n + 0 = omega arith in
    next (belongs_cut N d (suc n) gs later r.number r.inside r.marked) (record {
      read = subst (λ (k : ℕ). T (reads k (gate_at N (suc n + r.number)))) e
          (subst (λ (x : Gate). T (reads n x)) (later.same r.number r.inside) r.reading);
      gate = of_has N (n + 0) (s.gates 0 (omega arith));
    }))
belongs_cut N d n (g ∷ gs) s (suc i) h t =
    subst (InCut N d) (let e : suc n + i ≡ n + suc i = omega arith in e) (belongs_cut N d (suc n) gs (suffix_tail N n g gs s) i (omega arith) t)

suffix_whole : (N : Net) → GatesFromSignal N N.inputs N.gates
unfolding gate_at
suffix_whole N = record {
  same = λ j h. ap (λ (k : ℕ). get_or N.gates k no_gate) (let e : j ≡ N.inputs + j - N.inputs = omega arith in e);
  gates = λ j h. omega arith;
}

-- ---- exactly the cut
pub cut_belongs : (N : Net) (d : ℕ) → Sound N → Has N d → (s : ℕ) → InCut N d s → Has N s × T (get_or (belongs d N.inputs N.gates) (s - N.inputs) false)
unfolding gate_at
cut_belongs N d o h s (start e) = (omega arith, named_belongs d N.inputs N.gates (s - N.inputs) (omega arith) (omega arith))
cut_belongs N d o h s (next {v} p b) =
    let k = cut_belongs N d o h v p in
    let above = reader_above s v (gate_at N v) (gate_ok_lem N v o k.0) b.read in
    let low = has_of N s b.gate in
    let e : s ≡ N.inputs + (s - N.inputs) = omega arith in
    let read = subst (λ (x : ℕ). T (reads x (gate_at N v))) e b.read in
    (low, read_belongs d N.inputs N.gates (s - N.inputs) (v - N.inputs) (omega (arith, k.0)) (omega (arith, k.0)) k.1 read)

pub belongs_exact : (N : Net) (d : ℕ) → Sound N → Has N d → (g : ℕ) → g < length N.gates → T (get_or (cut_marks N d) g false) ↔ InCut N d (N.inputs + g)
unfolding cut_marks
belongs_exact N d o h g l = (
  belongs_cut N d N.inputs N.gates (suffix_whole N) g l,
  λ p.
      let e : N.inputs + g - N.inputs ≡ g = omega arith in
      subst (λ (k : ℕ). T (get_or (belongs d N.inputs N.gates) k false)) e (cut_belongs N d o h (N.inputs + g) p).1,
)
