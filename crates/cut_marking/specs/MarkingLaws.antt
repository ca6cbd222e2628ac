-- What a call of the marking leaves, step by step: a gate that is marked already, a gate entered, an input's feed passed over, a gate's
-- feed gone into. Assumes nothing.
use Rattle.std.specs.Prelude.{◌≡◌, refl, Bool, true, false, List, ◌⊎◌, ℕ, ◌+◌, ◌*◌, ◌≤◌, ◌<◌, get_or, set, length, replicate}
use Rattle.std.proofs.Common.{sym, ap, ◌∙◌, subst, inl, inr, arith, get_or-set_same, get_or-set_other}
use Rattle.std.proofs.Math.Decide.{dec_lt, ℕ_discrete}
use Rattle.basics.specs.ListLaws.{get_or_spare}
use Rattle.cut_theory.specs.Cut.{Reached, start, next}
use Rattle.cut_theory.proofs.BelongLaws.{reached_on}
use Rattle.cut_marking.specs.Marking.{IsMarked, Wired, BehindFeed, Closed, Grown, GateMarked, FeedsMarked, Needed}

-- a mark more
set_on : (marks : List Bool) (g h : ℕ) → g < length marks → IsMarked marks h → IsMarked (set marks g true) h
set_on marks g h l p = elim (ℕ_discrete h g) as (λ d. IsMarked (set marks g true) h) [
  | yes e ↦ ap (λ (n : ℕ). get_or (set marks g true) n false) e ∙ get_or-set_same marks g true false l
  | no n ↦ get_or-set_other marks g h true false n ∙ p
]

-- no mark in a blank list
blank_off : {X : Type 0} (n g : ℕ) → IsMarked (replicate n false) g → X
blank_off n g o = let e : ◌≡◌ {A = ℕ} 0 1 = cc (get_or_spare n g false) in absurd (omega arith)

module _ {fanins signals : List ℕ} {inputs : ℕ} where
  -- fewer gates
  pub wired_less : {top : ℕ} (low : ℕ) → low ≤ top → Wired fanins signals inputs top → Wired fanins signals inputs low
  wired_less low l w = record { few_feeds = λ g h. w.few_feeds g (omega arith); feeds_below = λ g i h k. w.feeds_below g i (omega arith) k }

  pub closed_less : {top : ℕ} {marks : List Bool} (low : ℕ) → low ≤ top → Closed fanins signals inputs top marks → Closed fanins signals inputs low marks
  closed_less low l c = record { all_feeds = λ g h k. c.all_feeds g h (omega arith) }

  -- ---- marks that grow
  grown_none : (g : ℕ) (marks : List Bool) → Grown fanins signals inputs g marks marks
  grown_none g marks = record { kept = λ h p. p; only = λ h p. inl p }

  grown_then : {g : ℕ} {a b c : List Bool} → Grown fanins signals inputs g a b → Grown fanins signals inputs g b c → Grown fanins signals inputs g a c
  grown_then p q = record {
    kept = λ h o. q.kept h (p.kept h o);
    only = λ h o. elim (q.only h o) [ inl x ↦ p.only h x | inr x ↦ inr x ];
  }

  -- what a gate behind a feed of g needs, g needs
  grown_behind : {g k : ℕ} {a b : List Bool} → BehindFeed fanins signals inputs g k → Grown fanins signals inputs k a b → Grown fanins signals inputs g a b
  grown_behind f p = record {
    kept = p.kept;
    only = λ h o. elim (p.only h o) [ inl x ↦ inl x | inr x ↦ inr (reached_on (next (start refl) f) x) ];
  }

  -- ---- a gate
  -- gate g gets its mark before its feeds are gone into
  pub closed_entered : (g : ℕ) (marks : List Bool) → g < length marks → Closed fanins signals inputs (g + 1) marks
      → Closed fanins signals inputs g (set marks g true)
  closed_entered g marks l c = record {
    all_feeds = λ v h k o b. set_on marks g h l (c.all_feeds v h (omega arith) (sym (get_or-set_other marks g v true false (λ e. omega arith)) ∙ o) b);
  }

  entered_grown : (g : ℕ) (marks : List Bool) → g < length marks → Grown fanins signals inputs g marks (set marks g true)
  entered_grown g marks l = record {
    kept = λ h. set_on marks g h l;
    only = λ h o. elim (ℕ_discrete h g) as (λ d. IsMarked marks h ⊎ Reached (BehindFeed fanins signals inputs) g h) [
      | yes e ↦ inr (start e)
      | no n ↦ inl (sym (get_or-set_other marks g h true false n) ∙ o)
    ];
  }

  pub gate_marked : (g : ℕ) (marks after : List Bool) → g < length marks → FeedsMarked fanins signals inputs g 0 (set marks g true) after
      → GateMarked fanins signals inputs g marks after
  gate_marked g marks after l f = record {
    grown = grown_then (entered_grown g marks l) f.grown;
    here = f.above g (omega arith) ∙ get_or-set_same marks g true false l;
    closed = record {
      all_feeds = λ v h k o b. elim (ℕ_discrete v g) as (λ d. IsMarked after h) [
        | yes e ↦ let b' = subst (λ (n : ℕ). BehindFeed fanins signals inputs n h) e b in f.here h b' (omega arith)
        | no n ↦ f.closed.all_feeds v h (omega arith) o b
      ];
    };
    above = λ h k. f.above h (omega arith) ∙ get_or-set_other marks g h true false (λ e. omega arith);
  }

  -- ---- a gate's feeds, the highest first
  pub no_feeds : (g i : ℕ) (marks : List Bool) → get_or fanins g 0 ≤ i → Closed fanins signals inputs g marks → FeedsMarked fanins signals inputs g i marks marks
  no_feeds g i marks e c = record {
    grown = grown_none g marks;
    here = λ h b l. let u = b.used in absurd (omega arith);
    closed = c;
    above = λ h l. refl;
  }

  -- the next feed is an input
  pub input_passed : {g i j : ℕ} {marks after : List Bool} → i ≡ j + 1 → get_or signals (16 * g + j) 0 < inputs
      → FeedsMarked fanins signals inputs g i marks after → FeedsMarked fanins signals inputs g j marks after
  input_passed {g} {i} {j} {marks} {after} e s f = record {
    grown = f.grown;
    here = λ h b l. elim (ℕ_discrete b.feed j) as (λ d. IsMarked after h) [
      | yes x ↦ let y = ap (λ (n : ℕ). get_or signals (16 * g + n) 0) (sym x) ∙ b.there in absurd (omega arith)
      | no n ↦ f.here h b (omega arith)
    ];
    closed = f.closed;
    above = f.above;
  }

  -- the next feed is gate k's: what is marked for k keeps the lower gates closed
  closed_after : {g k : ℕ} {mid after : List Bool} → k < g → Closed fanins signals inputs g mid → GateMarked fanins signals inputs k mid after
      → Closed fanins signals inputs g after
  closed_after {g} {k} {mid} {after} l c m = record {
    all_feeds = λ v h j o b. elim (dec_lt k v) as (λ d. IsMarked after h) [
      | yes x ↦ m.grown.kept h (c.all_feeds v h j (sym (m.above v x) ∙ o) b)
      | no x ↦ m.closed.all_feeds v h (omega arith) o b
    ];
  }

  pub gate_entered : {g k i j : ℕ} {marks mid after : List Bool} → i ≡ j + 1 → j < get_or fanins g 0 → get_or signals (16 * g + j) 0 ≡ inputs + k → k < g
      → FeedsMarked fanins signals inputs g i marks mid → GateMarked fanins signals inputs k mid after → FeedsMarked fanins signals inputs g j marks after
  gate_entered {g} {k} {i} {j} {marks} {mid} {after} e u s l f m = record {
    grown = grown_then f.grown (grown_behind (record { feed = j; used = u; there = s }) m.grown);
    here = λ h b q. elim (ℕ_discrete b.feed j) as (λ d. IsMarked after h) [
      | yes x ↦
          let y = ap (λ (n : ℕ). get_or signals (16 * g + n) 0) (sym x) ∙ b.there in
          let same : k ≡ h = omega (arith, y) in
          subst (IsMarked after) same m.here
      | no n ↦ m.grown.kept h (f.here h b (omega arith))
    ];
    closed = closed_after l f.closed m;
    above = λ h q. m.above h (omega arith) ∙ f.above h q;
  }

  -- ---- all that a gate needs
  closed_reached : {g : ℕ} {marks : List Bool} → Wired fanins signals inputs (g + 1) → Closed fanins signals inputs (g + 1) marks → IsMarked marks g
      → (h : ℕ) → Reached (BehindFeed fanins signals inputs) g h → (h ≤ g) × IsMarked marks h
  closed_reached {g} {marks} w c o h (start e) = (omega arith, subst (IsMarked marks) (sym e) o)
  closed_reached {g} {marks} w c o h (next {v} p b) =
      let i = closed_reached w c o v p in (
        let y = w.feeds_below v b.feed (omega (arith, i.0)) b.used in omega (arith, y, b.there, i.0),
        c.all_feeds v h (omega (arith, i.0)) i.1 b,
      )

  -- at first no gate is marked
  pub closed_blank : (top n : ℕ) → Closed fanins signals inputs top (replicate n false)
  closed_blank top n = record { all_feeds = λ g h k o b. blank_off n g o }

  pub needed_marked : {g : ℕ} (n : ℕ) {after : List Bool} → Wired fanins signals inputs (g + 1)
      → GateMarked fanins signals inputs g (replicate n false) after → Needed fanins signals inputs g after
  needed_marked {g} n {after} w m = record {
    exact = λ h. ((λ o. elim (m.grown.only h o) [ inl x ↦ blank_off n h x | inr x ↦ x ]), λ p. (closed_reached w m.closed m.here h p).1);
  }
