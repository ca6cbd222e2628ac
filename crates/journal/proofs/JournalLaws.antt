-- A journal and the list of steps that it stands for: no steps, a step entered, the newest taken out, the steps read back. Assumes nothing.
use Rattle.std.specs.Prelude.{◌≡◌, refl, cond, List, [], ◌∷◌, ◌++◌, map, ℕ, zero, suc, ◌+◌, ◌*◌, ◌-◌, ◌/◌, ◌%◌, ◌≤◌, ◌<◌, ltb, pos, take, drop, replicate}
use Rattle.std.proofs.Math.Path.{sym, ap}
use Rattle.std.proofs.Common.{◌∙◌, add-one, lt-ltb, le-ltb, length-take, get_or-take}
use Rattle.std.proofs.Math.Decide.{dec_lt}
use native.Mathlib.Omega.{arith}
use Rattle.std.proofs.Math.ListN.{length, get_or, get_or-map, get_or-eq_default}
use Rattle.basics.specs.Lists.{tab, Each}
use Rattle.basics.specs.ListLaws.{length_tab, get_or_tab, tab_of, tab_same, tab_replicate, each_get_or}
use Rattle.network.specs.Threshold.{Feed, Gate}
use Rattle.network.specs.Record.{no_feed, nth_gate, place_of, gate_record, row_at}
use Rattle.network.specs.PlaceLaws.{gate_in_gate_record}
use Rattle.call_theory.specs.Steps.{Step, merging, dropping, old_gate, entered, entered_all}
use Rattle.journal.specs.Journals.{step_of, row_of, step_at, steps_in, kind_of, signal_of, journal_of, empty_journal}
use Rattle.journal.specs.Journals.{with_step, enter, enter_all, without_newest}
use Rattle.journal.specs.StepPlaces.{spare_step, nth, feed_in, tabled}
use Rattle.journal.proofs.ShiftLaws.{tab_before, tab_after}
use Rattle.journal.specs.declared.Journal.{Journal}

-- ---- a step for each place

-- the journal of a list has the list's steps in its places
journal_tabled : (ss : List Step) → journal_of ss ≡ tabled (length ss) (nth ss)
unfolding journal_of tabled place_of kind_of signal_of old_gate
journal_tabled ss =
    let gate : (i : ℕ) → nth_gate (map old_gate ss) i ≡ old_gate (nth ss i) = λ i. get_or-map old_gate ss i spare_step in
    let feed : (p : ℕ) → place_of (map old_gate ss) p ≡ feed_in (nth ss (p / 16)) (p % 16) =
    λ p. ap (λ (g : Gate). get_or g.feeds (p % 16) no_feed) (gate (p / 16)) in
    λ x. record {
      count = length ss;
      kinds = tab_same 64 (λ i. get_or (map kind_of ss) i 0) (λ i. kind_of (nth ss i)) (λ i h. get_or-map kind_of ss i spare_step) x;
      signals = tab_same 64 (λ i. get_or (map signal_of ss) i 0) (λ i. signal_of (nth ss i)) (λ i h. get_or-map signal_of ss i spare_step) x;
      fanins = tab_same 64 (λ i. length (nth_gate (map old_gate ss) i).feeds) (λ i. length (old_gate (nth ss i)).feeds)
          (λ i h. ap (λ (g : Gate). length g.feeds) (gate i)) x;
      thresholds = tab_same 64 (λ i. (nth_gate (map old_gate ss) i).threshold) (λ i. (old_gate (nth ss i)).threshold)
          (λ i h. ap (λ (g : Gate). g.threshold) (gate i)) x;
      feeds = tab_same 1024 (λ p. (place_of (map old_gate ss) p).signal) (λ p. (feed_in (nth ss (p / 16)) (p % 16)).signal)
          (λ p h. ap (λ (f : Feed). f.signal) (feed p)) x;
      weights = tab_same 1024 (λ p. (place_of (map old_gate ss) p).weight) (λ p. (feed_in (nth ss (p / 16)) (p % 16)).weight)
          (λ p h. ap (λ (f : Feed). f.weight) (feed p)) x;
    }

-- ---- no steps

-- "A read empties the journal": it stands for no steps
pub empty_journal_lem : empty_journal ≡ journal_of []
unfolding empty_journal tabled kind_of signal_of old_gate
empty_journal_lem = sym (journal_tabled [] ∙ λ x. record {
  count = 0;
  kinds = tab_replicate 64 0 x;
  signals = tab_replicate 64 0 x;
  fanins = tab_replicate 64 0 x;
  thresholds = tab_replicate 64 (pos 0) x;
  feeds = tab_replicate 1024 0 x;
  weights = tab_replicate 1024 (pos 0) x;
})

-- ---- a table of 64 values, one for each step: a step entered, and the newest taken out
module _ {A : Type 0} (value : Step → A) (s : Step) (ss : List Step) where
  single_entered : take 64 (value s ∷ tab 64 (λ i. value (nth ss i))) ≡ tab 64 (λ i. value (nth (take 64 (s ∷ ss)) i))
  single_entered =
      let first : (i : ℕ) → i < 1 → get_or (value s ∷ []) i (value spare_step) ≡ value (nth (s ∷ ss) i) =
      elim [ zero ↦ λ h. refl | suc i ↦ λ h. absurd (omega arith) ] in
      tab_before (value spare_step) 64 1 (value s ∷ []) (λ i. value (nth ss i)) (λ i. value (nth (s ∷ ss) i)) refl first
      (λ i. ap (λ (k : ℕ). value (nth (s ∷ ss) k)) (sym (add-one i)))
      ∙ tab_same 64 (λ i. value (nth (s ∷ ss) i)) (λ i. value (nth (take 64 (s ∷ ss)) i)) (λ i h. ap value (sym (get_or-take 64 (s ∷ ss) i spare_step h)))

  single_left : length ss < 64 → drop 1 (tab 64 (λ i. value (nth (s ∷ ss) i))) ++ replicate 1 (value spare_step) ≡ tab 64 (λ i. value (nth ss i))
  single_left few = tab_after (value spare_step) 64 1 (λ i. value (nth (s ∷ ss) i)) (λ i. value (nth ss i)) (omega arith)
      (λ i h. ap value (get_or-eq_default (s ∷ ss) spare_step {n = i} (omega arith))) (λ i. ap (λ (k : ℕ). value (nth (s ∷ ss) k)) (add-one i))

-- ---- a table of 1024 values, one for each feed of each step
module _ {A : Type 0} (value : Feed → A) (s : Step) (ss : List Step) where
  -- the value at a place
  abbrev place : List Step → ℕ → A
  place ss p = value (feed_in (nth ss (p / 16)) (p % 16))

  -- 16 places later stands what stood before the newest step came
  place_later : (p : ℕ) → place ss p ≡ place (s ∷ ss) (p + 16)
  place_later p =
      let step : suc (p / 16) ≡ (p + 16) / 16 = omega arith in
      let feed : p % 16 ≡ (p + 16) % 16 = omega arith in
      λ x. value (feed_in (nth (s ∷ ss) (step x)) (feed x))

  row_entered : take 1024 (tab 16 (λ i. value (feed_in s i)) ++ tab 1024 (place ss)) ≡ tab 1024 (place (take 64 (s ∷ ss)))
  row_entered =
      let first : (p : ℕ) → p < 16 → value (feed_in s p) ≡ place (s ∷ ss) p =
      λ p h.
      let step : 0 ≡ p / 16 = omega arith in
      let feed : p ≡ p % 16 = omega arith in
      λ x. value (feed_in (nth (s ∷ ss) (step x)) (feed x)) in
      tab_before (value no_feed) 1024 16 (tab 16 (λ i. value (feed_in s i))) (place ss) (place (s ∷ ss)) (length_tab 16 (λ i. value (feed_in s i)))
      (λ p h. get_or_tab (value no_feed) 16 (λ i. value (feed_in s i)) p h ∙ first p h) place_later
      ∙ tab_same 1024 (place (s ∷ ss)) (place (take 64 (s ∷ ss)))
      (λ p h. ap (λ (t : Step). value (feed_in t (p % 16))) (sym (get_or-take 64 (s ∷ ss) (p / 16) spare_step (omega arith))))

  row_left : length ss < 64 → drop 16 (tab 1024 (place (s ∷ ss))) ++ replicate 16 (value no_feed) ≡ tab 1024 (place ss)
  unfolding old_gate
  row_left few = tab_after (value no_feed) 1024 16 (place (s ∷ ss)) (place ss) (omega arith)
      (λ p h. ap (λ (t : Step). value (feed_in t (p % 16))) (get_or-eq_default (s ∷ ss) spare_step {n = p / 16} (omega arith)))
      (λ p. sym (place_later p))

-- ---- a step entered

-- one step more, 64 at most
count_entered : (s : Step) (ss : List Step) → length ss ≤ 64 → cond (ltb (length ss) 64) (length ss + 1) 64 ≡ length (take 64 (s ∷ ss))
count_entered s ss h = elim (dec_lt (length ss) 64) as (λ t. cond (ltb (length ss) 64) (length ss + 1) 64 ≡ length (take 64 (s ∷ ss))) [
  | yes k ↦ rw (lt-ltb (length ss) 64 k) (omega (arith, length-take 64 (s ∷ ss)))
  | no k ↦ rw (le-ltb (length ss) 64 (omega arith)) (omega (arith, length-take 64 (s ∷ ss)))
]

-- a step entered, by the step of each place
tabled_entered : (s : Step) (ss : List Step) → length ss ≤ 64
    → enter (tabled (length ss) (nth ss)) s ≡ tabled (length (take 64 (s ∷ ss))) (nth (take 64 (s ∷ ss)))
unfolding enter with_step tabled gate_record
tabled_entered s ss h = λ x. record {
  count = count_entered s ss h x;
  kinds = single_entered kind_of s ss x;
  signals = single_entered signal_of s ss x;
  fanins = single_entered (λ t. length (old_gate t).feeds) s ss x;
  thresholds = single_entered (λ t. (old_gate t).threshold) s ss x;
  feeds = row_entered (λ f. f.signal) s ss x;
  weights = row_entered (λ f. f.weight) s ss x;
}

-- a step entered into the journal of a list is entered into the list
enter_journal : (ss : List Step) (s : Step) → length ss ≤ 64 → enter (journal_of ss) s ≡ journal_of (entered s ss)
unfolding entered
enter_journal ss s h = ap (λ (j : Journal). enter j s) (journal_tabled ss) ∙ tabled_entered s ss h ∙ sym (journal_tabled (take 64 (s ∷ ss)))

-- so are steps entered one after another
pub enter_all_journal : (ss new : List Step) → length ss ≤ 64 → enter_all (journal_of ss) new ≡ journal_of (entered_all new ss)
unfolding enter_all entered_all entered
enter_all_journal ss [] h = refl
enter_all_journal ss (s ∷ new) h = ap (λ (j : Journal). enter_all j new) (enter_journal ss s h)
    ∙ enter_all_journal (take 64 (s ∷ ss)) new (omega (arith, length-take 64 (s ∷ ss)))

-- steps entered, and more after them
pub enter_all_join : (j : Journal) (ss ts : List Step) → enter_all j (ss ++ ts) ≡ enter_all (enter_all j ss) ts
unfolding enter_all
enter_all_join j [] ts = refl
enter_all_join j (s ∷ ss) ts = enter_all_join (enter j s) ss ts

-- ---- the newest taken out

-- the newest taken out, by the step of each place
tabled_left : (s : Step) (ss : List Step) → length ss < 64 → without_newest (tabled (length (s ∷ ss)) (nth (s ∷ ss))) ≡ tabled (length ss) (nth ss)
unfolding without_newest tabled kind_of signal_of old_gate
tabled_left s ss h = λ x. record {
  count = (let e : length (s ∷ ss) - 1 ≡ length ss = omega arith in e) x;
  kinds = single_left kind_of s ss h x;
  signals = single_left signal_of s ss h x;
  fanins = single_left (λ t. length (old_gate t).feeds) s ss h x;
  thresholds = single_left (λ t. (old_gate t).threshold) s ss h x;
  feeds = row_left (λ f. f.signal) s ss h x;
  weights = row_left (λ f. f.weight) s ss h x;
}

-- the journal of a list without its newest step is that of the others
pub without_journal : (s : Step) (ss : List Step) → length (s ∷ ss) ≤ 64 → without_newest (journal_of (s ∷ ss)) ≡ journal_of ss
without_journal s ss h = ap without_newest (journal_tabled (s ∷ ss)) ∙ tabled_left s ss (omega arith) ∙ sym (journal_tabled ss)

-- ---- the steps read back

module _ (n : ℕ) (at : ℕ → Step) (i : ℕ) (few : i < 64) where
  -- the places of step i's gate
  tabled_row : row_of (tabled n at) i ≡ gate_record (old_gate (at i))
  unfolding row_at tabled gate_record
  tabled_row =
      let step : (q : ℕ) → q < 16 → (16 * i + q) / 16 ≡ i = λ q h. omega arith in
      let feed : (q : ℕ) → q < 16 → (16 * i + q) % 16 ≡ q = λ q h. omega arith in
      λ x. record {
        fanin = get_or_tab 0 64 (λ i. length (old_gate (at i)).feeds) i few x;
        threshold = get_or_tab (pos 0) 64 (λ i. (old_gate (at i)).threshold) i few x;
        signals = tab_same 16 (λ q. get_or (tabled n at).feeds (16 * i + q) 0) (λ q. (feed_in (at i) q).signal) (λ q h.
            get_or_tab 0 1024 (λ p. (feed_in (at (p / 16)) (p % 16)).signal) (16 * i + q) (omega arith)
            ∙ λ y. (feed_in (at (step q h y)) (feed q h y)).signal) x;
        weights = tab_same 16 (λ q. get_or (tabled n at).weights (16 * i + q) (pos 0)) (λ q. (feed_in (at i) q).weight) (λ q h.
            get_or_tab (pos 0) 1024 (λ p. (feed_in (at (p / 16)) (p % 16)).weight) (16 * i + q) (omega arith)
            ∙ λ y. (feed_in (at (step q h y)) (feed q h y)).weight) x;
      }

  -- step i
  tabled_step : step_at (tabled n at) i ≡ step_of (kind_of (at i)) (signal_of (at i)) (gate_record (old_gate (at i)))
  unfolding step_at tabled
  tabled_step = λ x. step_of (get_or_tab 0 64 (λ i. kind_of (at i)) i few x) (get_or_tab 0 64 (λ i. signal_of (at i)) i few x) (tabled_row x)

-- a step by its kind, its signal and the places of its gate
step_back : (s : Step) → length (old_gate s).feeds ≤ 16 → step_of (kind_of s) (signal_of s) (gate_record (old_gate s)) ≡ s
unfolding step_of kind_of signal_of old_gate
step_back (merging v g) h = ap (merging v) (gate_in_gate_record g h)
step_back (dropping u g) h = ap (dropping u) (gate_in_gate_record g h)

-- the journal of a list stands for the list
pub steps_journal : (ss : List Step) → length ss ≤ 64 → Each (λ s. length (old_gate s).feeds ≤ 16) ss → steps_in (journal_of ss) ≡ ss
unfolding steps_in tabled
steps_journal ss h few = ap steps_in (journal_tabled ss)
    ∙ tab_of spare_step (length ss) (step_at (tabled (length ss) (nth ss))) ss refl λ i k.
    tabled_step (length ss) (nth ss) i (omega arith) ∙ step_back (nth ss i) (each_get_or (λ s. length (old_gate s).feeds ≤ 16) ss spare_step few i k)
