-- Laws of the gate of a journal's newest step, with 0 in its spare places. Assumes nothing.
use Rattle.std.specs.Prelude.{◌≡◌, List, ◌++◌, ℕ, ◌+◌, ◌-◌, ◌*◌, ◌≤◌, ◌<◌, ℤ, pos, length, take, drop, replicate}
use Rattle.std.proofs.Math.Path.{refl, sym, ap}
use Rattle.std.proofs.Common.{◌∙◌, arith, length-append, length-drop, length-take-le, get_or-take, get_or-drop}
use Rattle.std.proofs.Math.Decide.{dec_lt}
use Rattle.std.proofs.Math.ListN.{get_or, get_or-eq_default}
use Rattle.std.proofs.lemmas.List.{length-replicate}
use Rattle.basics.specs.Lists.{tab}
use Rattle.basics.specs.ListLaws.{get_or_tab, tab_of, get_or_spare}
use Rattle.network.specs.Threshold.{Feed}
use Rattle.network.specs.Record.{feed_at, no_feed, gate_in, gate_record, row_at}
use Rattle.network.specs.Places.{Pasted}
use Rattle.network.specs.PlaceLaws.{length_feeds, feeds_at}
use Rattle.network.specs.declared.GateRecord.{GateRecord}
use Rattle.journal.specs.Journals.{row_of}
use Rattle.journal.proofs.ShiftLaws.{join_low, join_high}
use Rattle.journal.specs.declared.Journal.{Journal}

-- the first values of a list written before d are a field of a list of feeds
first_row : {A : Type 0} (d : A) (field : Feed → A) (n : ℕ) (fs : List Feed) (xs ys : List A) → field no_feed ≡ d → length fs ≡ n → n ≤ 16
    → ((i : ℕ) → i < n → field (get_or fs i no_feed) ≡ get_or xs i d) → Pasted d 0 n (λ i. get_or xs i d) (replicate 16 d) ys
    → ys ≡ tab 16 (λ i. field (get_or fs i no_feed))
first_row d field n fs xs ys e l few same p =
    let long : length ys ≡ 16 = p.long ∙ length-replicate 16 d in
    sym (tab_of d 16 (λ i. field (get_or fs i no_feed)) ys (sym long) λ i h. elim (dec_lt i n) as (λ t. field (get_or fs i no_feed) ≡ get_or ys i d) [
      | yes k ↦
          let front : i ≡ 0 + i = omega arith in
          same i k ∙ sym (ap (λ (q : ℕ). get_or ys q d) front ∙ p.inside i k (omega (arith, length-replicate 16 d)))
      | no k ↦ ap field (get_or-eq_default fs no_feed {n = i} (omega arith)) ∙ e ∙ sym (p.after i (omega arith) ∙ get_or_spare 16 i d)
    ])

-- the first values of a list, and d in the places after them, are those values written before d
front_pasted : {A : Type 0} (d : A) (n : ℕ) (xs : List A) → n ≤ 16 → n ≤ length xs
    → Pasted d 0 n (λ i. get_or xs i d) (replicate 16 d) (take n xs ++ drop n (replicate 16 d))
front_pasted d n xs few room =
    let ys = take n xs ++ drop n (replicate 16 d) in
    let front : length (take n xs) ≡ n = length-take-le n xs room in
    record {
      long = length-append (take n xs) (drop n (replicate 16 d)) ∙ omega (arith, front, length-drop n (replicate 16 d), length-replicate 16 d);
      inside = λ i h l. ap (λ (q : ℕ). get_or ys q d) (let e : 0 + i ≡ i = omega arith in e)
          ∙ join_low d (take n xs) _ i (omega arith) ∙ get_or-take n xs i d h;
      before = λ q h. absurd (omega arith);
      after = λ q h. join_high d (take n xs) _ q (omega arith) ∙ get_or-drop n (replicate 16 d) (q - length (take n xs)) d
          ∙ get_or_spare 16 _ d ∙ sym (get_or_spare 16 q d);
    }

module _ (j : Journal) (few : get_or j.fanins 0 0 ≤ 16) where
  abbrev fanin : ℕ
  fanin = get_or j.fanins 0 0

  -- a place of the first 16
  row_place : {A : Type 0} (d : A) (xs : List A) (i : ℕ) → i < 16 → get_or (tab 16 (λ q. get_or xs (16 * 0 + q) d)) (0 + i) d ≡ get_or xs i d
  row_place d xs i h =
      let same : 0 + i ≡ i = omega arith in
      let first : 16 * 0 + i ≡ i = omega arith in
      ap (λ (p : ℕ). get_or (tab 16 (λ q. get_or xs (16 * 0 + q) d)) p d) same ∙ get_or_tab d 16 (λ q. get_or xs (16 * 0 + q) d) i h
      ∙ ap (λ (p : ℕ). get_or xs p d) first

  -- feed i of the row
  feed_first : (i : ℕ) → i < fanin → get_or (gate_in (row_of j 0)).feeds i no_feed ≡ feed_at j.feeds j.weights i
  unfolding gate_in row_at feed_at
  feed_first i h = feeds_at (row_of j 0).signals (row_of j 0).weights 0 fanin i h ∙ λ x. record {
    signal = row_place 0 j.feeds i (omega arith) x;
    weight = row_place (pos 0) j.weights i (omega arith) x;
  }

  length_first : length (gate_in (row_of j 0)).feeds ≡ fanin
  unfolding gate_in row_at
  length_first = length_feeds (row_of j 0).signals (row_of j 0).weights 0 fanin

  pub newest_row : (ss : List ℕ) (ws : List ℤ) → Pasted 0 0 fanin (λ i. get_or j.feeds i 0) (replicate 16 0) ss
      → Pasted (pos 0) 0 fanin (λ i. get_or j.weights i (pos 0)) (replicate 16 (pos 0)) ws
      → ◌≡◌ {A = GateRecord} (record { fanin = fanin; threshold = get_or j.thresholds 0 (pos 0); signals = ss; weights = ws })
      (gate_record (gate_in (row_of j 0)))
  unfolding gate_record gate_in row_at feed_at
  newest_row ss ws ps pw =
      let fs = (gate_in (row_of j 0)).feeds in
      λ x. record {
        fanin = sym length_first x;
        threshold = get_or j.thresholds 0 (pos 0);
        signals = first_row 0 (λ f. f.signal) fanin fs j.feeds ss refl length_first few
            (λ i h. ap (λ (f : Feed). f.signal) (feed_first i h)) ps x;
        weights = first_row (pos 0) (λ f. f.weight) fanin fs j.weights ws refl length_first few
            (λ i h. ap (λ (f : Feed). f.weight) (feed_first i h)) pw x;
      }

  -- the gate of the newest step, by the first of the feed places
  pub newest_front : 16 ≤ length j.feeds → 16 ≤ length j.weights → (n : ℕ) → n ≡ fanin → (ss : List ℕ) (ws : List ℤ) (t : ℤ)
      → ss ≡ take n j.feeds → ws ≡ take n j.weights → t ≡ get_or j.thresholds 0 (pos 0)
      → ◌≡◌ {A = GateRecord} (record {
        fanin = fanin;
        threshold = t;
        signals = ss ++ drop n (replicate 16 0);
        weights = ws ++ drop n (replicate 16 (pos 0));
      }) (gate_record (gate_in (row_of j 0)))
  newest_front feeds weights n same ss ws t es ew et =
      rw (es, ew, et, same)
      (newest_row _ _ (front_pasted 0 fanin j.feeds few (omega arith)) (front_pasted (pos 0) fanin j.weights few (omega arith)))
