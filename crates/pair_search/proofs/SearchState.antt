-- What the pair search knows at a sum, at a candidate and at a setting, and how a turn of each loop keeps it. Assumes nothing.
use mathlib.Core.Path.{◌≡◌, refl, sym, ap, ◌∙◌}
use mathlib.Core.Bool.{Bool, true, false, not}
use mathlib.Core.List.{List}
use mathlib.Core.Logic.{⊎_elim}
use Prim.Native.Nat.{ℕ, ◌+◌, ◌-◌, ◌^◌, ◌≤◌, ◌<◌}
use native.Mathlib.Decide.{dec_lt}
use native.Mathlib.Omega.{arith}
use lib.Dec.{T}
use lib.IntN.{ℤ}
use borrow.Author.Count.{below_more}
use borrow.Author.Tests.{not-true, not-false}
use Rattle.basics.specs.TestLaws.{is_true, T_is}
use Rattle.basics.specs.ListLaws.{at_below}
use Rattle.gate_sums.specs.Tables.{Sums, sum_from}
use Rattle.fold_theory.specs.Pair.{Pair, pairs, first}
use Rattle.fold_theory.specs.Aligned.{clears, clears_on, scale_fits, qualifies_on}
use Rattle.pair_theory.specs.declared.Alignment.{Alignment}
use Rattle.pair_theory.specs.Alignments.{aligned_in, Searchable}
use Rattle.pair_clearing.specs.ClearLaws.{tested}
use Rattle.pair_blocks.specs.Blocks.{ClearSettings}
use Rattle.pair_bounds.specs.declared.Remembered.{Remembered}
use Rattle.pair_bounds.specs.Ranges.{RememberedWithin}
use Rattle.pair_search.specs.declared.Found.TheVariants.{At, Nothing}
use Rattle.pair_search.specs.Search.{found_as, bounds_above, RuledOut}
use Rattle.pair_search.proofs.OrderLaws.{pair_at, later, left, later_start, left_start, first_none, first_hit, first_miss, first_from, first_over, first_next}
use Rattle.pair_search.proofs.RangeLaws.{greater_k}
use Rattle.pair_search.proofs.CandidateLaws.{off_scale, differing, qualified, k_off_dial, l_off_dial}

-- no k below `least` qualifies with a sum from this one on
pub record Passed (q : Pair → Bool) (least sum : ℕ) : Type 0 where
  pub low : 1 ≤ least
  pub high : least ≤ 33
  pub out : (k l : ℕ) → 1 ≤ k → k < least → sum ≤ k + l → q (record { k = k; l = l }) ≡ false

-- at a sum, n being the number of settings: the answer among the sums from here on is the whole answer
pub record AtSum (q : Pair → Bool) (n : ℕ) (known : Remembered) (least sum : ℕ) : Type 0 where
  pub low : 2 ≤ sum
  pub high : sum ≤ 65
  pub within : RememberedWithin n known
  pub same : first q (later sum) 16 ≡ first q pairs 16
  pub passed : Passed q least sum

-- at a candidate: the answer from it on is the whole answer
pub record AtCandidate (q : Pair → Bool) (n : ℕ) (known : Remembered) (least sum k : ℕ) : Type 0 where
  pub sum_low : 2 ≤ sum
  pub sum_high : sum ≤ 64
  pub passed : Passed q least sum
  pub low : 1 ≤ k
  pub high : k ≤ 33
  pub within : RememberedWithin n known
  pub same : first q (left sum k) 16 ≡ first q pairs 16

-- at a setting of the candidate with k₀: those before it agree
pub record AtSetting (agrees : ℕ → Bool) (n : ℕ) (known₀ : Remembered) (k₀ : ℕ) (known : Remembered) (k setting : ℕ) : Type 0 where
  pub kept : k ≡ k₀
  pub kept_known : known ≡ known₀
  pub within : setting ≤ n
  pub clear : (j : ℕ) → j < setting → T (agrees j)

module _ {g : Alignment} (f : Searchable g) where
  abbrev pub q : Pair → Bool
  q = qualifies_on (aligned_in g)

  abbrev pub n : ℕ
  n = 2 ^ g.count

  -- the candidate's two bits on a setting
  abbrev pub agrees : ℕ → ℕ → ℕ → Bool
  agrees k l = clears_on (aligned_in g) k l

  -- ---- the loops begin and end
  pub begin : {known : Remembered} → RememberedWithin n known → AtSum q n known 1 2
  begin w = record {
    low = omega arith;
    high = omega arith;
    within = w;
    same = ap (λ (ps : List Pair). first q ps 16) later_start;
    passed = record { low = omega arith; high = omega arith; out = λ k l a b. absurd (omega (arith, a, b)) };
  }

  -- more k are passed over
  pub raised : {least least' sum : ℕ} → Passed q least sum → least ≤ least' → least' ≤ 33
      → ((k l : ℕ) → least ≤ k → k < least' → sum ≤ k + l → l ≤ 32 → q (record { k = k; l = l }) ≡ false) → Passed q least' sum
  raised {least} {least'} {sum} p h high more = record {
    low = omega (arith, p.low);
    high = high;
    out = λ k l a b c. elim (dec_lt k least) as (λ d. q (record { k = k; l = l }) ≡ false) [
      | yes i ↦ p.out k l a i c
      | no i ↦ elim (dec_lt 32 l) as (λ d. q (record { k = k; l = l }) ≡ false) [ yes j ↦ l_off_dial g k l j | no j ↦ more k l (omega arith) b c (omega arith) ]
    ];
  }

  pub turn : {known : Remembered} {least₀ least sum : ℕ} → AtSum q n known least₀ sum → sum ≤ 64 → Passed q least sum → AtCandidate q n known least sum least
  turn {known} {least₀} {least} {sum} a h p = record {
    sum_low = a.low;
    sum_high = h;
    passed = p;
    low = p.low;
    high = p.high;
    within = a.within;
    same =
        first_from q 16 sum 1 least p.low (λ j low less in_sum. p.out j (sum - j) low less (omega arith))
        ∙ ap (λ (ps : List Pair). first q ps 16) (left_start sum h)
        ∙ a.same;
  }

  -- ---- what is left of a sum is passed over
  next : {known : Remembered} {least sum k : ℕ} → AtCandidate q n known least sum k → first q (later (sum + 1)) 16 ≡ first q (left sum k) 16
      → AtSum q n known least (sum + 1)
  next {known} {least} {sum} {k} a e =
      let p = a.passed in
      record {
        low = omega (arith, a.sum_low);
        high = omega (arith, a.sum_high);
        within = a.within;
        same = e ∙ a.same;
        passed = record { low = p.low; high = p.high; out = λ i l b c h. p.out i l b c (omega (arith, h)) };
      }

  pub past_dial : {known : Remembered} {least sum k : ℕ} → AtCandidate q n known least sum k → 32 < k → AtSum q n known least (sum + 1)
  past_dial {known} {least} {sum} {k} a j = next a (first_next q 16 sum k (λ i l m. k_off_dial g i (sum - i) (omega arith)))

  pub past_sum : {known : Remembered} {least sum k : ℕ} → AtCandidate q n known least sum k → sum ≤ k → AtSum q n known least (sum + 1)
  past_sum {known} {least} {sum} {k} a j = next a (first_over q 16 sum k j)

  -- all that is left differs on a setting
  pub past_bound : {known : Remembered} {least sum k : ℕ} (s : ℕ) → AtCandidate q n known least sum k → s < n
      → ((j : ℕ) → k ≤ j → j ≤ sum → agrees j (sum - j) s ≡ false) → AtSum q n known least (sum + 1)
  past_bound {known} {least} {sum} {k} s a i out = next a (first_next q 16 sum k (λ j l m. differing g f j (sum - j) s i (out j l (omega arith))))

  pub none : {known : Remembered} {least sum : ℕ} → AtSum q n known least sum → 64 < sum → found_as Nothing ≡ first q pairs 16
  unfolding found_as
  none {known} {least} {sum} a h = sym (first_none q 16 sum h) ∙ a.same

  -- ---- a candidate is left for its successor
  onward : {known known' : Remembered} {least sum k : ℕ} → AtCandidate q n known least sum k → k ≤ 32 → RememberedWithin n known'
      → first q (left sum (k + 1)) 16 ≡ first q (left sum k) 16 → AtCandidate q n known' least sum (k + 1)
  onward a h w e = record {
    sum_low = a.sum_low;
    sum_high = a.sum_high;
    passed = a.passed;
    low = omega arith;
    high = omega arith;
    within = w;
    same = e ∙ a.same;
  }

  missed : {known known' : Remembered} {least sum k : ℕ} → AtCandidate q n known least sum k → k ≤ 32 → k < sum → RememberedWithin n known'
      → q (pair_at sum k) ≡ false → AtCandidate q n known' least sum (k + 1)
  missed {known} {known'} {least} {sum} {k} a h j w e = onward a h w (first_miss q 16 sum k j e)

  pub off : {known : Remembered} {least sum k : ℕ} → AtCandidate q n known least sum k → k ≤ 32 → k < sum → 32 < sum - k → AtCandidate q n known least sum (k + 1)
  off {known} {least} {sum} {k} a h j o = missed a h j a.within (l_off_dial g k (sum - k) o)

  pub unscaled : {known : Remembered} {least sum k : ℕ} {b : Bool} → AtCandidate q n known least sum k → k ≤ 32 → k < sum
      → b ≡ scale_fits (aligned_in g) k (sum - k) → not b ≡ true → AtCandidate q n known least sum (k + 1)
  unscaled {known} {least} {sum} {k} {b} a h j e t = missed a h j a.within (off_scale g f k (sum - k) (sym e ∙ not-true b t))

  pub differs : {known known' : Remembered} {least sum k : ℕ} {b : Bool} (s : ℕ) → AtCandidate q n known least sum k → k ≤ 32 → k < sum
      → s < n → RememberedWithin n known' → b ≡ agrees k (sum - k) s → not b ≡ true → AtCandidate q n known' least sum (k + 1)
  differs {known} {known'} {least} {sum} {k} {b} s a h j i w t d = missed a h j w (differing g f k (sum - k) s i (sym t ∙ not-true b d))

  -- ---- the settings of a candidate
  pub setting_begin : {first : ℕ} (k l : ℕ) (known : Remembered) → ClearSettings n (agrees k l) first → AtSetting (agrees k l) n known k known k first
  setting_begin k l known c = record { kept = refl; kept_known = refl; within = c.within; clear = c.clear }

  pub setting_more : {known₀ known : Remembered} {k₀ k s : ℕ} {b : Bool} (l : ℕ) → AtSetting (agrees k₀ l) n known₀ k₀ known k s
      → s < n → b ≡ agrees k l s → not b ≡ false → AtSetting (agrees k₀ l) n known₀ k₀ known k (s + 1)
  setting_more {known₀} {known} {k₀} {k} {s} {b} l a h t y = record {
    kept = a.kept;
    kept_known = a.kept_known;
    within = omega arith;
    clear = below_more (λ (j : ℕ). T (agrees k₀ l j)) s a.clear (T_is _ (sym (rw a.kept at t) ∙ not-false b y));
  }

  -- one differs, and the candidate is left
  pub setting_differs : {known known' : Remembered} {least sum k k₁ : ℕ} {b : Bool} (s : ℕ) → AtCandidate q n known least sum k → k ≤ 32 → k < sum → s < n
      → RememberedWithin n known' → k₁ ≡ k → b ≡ agrees k₁ (sum - k) s → not b ≡ true → AtCandidate q n known' least sum (k₁ + 1)
  setting_differs {known} {known'} {least} {sum} {k} {k₁} {b} s a h j i w e t d = rw e (differs s a h j i w (rw e at t) d)

  -- all agree, and the candidate is the answer
  pub found : {known₀ known : Remembered} {least sum k k₁ s : ℕ} {b : Bool} → AtCandidate q n known₀ least sum k → k ≤ 32 → k < sum → sum - k ≤ 32
      → b ≡ scale_fits (aligned_in g) k (sum - k) → not b ≡ false → AtSetting (agrees k (sum - k)) n known₀ k known k₁ s → n ≤ s
      → found_as (At k₁ (sum - k)) ≡ first q pairs 16
  unfolding found_as
  found {known₀} {known} {least} {sum} {k} {k₁} {s} {b} a h j o t y c z =
      let all = is_true _ (at_below n (agrees k (sum - k)) λ i l. c.clear i (omega (arith, l, z))) in
      rw c.kept (sym (first_hit q 16 sum k j (qualified g f k (sum - k) a.low h (omega arith) o (sym t ∙ not-false b y) all)) ∙ a.same)

-- ---- what the tables of sums say
module _ {g : Alignment} (f : Searchable g) {tu tv : List ℤ} (u : Sums g.us 256 tu) (v : Sums g.vs 256 tv) where
  -- a candidate that a remembered setting rules out
  pub ruled_out : {known : Remembered} (k l : ℕ) → RememberedWithin (2 ^ g.count) known → RuledOut g.thresholds tu tv known k l
      → qualifies_on (aligned_in g) (record { k = k; l = l }) ≡ false
  ruled_out {known} k l w r =
      ⊎_elim (λ e. differing g f k l known.last w.last_in (sym (tested f u v k l known.last w.last_in refl) ∙ e))
      (λ e. differing g f k l known.earlier w.earlier_in (sym (tested f u v k l known.earlier w.earlier_in refl) ∙ e)) r

  -- those with the same sum and a greater k than one that a setting rules out and bounds from above
  pub rest_differs : {b bound : Bool} (sum k s : ℕ) → s < 2 ^ g.count → b ≡ clears g.thresholds k (sum - k) (sum_from tu s) (sum_from tv s) → not b ≡ true
      → bound ≡ bounds_above g.thresholds (sum_from tu s) (sum_from tv s) → bound ≡ true
      → (j : ℕ) → k ≤ j → j ≤ sum → clears_on (aligned_in g) j (sum - j) s ≡ false
  rest_differs {b} {bound} sum k s h e d x y j i m =
      sym (tested f u v j (sum - j) s h refl)
      ∙ greater_k g.thresholds (sum_from tu s) (sum_from tv s) sum k j x (T_is bound y) i m (sym e ∙ not-true b d)
