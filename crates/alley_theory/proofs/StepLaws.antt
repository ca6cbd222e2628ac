-- Lane by lane: a step takes the first lane off what is left, prints its line, and adds it to the totals. Assumes nothing.
use Rattle.std.specs.Prelude.{◌≡◌, Bool, cond, take, drop}
use Rattle.std.proofs.Math.Path.{refl, ap}
use Rattle.std.proofs.Common.{sym, ◌∙◌, true≢false, add-one, le-leb, leb-true, leb-false, leb→le, length-append, drop_of_length-le, drop-drop}
use Rattle.std.proofs.Math.Bool.{true, false}
use mathlib.Core.List.{List, [], ◌∷◌, ◌++◌, map, append_assoc, append-nil}
use Prim.Native.Nat.{ℕ, zero, suc, ◌+◌, ◌*◌, ◌-◌, ◌≤◌, ◌<◌}
use Rattle.std.proofs.Math.Decide.{dec_lt}
use native.Mathlib.Omega.{arith}
use Rattle.std.proofs.lemmas.Bool.{lt-leb}
use Rattle.std.proofs.Math.Dec.{leb}
use Rattle.std.proofs.Math.ListN.{length}
use Rattle.std.proofs.lemmas.List.{take-append-le, drop-append-le}
use Rattle.basics.specs.Refusals.{Answer}
use Rattle.basics.specs.TestLaws.{T_is, T_and}
use Rattle.pmn_format.specs.Format.{Bytes}
use Rattle.pmn_format.proofs.LengthLaws.{bytes_take}
use Rattle.alley_theory.specs.Alley.{Lane, whole, cut_short, lane_length, Size, lanes_up_to, lanes, lane_entry, lane_entries, size_counted, plus_size}
use Rattle.alley_theory.specs.Alley.{total_size, lane_text}
use Rattle.alley_theory.specs.Alley.{lines_text, total_text, sheet}
use Rattle.alley_theory.specs.Answers.{no_lanes, sums, with_entry, sound_totals, Front, lane_at, nothing, front, LaneStep, idle, listed, step_from, step}
use Rattle.alley_theory.specs.Claims.{rest_text, rest, StepClaim, LaneByLane}
use Rattle.alley_theory.proofs.AnswerLaws.{step_open, step_shut}
use Rattle.alley_theory.proofs.EntryLaws.{EntryInRange, LaneBytes, fair_lane, fair_counted}
use Rattle.alley_theory.proofs.TextLaws.{lane_short}
use Rattle.alley_theory.specs.declared.Totals.{Totals}

-- ---- totals
pub record TotalsBounded (t : Totals) : Type 0 where
  pub lanes : t.lanes ≤ 65535
  pub gates : t.gates ≤ 128 * t.lanes
  pub cost : t.cost ≤ 2176000000 * t.lanes

pub sound_bounds : (t : Totals) → sound_totals t ≡ true → TotalsBounded t
unfolding sound_totals
sound_bounds t e =
    let h = T_and (leb t.lanes 65535) _ (T_is _ e) in
    let k = T_and (leb t.gates (128 * t.lanes)) (leb t.cost (2176000000 * t.lanes)) h.1 in
    record { lanes = leb→le t.lanes 65535 h.0; gates = leb→le t.gates (128 * t.lanes) k.0; cost = leb→le t.cost (2176000000 * t.lanes) k.1 }

bounds_sound : (t : Totals) → TotalsBounded t → sound_totals t ≡ true
unfolding sound_totals
bounds_sound t b = rw (le-leb t.lanes 65535 b.lanes, le-leb t.gates (128 * t.lanes) b.gates, le-leb t.cost (2176000000 * t.lanes) b.cost)

entry_sound : (t : Totals) (a : Answer Size) → TotalsBounded t → t.lanes < 65535 → EntryInRange a → sound_totals (with_entry t a) ≡ true
unfolding with_entry
entry_sound t a b h f =
    let c = fair_counted a f in
    bounds_sound (with_entry t a) (record { lanes = omega arith; gates = omega (arith, b.gates, c.0); cost = omega (arith, b.cost, c.1) })

-- ---- what is left to print
same_size : {a b c d : ℕ} → a ≡ b → c ≡ d → ◌≡◌ {A = Size} (record { gates = a; cost = c }) (record { gates = b; cost = d })
same_size e f = cc

rest_none : (t : Totals) → rest_text t [] ≡ total_text (sums t)
unfolding rest_text lines_text total_size
rest_none t = ap total_text (same_size (omega arith) (omega arith))

rest_more : (t : Totals) (e : Answer Size) (es : List (Answer Size)) → rest_text t (e ∷ es) ≡ lane_text (t.lanes + 1) e ++ rest_text (with_entry t e) es
unfolding rest_text lines_text total_size with_entry
rest_more t e es =
    append_assoc (lane_text (t.lanes + 1) e) (lines_text (suc (t.lanes + 1)) es) _
    ∙ ap (λ (n : ℕ). lane_text (t.lanes + 1) e ++ (lines_text n es ++ total_text (plus_size (sums t) (plus_size (size_counted e) (total_size es)))))
    (sym (add-one (t.lanes + 1)))
    ∙ ap (λ (f : Size). lane_text (t.lanes + 1) e ++ (lines_text (t.lanes + 1 + 1) es ++ total_text f)) (same_size (omega arith) (omega arith))

-- ---- the first lane

none_left : (n : ℕ) → lanes_up_to n [] ≡ []
unfolding lanes_up_to
none_left zero = refl
none_left (suc n) = refl

-- a lane with its length
module _ (low high : ℕ) (s : List ℕ) (m : ℕ) where
  whole_lane : lane_length low high ≤ length s
      → lanes_up_to (suc m) (low ∷ high ∷ s) ≡ whole (take (lane_length low high) s) ∷ lanes_up_to m (drop (lane_length low high) s)
  unfolding lanes_up_to
  whole_lane h = rw (le-leb (lane_length low high) (length s) h)

  cut_lane : length s < lane_length low high → lanes_up_to (suc m) (low ∷ high ∷ s) ≡ cut_short ∷ []
  unfolding lanes_up_to
  cut_lane h = rw (lt-leb (lane_length low high) (length s) h)

module _ (last : Bool) (later : List ℕ) (closes : last ≡ true → later ≡ []) where
  -- a front takes its lane off the lanes; without one the bytes are too few, and where they are the last there are none
  abbrev Takes : ℕ → List ℕ → Front → Type 0
  Takes m s (lane_at n l) = (lanes_up_to (suc m) (s ++ later) ≡ l ∷ lanes_up_to m (drop n s ++ later)) × ((0 < n) × LaneBytes l)
  Takes m s nothing = (last ≡ true → s ≡ []) × (length s < 65537)

  record First (m : ℕ) (s : List ℕ) (f : Front) : Type 0 where
    pub takes : Takes m s f

  -- nothing is left after the last bytes
  all_taken : (m n : ℕ) (s : List ℕ) → last ≡ true → length s ≤ n → lanes_up_to m (drop n s ++ later) ≡ []
  all_taken m n s e h = ap (lanes_up_to m) (ap (λ (l : List ℕ). l ++ later) (drop_of_length-le s {i = n} h) ∙ closes e) ∙ none_left m

  one_byte : (m low : ℕ) (b : Bool) → last ≡ b → First m (low ∷ []) (cond b (lane_at 1 cut_short) nothing)
  unfolding lanes_up_to
  one_byte m low true e = record {
    takes = (
      ap (λ (l : List ℕ). lanes_up_to (suc m) (low ∷ l)) (closes e) ∙ ap (λ (ls : List Lane). cut_short ∷ ls) (sym (all_taken m 1 (low ∷ []) e (omega arith))),
      (omega arith, tt),
    );
  }
  one_byte m low false e = record { takes = ((λ d. absurd (true≢false (sym d ∙ e))), omega arith) }

  cut_off : (m low high : ℕ) (s : List ℕ) → low < 256 → high < 256 → length s < lane_length low high → (b : Bool) → last ≡ b
      → First m (low ∷ high ∷ s) (cond b (lane_at (2 + length s) cut_short) nothing)
  cut_off m low high s hl hh h true e = record {
    takes = (
      ap (λ (l : List ℕ). lanes_up_to (suc m) (low ∷ high ∷ l)) (ap (λ (l : List ℕ). s ++ l) (closes e) ∙ append-nil s)
          ∙ cut_lane low high s m h
          ∙ ap (λ (ls : List Lane). cut_short ∷ ls) (sym (all_taken m (2 + length s) (low ∷ high ∷ s) e (omega arith))),
      (omega arith, tt),
    );
  }
  cut_off m low high s hl hh h false e = record { takes = ((λ d. absurd (true≢false (sym d ∙ e))), omega arith) }

  in_full : (m low high : ℕ) (s : List ℕ) → Bytes s → lane_length low high ≤ length s
      → First m (low ∷ high ∷ s) (lane_at (2 + lane_length low high) (whole (take (lane_length low high) s)))
  in_full m low high s bytes h =
      let n = lane_length low high in
      record {
        takes = (
          whole_lane low high (s ++ later) m (omega (arith, length-append s later))
              ∙ ap (λ (l : List ℕ). whole l ∷ lanes_up_to m (drop n (s ++ later))) (take-append-le n s later h)
              ∙ ap (λ (l : List ℕ). whole (take n s) ∷ lanes_up_to m l) (drop-append-le n s later h)
              ∙ ap (λ (l : List ℕ). whole (take n s) ∷ lanes_up_to m (l ++ later)) (drop-drop n 2 (low ∷ high ∷ s)),
          (omega arith, bytes_take n s bytes),
        );
      }

  first : (m : ℕ) (s : List ℕ) → Bytes s → First m s (front last s)
  unfolding front
  first m [] b = record { takes = ((λ e. refl), omega arith) }
  first m (low ∷ []) b = one_byte m low last refl
  first m (low ∷ high ∷ s) b =
      elim (leb (lane_length low high) (length s)) as (λ x. leb (lane_length low high) (length s) ≡ x
      → First m (low ∷ high ∷ s)
      (cond x (lane_at (2 + lane_length low high) (whole (take (lane_length low high) s))) (cond last (lane_at (2 + length s) cut_short) nothing))) [
        | true ↦ λ e. in_full m low high s b.1.1 (leb-true (lane_length low high) (length s) e)
        | false ↦ λ e. cut_off m low high s b.0 b.1.0 (leb-false (lane_length low high) (length s) e) last refl
      ] refl

  -- ---- the step
  module _ (t : Totals) (s : List ℕ) (bytes : Bytes s) (b : TotalsBounded t) where
    abbrev Claim : LaneStep → Type 0
    Claim p = StepClaim t last s later p

    idle_claim : (last ≡ true → rest t s ≡ total_text (sums t)) → (t.lanes < 65535 → 65537 ≤ length s → 0 < 0) → Claim (idle t)
    unfolding idle
    idle_claim ends moves = record { goes_on = refl; ends = λ e z. ends e; moves = moves; stays_sound = bounds_sound t b; short = omega arith }

    shut_claim : 65535 ≤ t.lanes → Claim (idle t)
    unfolding rest lanes_up_to
    shut_claim h =
        let e : 65535 - t.lanes ≡ 0 = omega arith in
        idle_claim (λ d. ap (λ (n : ℕ). rest_text t (map lane_entry (lanes_up_to n s))) e ∙ rest_none t) (λ k l. absurd (omega arith))

    lane_claim : t.lanes < 65535 → (n : ℕ) (l : Lane) → First (65535 - (t.lanes + 1)) s (lane_at n l) → Claim (listed t n (lane_entry l))
    unfolding listed rest
    lane_claim h n l f =
        let e : 65535 - t.lanes ≡ suc (65535 - (t.lanes + 1)) = omega arith in
        let fair = fair_lane l f.takes.1.1 in
        record {
          goes_on = ap (λ (k : ℕ). rest_text t (map lane_entry (lanes_up_to k (s ++ later)))) e
              ∙ ap (λ (ls : List Lane). rest_text t (map lane_entry ls)) f.takes.0
              ∙ (unfold with_entry in rest_more t (lane_entry l) (map lane_entry (lanes_up_to (65535 - (t.lanes + 1)) (drop n s ++ later))));
          ends = λ d z. absurd (omega (arith, f.takes.1.0));
          moves = λ k j. f.takes.1.0;
          stays_sound = entry_sound t (lane_entry l) b h fair;
          short = lane_short (t.lanes + 1) (omega arith) (lane_entry l) fair;
        }

    none_claim : First (65535 - (t.lanes + 1)) s nothing → Claim (idle t)
    unfolding rest
    none_claim f =
        idle_claim (λ e. ap (λ (l : List ℕ). rest_text t (map lane_entry (lanes_up_to (65535 - t.lanes) l))) (f.takes.0 e)
        ∙ ap (λ (ls : List Lane). rest_text t (map lane_entry ls)) (none_left (65535 - t.lanes)) ∙ rest_none t)
        (λ k l. absurd (omega (arith, f.takes.1)))

    open_claim : t.lanes < 65535 → (f : Front) → First (65535 - (t.lanes + 1)) s f → Claim (step_from t f)
    unfolding step_from
    open_claim h nothing first_is = none_claim first_is
    open_claim h (lane_at n l) first_is = lane_claim h n l first_is

    claim : Claim (step t last s)
    claim = elim (dec_lt t.lanes 65535) as (λ d. Claim (step t last s)) [
      | yes h ↦ rw (step_open t last s h) (open_claim h (front last s) (first (65535 - (t.lanes + 1)) s bytes))
      | no h ↦ rw (step_shut t last s (omega arith)) (shut_claim (omega arith))
    ]

-- the sheet is what is left at the start
sheet_start : (s : List ℕ) → sheet s ≡ rest no_lanes s
unfolding sheet lane_entries lanes rest rest_text
sheet_start s =
    let f = total_size (map lane_entry (lanes_up_to 65535 s)) in
    ap (λ (x : Size). lines_text 1 (map lane_entry (lanes_up_to 65535 s)) ++ total_text x)
    (same_size {a = f.gates} {b = 0 + f.gates} {c = f.cost} {d = 0 + f.cost} (omega arith) (omega arith))

pub lane_by_lane : LaneByLane
lane_by_lane = record {
  starts = sheet_start;
  starts_sound = bounds_sound no_lanes (record { lanes = omega arith; gates = omega arith; cost = omega arith });
  steps = λ t last s later sound bytes closes. claim last later closes t s bytes (sound_bounds t sound);
}
