-- The record of a line, one term more at a time, and the terms that are made so: the feeds of a gate, and three terms; and the sums of a
-- gate's weights. Assumes nothing.
use Rattle.std.specs.Prelude.{◌≡◌, Bool, cond, ℕ, ◌+◌, ◌≤◌, ◌<◌, ℤ, pos, negsuc, nat_abs, neg_ℤ, ◌+ℤ◌, length, get_or, set, take, replicate}
use Rattle.std.proofs.Math.Path.{refl, sym, ap}
use Rattle.std.proofs.Common.{◌∙◌, subst, length-append}
use mathlib.Core.List.{List, [], ◌∷◌, ◌++◌, map, map-append}
use native.Mathlib.Omega.{arith}
use Rattle.std.proofs.Math.IntN.{+ℤ_assoc, +ℤ_comm}
use Rattle.std.proofs.Math.ListN.{length-map}
use Rattle.basics.specs.Lists.{places}
use Rattle.network.specs.Limits.{scale}
use Rattle.basics.specs.ListLaws.{each_get_or}
use Rattle.basics.specs.PlaceLaws.{places_none, take_places, placed_last}
use Rattle.network.specs.Threshold.{Feed}
use Rattle.network.specs.Record.{feed_at, feeds_from, gate_in, no_feed}
use Rattle.network.specs.PlaceLaws.{length_feeds, feeds_at}
use Rattle.network.specs.declared.GateRecord.{GateRecord}
use Rattle.question_theory.specs.Question.{Line, term}
use Rattle.question_terms.specs.declared.LineRecord.{LineRecord}
use Rattle.question_terms.specs.Terms.{term_in, term_record, no_term, line_in, line_record, RecordOfLine, Extendable, no_terms, extended, feed_term, feed_terms, side_part, one_sided}
use Rattle.question_terms.specs.Terms.{InLimits, three_terms}
use Rattle.question_terms.specs.FeedLaws.{feeds_none, feeds_more}

-- ---- a line's record

-- terms as feeds, after feeds as terms
terms_back : (fs : List Feed) → map term_in (map term_record fs) ≡ fs
terms_back [] = refl
terms_back (f ∷ fs) = ap (λ (l : List Feed). f ∷ l) (terms_back fs)

-- the line that a line's record stands for
line_in_line_record : (line : Line) → length line.terms ≤ 17 → line_in (line_record line) ≡ line
unfolding line_in line_record
line_in_line_record line h =
    let long = length-map line.terms term_record in
    let front : take (length line.terms) (places 17 no_term (map term_record line.terms)) ≡ map term_record line.terms
    = ap (λ (n : ℕ). take n (places 17 no_term (map term_record line.terms))) (sym long) ∙ take_places 17 no_term (map term_record line.terms) (omega (arith, long)) in
    ap (λ (fs : List Feed). record { terms = fs; right = line.right }) (ap (map term_in) front ∙ terms_back line.terms)

-- a line that a record stands for: the line, as many terms as are counted, and the same line by another name
pub stands_line : {r : LineRecord} {line : Line} → RecordOfLine r line → line_in r ≡ line
stands_line {r} {line} s = ap line_in s.is ∙ line_in_line_record line s.few

pub stands_count : {r : LineRecord} {line : Line} → RecordOfLine r line → r.count ≡ length line.terms
unfolding line_record
stands_count s = ap (λ (x : LineRecord). x.count) s.is

pub stands_is : {r : LineRecord} {a b : Line} → a ≡ b → RecordOfLine r a → RecordOfLine r b
stands_is {r} e s = subst (RecordOfLine r) e s

pub stands_empty : (z : ℤ) → RecordOfLine (record { count = 0; terms = replicate 17 no_term; right = z }) (no_terms z)
unfolding line_record no_terms
stands_empty z = record { few = omega arith; is = λ i. record { count = 0; terms = places_none 17 no_term i; right = z } }

-- a term more
pub stands_extendable : {r : LineRecord} {line : Line} → RecordOfLine r line → length line.terms < 17 → Extendable r
stands_extendable s h = record { room = omega (arith, stands_count s); clear = s.is ∙ ap line_record (sym (stands_line s)) }

pub stands_more : (r : LineRecord) (v : ℕ) (c : ℤ) → Extendable r
    → RecordOfLine (record { count = r.count + 1; terms = set r.terms r.count (record { variable = v; coefficient = c }); right = r.right })
    (extended (line_in r) (term v c))
unfolding line_in line_record extended
stands_more r v c e =
    let terms = (line_in r).terms in
    let counted = ap (λ (x : LineRecord). x.count) e.clear in
    let places_are = ap (λ (x : LineRecord). x.terms) e.clear in
    let more = length-append terms (term v c ∷ []) in
    let count : r.count + 1 ≡ length (terms ++ (term v c ∷ [])) = omega arith in
    record {
      few = omega (arith, e.room);
      is = λ i. record {
        count = count i;
        terms = placed_last 17 no_term term_record terms (term v c) r.count r.terms places_are counted (record { variable = v; coefficient = c }) refl i;
        right = r.right;
      };
    }

pub stands_next : {r m : LineRecord} {l : Line} (v : ℕ) {c d : ℤ} → RecordOfLine r l → c ≡ d → RecordOfLine m (extended (line_in r) (term v c))
    → RecordOfLine m (extended l (term v d))
stands_next v s e t = stands_is (rw (stands_line s, e)) t

-- ---- the feeds of a gate

-- the first i feeds as terms
unfoldable pub first_terms : Bool → (ℕ → ℕ) → GateRecord → ℤ → ℕ → Line
first_terms negative φ gate right i = record { terms = map (feed_term negative φ) (feeds_from gate.signals gate.weights 0 i); right = right }

module _ (negative : Bool) (φ : ℕ → ℕ) (gate : GateRecord) (right : ℤ) where
  pub first_none : no_terms right ≡ first_terms negative φ gate right 0
  unfolding no_terms first_terms
  first_none = ap (λ (fs : List Feed). record { terms = map (feed_term negative φ) fs; right = right }) (sym (feeds_none gate.signals gate.weights 0))

  first_more : (i : ℕ) → extended (first_terms negative φ gate right i)
      (term (φ (get_or gate.signals i 0)) (cond negative (neg_ℤ (get_or gate.weights i (pos 0))) (get_or gate.weights i (pos 0))))
      ≡ first_terms negative φ gate right (i + 1)
  unfolding extended first_terms feed_term feed_at
  first_more i = ap (λ (fs : List Feed). record { terms = fs; right = right })
      (sym (ap (map (feed_term negative φ)) (feeds_more gate.signals gate.weights i)
      ∙ map-append (feed_term negative φ) (feeds_from gate.signals gate.weights 0 i) _))

  -- as the terms are made
  pub first_step : {l : Line} {v : ℕ} {c : ℤ} (i : ℕ) → l ≡ first_terms negative φ gate right i → v ≡ φ (get_or gate.signals i 0)
      → c ≡ cond negative (neg_ℤ (get_or gate.weights i (pos 0))) (get_or gate.weights i (pos 0))
      → extended l (term v c) ≡ first_terms negative φ gate right (i + 1)
  first_step i e d k = rw (e, d, k) (first_more i)

  pub first_all : first_terms negative φ gate right gate.fanin ≡ feed_terms negative φ (gate_in gate) right
  unfolding first_terms feed_terms gate_in
  first_all = refl

  pub first_count : (i : ℕ) → length (first_terms negative φ gate right i).terms ≡ i
  unfolding first_terms
  first_count i = length-map (feeds_from gate.signals gate.weights 0 i) (feed_term negative φ) ∙ length_feeds gate.signals gate.weights 0 i

-- the size of a feed's weight
pub scaled_at : (gate : GateRecord) → InLimits gate → (i : ℕ) → i < gate.fanin → nat_abs (get_or gate.weights i (pos 0)) ≤ scale
unfolding gate_in feed_at
scaled_at gate s i h = rw (feeds_at gate.signals gate.weights 0 gate.fanin i h, let e : 0 + i ≡ i = omega arith in e)
    at (each_get_or (λ f. nat_abs f.weight ≤ scale) (gate_in gate).feeds no_feed s.sizes i
    (omega (arith, length_feeds gate.signals gate.weights 0 gate.fanin)))

-- ---- the sum of a gate's weights on one side

-- one feed more
module _ (above : Bool) where
  sided_end : (fs : List Feed) (f : Feed) → one_sided above (fs ++ (f ∷ [])) ≡ one_sided above fs +ℤ side_part above f.weight
  unfolding one_sided
  sided_end [] f = +ℤ_comm (side_part above f.weight) (pos 0)
  sided_end (g ∷ fs) f = ap (λ (z : ℤ). side_part above g.weight +ℤ z) (sided_end fs f)
      ∙ sym (+ℤ_assoc (side_part above g.weight) (one_sided above fs) (side_part above f.weight))

  module _ (gate : GateRecord) where
    -- the sum of the first i feeds
    abbrev pub sided_of : ℕ → ℤ
    sided_of i = one_sided above (feeds_from gate.signals gate.weights 0 i)

    pub sided_none : sided_of 0 ≡ pos 0
    unfolding one_sided
    sided_none = ap (one_sided above) (feeds_none gate.signals gate.weights 0)

    pub sided_more : (i : ℕ) → sided_of i +ℤ side_part above (get_or gate.weights i (pos 0)) ≡ sided_of (i + 1)
    unfolding feed_at
    sided_more i = sym (ap (one_sided above) (feeds_more gate.signals gate.weights i) ∙ sided_end (feeds_from gate.signals gate.weights 0 i)
        (feed_at gate.signals gate.weights i))

-- ---- three terms
pub three_is : (p q d : ℕ) (c z : ℤ) → extended (extended (extended (no_terms z) (term p c)) (term q c)) (term d (negsuc 0)) ≡ three_terms p q d c z
unfolding extended no_terms three_terms
three_is p q d c z = refl
