-- The lines that are made of terms: the two lines of a gate, those of an output, and the last line. Assumes nothing.
use Rattle.std.specs.Prelude.{◌≡◌, Bool, true, false, cond, ℕ, ◌+◌, ℤ, pos, negsuc, ◌+ℤ◌, ◌-ℤ◌, length}
use Rattle.std.proofs.Math.Path.{refl, sym}
use Rattle.std.proofs.Common.{ap, ◌∙◌, arith}
use mathlib.Core.List.{List, [], ◌∷◌, map, map-map, map-append}
use Rattle.std.proofs.lemmas.List.{length-map}
use Rattle.std.specs.Int.Signed.{non_neg}
use Rattle.basics.specs.Lists.{range}
use Rattle.basics.specs.ListLaws.{length_range, range_more}
use Rattle.network.specs.Threshold.{Feed, negated, Gate}
use Rattle.network.specs.Record.{gate_in}
use Rattle.network.specs.PlaceLaws.{length_gate_in}
use Rattle.network.specs.declared.GateRecord.{GateRecord}
use Rattle.question_theory.specs.Question.{term, most, least, upper, lower, over_gate, some_line, not_both_line, last_line}
use Rattle.question_terms.specs.declared.LineRecord.{LineRecord}
use Rattle.question_terms.specs.Terms.{RecordOfLine, Extendable, no_terms, extended, feed_term, feed_terms, side_part, one_sided, InLimits, three_terms}
use Rattle.question_terms.specs.TermLaws.{stands_extendable}

-- ---- the feeds of a gate

-- as many terms as a gate has feeds
term_count : (negative : Bool) (φ : ℕ → ℕ) (g : Gate) (z : ℤ) → length (feed_terms negative φ g z).terms ≡ length g.feeds
unfolding feed_terms
term_count negative φ g z = length-map g.feeds (feed_term negative φ)

-- the feeds of a gate within the limits leave room for one term more
pub feeds_extendable : {r : LineRecord} (negative : Bool) (φ : ℕ → ℕ) (gate : GateRecord) (z : ℤ) → InLimits gate
    → RecordOfLine r (feed_terms negative φ (gate_in gate) z) → Extendable r
feeds_extendable negative φ gate z l s = stands_extendable s (omega (arith, l.few, length_gate_in gate, term_count negative φ (gate_in gate) z))

-- ---- M and m

-- each is the sum of its side
part_most : (w : ℤ) → side_part true w ≡ cond (non_neg w) w (pos 0)
unfolding side_part
part_most (pos n) = refl
part_most (negsuc n) = refl

part_least : (w : ℤ) → side_part false w ≡ cond (non_neg w) (pos 0) w
unfolding side_part
part_least (pos n) = refl
part_least (negsuc n) = refl

pub sided_most : (fs : List Feed) → one_sided true fs ≡ most fs
unfolding one_sided most
sided_most [] = refl
sided_most (f ∷ fs) = rw (part_most f.weight, sided_most fs)

pub sided_least : (fs : List Feed) → one_sided false fs ≡ least fs
unfolding one_sided least
sided_least [] = refl
sided_least (f ∷ fs) = rw (part_least f.weight, sided_least fs)

-- ---- the two lines of a gate
module _ (φ : ℕ → ℕ) where
  abbrev over : Feed → Feed
  over f = term (φ f.signal) f.weight

  -- variables do not change M and m
  most_over : (fs : List Feed) → most (map over fs) ≡ most fs
  unfolding most
  most_over [] = refl
  most_over (f ∷ fs) = rw (most_over fs)

  least_over : (fs : List Feed) → least (map over fs) ≡ least fs
  unfolding least
  least_over [] = refl
  least_over (f ∷ fs) = rw (least_over fs)

  pub upper_is : (y : ℕ) (g : Gate)
      → extended (feed_terms true φ g (pos 1 -ℤ g.threshold)) (term y (most g.feeds -ℤ g.threshold +ℤ pos 1)) ≡ upper y (over_gate φ g)
  unfolding extended feed_terms feed_term upper over_gate negated
  upper_is y g = sym (rw (most_over g.feeds, map-map negated over g.feeds))

  pub lower_is : (y : ℕ) (g : Gate) → extended (feed_terms false φ g (least g.feeds)) (term y (least g.feeds -ℤ g.threshold)) ≡ lower y (over_gate φ g)
  unfolding extended feed_terms feed_term lower over_gate
  lower_is y g = sym (rw (least_over g.feeds))

-- ---- the lines of the outputs and the last line
pub some_is : (p q d : ℕ) → three_terms p q d (pos 1) (pos 0) ≡ some_line p q d
unfolding three_terms some_line
some_is p q d = refl

pub not_both_is : (p q d : ℕ) → three_terms p q d (negsuc 0) (negsuc 1) ≡ not_both_line p q d
unfolding three_terms not_both_line
not_both_is p q d = refl

pub last_none : (d : ℕ) → no_terms (pos 1) ≡ last_line d 0
unfolding no_terms last_line range
last_none d = refl

pub last_more : (d n : ℕ) → extended (last_line d n) (term (d + n) (pos 1)) ≡ last_line d (n + 1)
unfolding extended last_line
last_more d n = ap (λ (fs : List Feed). record { terms = fs; right = pos 1 })
    (sym (ap (map (λ v. term v (pos 1))) (range_more d n) ∙ map-append (λ v. term v (pos 1)) (range d n) ((d + n) ∷ [])))

pub last_count : (d n : ℕ) → length (last_line d n).terms ≡ n
unfolding last_line
last_count d n = length-map (range d n) (λ v. term v (pos 1)) ∙ length_range d n
