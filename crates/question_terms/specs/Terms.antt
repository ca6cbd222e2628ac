-- Internal: a line as plain data, both ways, the terms that it is made of, and what their makers ask for. Nothing is proved here.
use Rattle.std.specs.Prelude.{◌≡◌, Bool, cond, List, [], ◌∷◌, ◌++◌, map, ℕ, ◌≤◌, ◌<◌, ℤ, pos, nat_abs, neg_ℤ, negsuc, ◌+ℤ◌, length, take}
use Rattle.std.specs.Bool.{beq}
use Rattle.std.specs.Int.Signed.{non_neg}
use Rattle.basics.specs.Lists.{places, Each}
use Rattle.network.specs.Limits.{scale}
use Rattle.network.specs.Threshold.{Feed, Gate}
use Rattle.network.specs.Record.{gate_in}
use Rattle.network.specs.declared.GateRecord.{GateRecord}
use Rattle.question_theory.specs.Question.{Line, term}
use Rattle.question_terms.specs.declared.Term.{Term}
use Rattle.question_terms.specs.declared.LineRecord.{LineRecord}

-- ---- a line and its record

-- a term of a line as a feed over variables, both ways
abbrev pub term_in : Term → Feed
term_in t = term t.variable t.coefficient

abbrev pub term_record : Feed → Term
term_record f = record { variable = f.signal; coefficient = f.weight }

-- what a spare place holds
abbrev pub no_term : Term
no_term = record { variable = 0; coefficient = pos 0 }

-- the line that a record stands for
unfoldable pub line_in : LineRecord → Line
line_in r = record { terms = map term_in (take r.count r.terms); right = r.right }

-- the record of a line: its terms at the first places, spare ones 0
unfoldable pub line_record : Line → LineRecord
line_record line = record {
  count = length line.terms;
  terms = places 17 no_term (map term_record line.terms);
  right = line.right;
}

-- the record is that of the line, whose terms have room in it
pub record RecordOfLine (r : LineRecord) (line : Line) : Type 0 where
  pub few : length line.terms ≤ 17
  pub is : r ≡ line_record line

-- the record has room for one term more, and its spare places hold 0
pub record Extendable (r : LineRecord) : Type 0 where
  pub room : r.count < 17
  pub clear : r ≡ line_record (line_in r)

-- a line without terms, and a line with one term more
unfoldable pub no_terms : ℤ → Line
no_terms right = record { terms = []; right = right }

unfoldable pub extended : Line → Feed → Line
extended line f = record { terms = line.terms ++ (f ∷ []); right = line.right }

-- ---- the terms of a gate

-- a feed over variables, with its weight or with minus its weight
unfoldable pub feed_term : Bool → (ℕ → ℕ) → Feed → Feed
feed_term negative φ f = term (φ f.signal) (cond negative (neg_ℤ f.weight) f.weight)

-- the feeds of a gate as terms
unfoldable pub feed_terms : Bool → (ℕ → ℕ) → Gate → ℤ → Line
feed_terms negative φ g right = record { terms = map (feed_term negative φ) g.feeds; right = right }

-- what a weight adds to M, where above, or else to m
unfoldable pub side_part : Bool → ℤ → ℤ
side_part above w = cond (beq (non_neg w) above) w (pos 0)

-- M or m of some feeds
unfoldable pub one_sided : Bool → List Feed → ℤ
one_sided above [] = pos 0
one_sided above (f ∷ fs) = side_part above f.weight +ℤ one_sided above fs

-- a gate's feeds have room in its record, and its weights and T are at most 1,000,000 in size
pub record InLimits (gate : GateRecord) : Type 0 where
  pub few : gate.fanin ≤ 16
  pub threshold_small : nat_abs gate.threshold ≤ scale
  pub sizes : Each (λ f. nat_abs f.weight ≤ scale) (gate_in gate).feeds

-- ---- three terms

-- two variables with one coefficient, and minus a third
unfoldable pub three_terms : ℕ → ℕ → ℕ → ℤ → ℤ → Line
three_terms p q d coefficient right = record { terms = term p coefficient ∷ term q coefficient ∷ term d (negsuc 0) ∷ []; right = right }
