-- The question for two networks, as pseudo-Boolean lines. Document 01, "The question". Variables are numbered from 0 here: signal s of
-- the first network is variable s, the second's gates come after the first's, then one variable d for each output. Nothing is proved
-- here.
use Rattle.std.specs.Prelude.{Bool, cond, ◌&&◌, List, [], ◌∷◌, ◌++◌, map, ℕ, suc, ◌+◌, T, ltb, eqb, ℤ, pos, negsuc, ◌+ℤ◌, ◌-ℤ◌, length}
use Rattle.basics.specs.Library.{le_z, non_neg}
use Rattle.basics.specs.Lists.{range, Each}
use Rattle.network.specs.Threshold.{Feed, negated, Gate, Net, Assignment, sum}

-- ---- a line

-- terms, each a coefficient (weight) on a variable (signal), and the right side of `>=`
pub record Line : Type 0 where
  pub terms : List Feed
  pub right : ℤ

-- a line holds where its terms whose variable is 1 sum to the right side or more
unfoldable pub holds : Assignment → Line → Bool
holds ρ line = le_z line.right (sum ρ line.terms)

-- "A 0/1 solution sets every variable to 0 or 1 so that all lines after the header hold"
abbrev pub Solves : Assignment → List Line → Type 0
Solves ρ lines = Each (λ line. T (holds ρ line)) lines

-- ---- the two lines of a gate

-- "M is the sum of its positive weights, m of its negative ones"
unfoldable pub most : List Feed → ℤ
most [] = pos 0
most (f ∷ fs) = cond (non_neg f.weight) f.weight (pos 0) +ℤ most fs

unfoldable pub least : List Feed → ℤ
least [] = pos 0
least (f ∷ fs) = cond (non_neg f.weight) (pos 0) f.weight +ℤ least fs

abbrev pub term : ℕ → ℤ → Feed
term variable coefficient = record { signal = variable; weight = coefficient }

-- "Upper line: each feed with minus its weight, then (M − T + 1) on y; `>= 1-T`"
unfoldable pub upper : ℕ → Gate → Line
upper y g = record {
  terms = map negated g.feeds ++ (term y (most g.feeds -ℤ g.threshold +ℤ pos 1) ∷ []);
  right = pos 1 -ℤ g.threshold;
}

-- "Lower line: each feed with its weight, then (m − T) on y; `>= m`"
unfoldable pub lower : ℕ → Gate → Line
lower y g = record { terms = g.feeds ++ (term y (least g.feeds -ℤ g.threshold) ∷ []); right = least g.feeds }

-- ---- the variables of a network's signals

-- signal s of the second network, where the first has i inputs and g gates: inputs are shared
unfoldable pub second_variable : ℕ → ℕ → ℕ → ℕ
second_variable i g s = cond (ltb s i) s (s + g)

-- a gate over variables
unfoldable pub over_gate : (ℕ → ℕ) → Gate → Gate
over_gate φ g = record { feeds = map (λ f. term (φ f.signal) f.weight) g.feeds; threshold = g.threshold }

-- "both lines of each gate", the first gate with signal n
unfoldable pub gate_lines : (ℕ → ℕ) → ℕ → List Gate → List Line
gate_lines φ n [] = []
gate_lines φ n (g ∷ gs) = upper (φ n) (over_gate φ g) ∷ lower (φ n) (over_gate φ g) ∷ gate_lines φ (suc n) gs

-- ---- the outputs

-- "`+1 p +1 q -1 d >= 0 ;`" and "`-1 p -1 q -1 d >= -2 ;`"
unfoldable pub some_line : ℕ → ℕ → ℕ → Line
some_line p q d = record { terms = term p (pos 1) ∷ term q (pos 1) ∷ term d (negsuc 0) ∷ []; right = pos 0 }

unfoldable pub not_both_line : ℕ → ℕ → ℕ → Line
not_both_line p q d = record { terms = term p (negsuc 0) ∷ term q (negsuc 0) ∷ term d (negsuc 0) ∷ []; right = negsuc 1 }

-- for each output, p and q its gate variables, the first output with variable d
unfoldable pub output_lines : List ℕ → List ℕ → ℕ → List Line
output_lines [] qs d = []
output_lines (p ∷ ps) [] d = []
output_lines (p ∷ ps) (q ∷ qs) d = some_line p q d ∷ not_both_line p q d ∷ output_lines ps qs (suc d)

-- "last `+1 d` for every d, `>= 1 ;`"
unfoldable pub last_line : ℕ → ℕ → Line
last_line d n = record { terms = map (λ v. term v (pos 1)) (range d n); right = pos 1 }

-- ---- the question

-- "Two networks with equal input and output counts"
unfoldable pub alike : Net → Net → Bool
alike N M = eqb N.inputs M.inputs && eqb (length N.outputs) (length M.outputs)

-- the first d
unfoldable pub first_difference : Net → Net → ℕ
first_difference N M = N.inputs + length N.gates + length M.gates

-- the variable of a signal of the second network, where N is the first
abbrev pub second_of : Net → ℕ → ℕ
second_of N = second_variable N.inputs (length N.gates)

-- both lines of each gate of the first network
unfoldable pub first_lines : Net → List Line
first_lines N = gate_lines (λ s. s) N.inputs N.gates

-- both lines of each gate of the second
unfoldable pub second_lines : Net → Net → List Line
second_lines N M = gate_lines (second_of N) M.inputs M.gates

-- both lines of each output
unfoldable pub pair_lines : Net → Net → List Line
pair_lines N M = output_lines N.outputs (map (second_of N) M.outputs) (first_difference N M)

-- the last line
unfoldable pub last_of : Net → Net → Line
last_of N M = last_line (first_difference N M) (length N.outputs)

-- the lines after the header, in order
unfoldable pub question : Net → Net → List Line
question N M = first_lines N ++ (second_lines N M ++ (pair_lines N M ++ (last_of N M ∷ [])))

-- "the number of variables"
unfoldable pub variables : Net → Net → ℕ
variables N M = first_difference N M + length N.outputs
