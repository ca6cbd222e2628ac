-- The levels of a network's gates. Document 01, "Size report and `fold`", and document 02, No. 3, "A constant never waits". Nothing is
-- proved here.
use Rattle.std.specs.Prelude.{cond, List, [], ◌∷◌, ℕ, suc, max, eqb}
use Rattle.network.specs.Threshold.{Feed, Gate}

-- ---- "Levels: an input has level 0, a gate one more than its highest feed"; document 02: "A gate without feeds now has level 0. A gate
-- whose feeds all have level 0 has level 1"

-- the highest level among the feeds
unfoldable pub highest : (ℕ → ℕ) → List Feed → ℕ
highest level_of [] = 0
highest level_of (f ∷ fs) = max (level_of f.signal) (highest level_of fs)

-- the level above feeds, given the levels of the signals before: the one rule of levels
unfoldable pub level_above : (ℕ → ℕ) → List Feed → ℕ
level_above level_of [] = 0
level_above level_of (f ∷ fs) = suc (highest level_of (f ∷ fs))

unfoldable pub gate_level : (ℕ → ℕ) → Gate → ℕ
gate_level level_of g = level_above level_of g.feeds

-- levelOf with level h at signal n
unfoldable pub with_level : (ℕ → ℕ) → ℕ → ℕ → ℕ → ℕ
with_level level_of n h = λ s. cond (eqb s n) h (level_of s)

-- the highest level of the gates in order, the first with signal n
unfoldable pub levels_from : ℕ → List Gate → (ℕ → ℕ) → ℕ
levels_from n [] level_of = 0
levels_from n (g ∷ gs) level_of = max (gate_level level_of g) (levels_from (suc n) gs (with_level level_of n (gate_level level_of g)))
