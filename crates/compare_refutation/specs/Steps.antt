-- Internal: what a rule leaves of a partial assignment. Nothing is proved here.
use Rattle.std.specs.Prelude.{ℕ}
use Rattle.network.specs.Threshold.{Assignment}
use Rattle.compare_theory.specs.Reasons.{Propagated}
use Rattle.compare_refutation.specs.declared.Held.{Held}
use Rattle.compare_refutation.specs.declared.Step.{Step}
use Rattle.compare_refutation.specs.declared.Step.TheVariants.{Still, Moved, Clash}

-- a step by its number, and the decisions on which a contradiction rests
abbrev pub code_of : Step → ℕ
code_of Still = 0
code_of Moved = 1
code_of (Clash why) = 2

abbrev pub why_of : Step → ℕ
why_of Still = 0
why_of Moved = 0
why_of (Clash why) = why

-- bits that rest on decisions as before, for every assignment that fits; after a contradiction, none that fits meets its decisions
abbrev pub Ruled : (Assignment → Type 0) → Held → Held → Step → Type 0
Ruled Fits before after step = Propagated Fits before.bits before.rests after.bits after.rests (code_of step) (why_of step)
