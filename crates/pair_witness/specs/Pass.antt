-- Internal: what the pass over the settings finds. Nothing is proved here.
use Rattle.std.specs.Prelude.{◌≡◌, Bool, true, ℕ}
use Rattle.basics.specs.Lists.{below}
use Rattle.pair_witness.specs.declared.Unclear.{Unclear}
use Rattle.pair_witness.specs.declared.Unclear.TheVariants.{At, Nowhere}
use Rattle.pair_witness.specs.Fewest.{Fewest}

-- of n settings one that is not clear, with the fewest ones; or every setting is clear
unfoldable pub FewestUnclear : ℕ → (ℕ → Bool) → Unclear → Type 0
FewestUnclear n clear (At s) = Fewest n clear s
FewestUnclear n clear Nowhere = below n clear ≡ true
