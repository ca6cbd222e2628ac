-- The word and two numbers of 64 bits.
use Prim.Native.Nat.{◌≤◌}
use native.Mathlib.Omega.{arith}
use lib.ListN.{length}
use borrow.Author.Rules.{rules}
use Rattle.alley_theory.specs.Alley.{size_text, total_text, total_word}
use Rattle.alley_theory.specs.Writes.{size_with}
use Rattle.alley_theory.proofs.TextLaws.{size_short}
use Rattle.alley_line.proofs.unchecked.put_total.Statement.{statement}
use Rattle.alley_line.proofs.unchecked.put_total.Tie as tie

-- both numbers have at most 20 digits
short : (c : tie.Start) → length (size_text (size_with c.args.gates c.args.cost)) ≤ 42
short c = size_short (size_with c.args.gates c.args.cost) c.ranges.gates.fits c.ranges.cost.fits

put_size_requires : tie.Need-put_size-requires
put_size_requires c κs = let start = c.before.before.before.before in omega (arith, short start, start.requires)

returns : tie.Need-returns
unfolding total_text total_word
returns c =
    (c.put_size.ensures, omega (arith, c.put_size.ensures.long, short c.before.before.before.before.before.before.before))

pub put_total_spec : {M : Type 1} → statement M
put_total_spec = tie.close (tie.spec put_size_requires (λ c. search rules) returns)
