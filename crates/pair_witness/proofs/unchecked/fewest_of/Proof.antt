-- The tables are those of the two gates. Assumes nothing.
use Rattle.pair_witness.proofs.unchecked.fewest_of.Statement.{statement}
use Rattle.pair_witness.proofs.unchecked.fewest_of.Tie as tie

table_requires : tie.Need-table-sums_u-requires
table_requires c κs = c.requires.searchable.fair.us_small

table_requires_2 : tie.Need-table-sums_v-requires
table_requires_2 c κs = c.requires.searchable.fair.vs_small

fewest_requires : tie.Need-fewest-requires
fewest_requires c κs =
    (c.requires, (c.table-sums_u.ensures, c.table-sums_v.ensures))

returns : tie.Need-returns
returns c = c.fewest.ensures

pub fewest_of_spec : {M : Type 1} → statement M
fewest_of_spec = tie.close (tie.spec table_requires table_requires_2 fewest_requires returns)
