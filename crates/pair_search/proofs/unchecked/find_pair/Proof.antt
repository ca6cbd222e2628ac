-- `search::unchecked::find_pair` meets its contract: the scan is given the tables of the two gates' sums. Assumes nothing.
use Rattle.pair_search.proofs.unchecked.find_pair.Statement.{statement}
use Rattle.pair_search.proofs.unchecked.find_pair.Tie as tie

table_requires : tie.Need-table-sums_u-requires
table_requires c κs = c.requires.fair.us_small

table_requires_2 : tie.Need-table-sums_v-requires
table_requires_2 c κs = c.requires.fair.vs_small

scan_requires : tie.Need-scan-requires
scan_requires c κs =
    (c.requires, (c.table-sums_u.ensures, c.table-sums_v.ensures))

returns : tie.Need-returns
returns c = c.scan.ensures

pub find_pair_spec : {M : Type 1} → statement M
find_pair_spec = tie.close (tie.spec table_requires table_requires_2 scan_requires returns)
