-- The count is at most the number of truth tables passed.
use Rattle.std.proofs.Common.{◌≤◌}
use Rattle.three_feeds_table.proofs.print_kinds.Given as goal

abbrev pub invariant-loop-table : goal.invariant-loop-table
invariant-loop-table g l = l.count ≤ l.table
