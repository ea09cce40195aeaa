-- `rows_good` meets its contract: what was looked at of the first r rows is good, and the sum of their counts is due next.
use Rattle.index.proofs.Check.{RowsTo}
use Rattle.index.proofs.rows_good.Given as goal

abbrev pub invariant-loop-r : goal.invariant-loop-r
invariant-loop-r l = RowsTo l.words l.r l.due
