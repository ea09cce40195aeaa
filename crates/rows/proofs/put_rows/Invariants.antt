-- `put_rows` meets its contract: the first k places have the first k rows of the cells.
use Rattle.std.proofs.Common.{◌≡◌, ℕ, ◌<◌, get_or}
use Rattle.rows.specs.Rows.{row_in}
use Rattle.rows.proofs.Lists.{no_row}
use Rattle.rows.proofs.put_rows.Given as goal

abbrev pub invariant-loop-k : goal.invariant-loop-k
invariant-loop-k l = (i : ℕ) → i < l.k → get_or l.row-items i no_row ≡ row_in l.cells i
