-- `put_cells` meets its contract: after i turns the cells of the first i rows stand over the list.
use Rattle.std.proofs.Common.{◌≡◌}
use Rattle.search.specs.Answers.{as_columns}
use Rattle.rows.specs.Rows.{row_across}
use Rattle.rows.proofs.Cells.{cells_over}
use Rattle.rows.proofs.put_cells.Given as goal

abbrev pub invariant-loop-i : goal.invariant-loop-i
invariant-loop-i l = l.cells ≡ cells_over (row_across (as_columns l.ids l.shared l.sizes l.least)) l.i l.initial.cells
