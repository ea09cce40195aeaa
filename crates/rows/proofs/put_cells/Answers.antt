-- `put_cells` meets its contract: after i turns the cells of the first i rows stand over the list.
use Rattle.std.proofs.Common.{◌+◌, ◌*◌, ◌≤◌, length, arith}
use Rattle.rows.specs.Rows.{row_cells}
use Rattle.rows.proofs.Cells.{cells_over_nil, cells_over_step}
use Rattle.rows.proofs.put_cells.Goals as goal

pub loop-i-init : goal.loop-i-init
loop-i-init c = cells_over_nil _ _

pub loop-i-preserved : goal.loop-i-preserved
loop-i-preserved c =
    cells_over_step _ c.loop-i.i c.loop-i.cells _ c.loop-i.invariant (let h : row_cells * c.loop-i.i + row_cells ≤ length c.args.cells.now = omega arith in h)
