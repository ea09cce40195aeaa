-- `find_rows` meets its contract: the rows that `fill_columns` leaves in the columns, as many as the answer gives, are the rows of the cells.
use Rattle.rows.proofs.Cells.{filled_cells}
use Rattle.rows.proofs.find_rows.Goals as goal

pub returns : goal.returns
returns c =
    filled_cells _ _ _ c.fill_columns-answer.ensures c.rows_in.ensures c.put_cells.ensures
