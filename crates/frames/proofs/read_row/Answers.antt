-- `read_row` meets its contract: the reading by its layout in the code is that of a 52 frame, and each field fits its type.
-- Assumes nothing.
use Rattle.std.proofs.Common.{refl}
use Rattle.std.proofs.lemmas.Result.{err_from_is_err_and}
use Rattle.fields.proofs.Layouts.{field_below}
use Rattle.fields.proofs.Coded.{read_as, plain_read}
use Rattle.frames.specs.Frames.{row_frame}
use Rattle.frames.proofs.read_row.Goals as goal

pub returns-in_err-fields : goal.returns-in_err-fields
returns-in_err-fields c =
    let p = err_from_is_err_and c.from_residual.result c.from_residual.ensures.1 in
    rw (p.1, p.2) (read_as row_frame _ _ _ c.in_err-fields.ensures)

pub overflow_cast-id : goal.overflow_cast-id
overflow_cast-id c = record { fits = field_below _ _ _ _ c.in_ok-fields.ensures 0 }

pub overflow_cast-shared : goal.overflow_cast-shared
overflow_cast-shared c = record { fits = field_below _ _ _ _ c.in_ok-fields.ensures 1 }

pub overflow_cast-size : goal.overflow_cast-size
overflow_cast-size c = record { fits = field_below _ _ _ _ c.in_ok-fields.ensures 2 }

pub overflow_cast-least : goal.overflow_cast-least
overflow_cast-least c = record { fits = field_below _ _ _ _ c.in_ok-fields.ensures 3 }

pub returns : goal.returns
returns c = plain_read row_frame _ _ _ c.in_ok-fields.ensures refl refl
