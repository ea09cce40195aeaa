-- `read_end` meets its contract: the reading by its layout in the code is that of a 45 frame, and each field fits its type.
-- Assumes nothing.
use Rattle.std.proofs.Common.{refl}
use Rattle.std.proofs.lemmas.Result.{err_from_is_err_and}
use Rattle.fields.proofs.Layouts.{field_below}
use Rattle.fields.proofs.Coded.{read_as, plain_read}
use Rattle.frames.specs.Frames.{end_frame}
use Rattle.frames.proofs.read_end.Goals as goal

pub returns-in_err-fields : goal.returns-in_err-fields
returns-in_err-fields c =
    let p = err_from_is_err_and c.from_residual.result c.from_residual.ensures.1 in
    rw (p.1, p.2) (read_as end_frame _ _ _ c.in_err-fields.ensures)

pub overflow_cast-rows : goal.overflow_cast-rows
overflow_cast-rows c = record { fits = field_below _ _ _ _ c.in_ok-fields.ensures 0 }

pub overflow_cast-p : goal.overflow_cast-p
overflow_cast-p c = record { fits = field_below _ _ _ _ c.in_ok-fields.ensures 2 }

pub overflow_cast-q : goal.overflow_cast-q
overflow_cast-q c = record { fits = field_below _ _ _ _ c.in_ok-fields.ensures 3 }

pub returns : goal.returns
returns c = plain_read end_frame _ _ _ c.in_ok-fields.ensures refl refl
