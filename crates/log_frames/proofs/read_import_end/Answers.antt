-- `read_import_end` meets its contract: the reading by its layout in the code is that of a 5A frame, and each field fits its type.
-- Assumes nothing.
use Rattle.std.proofs.Common.{refl}
use Rattle.std.proofs.lemmas.Result.{err_from_is_err_and}
use Rattle.fields.proofs.Layouts.{field_below}
use Rattle.fields.proofs.Coded.{read_as, plain_read}
use Rattle.log_frames.specs.Frames.{import_end_frame}
use Rattle.log_frames.proofs.read_import_end.Goals as goal

pub returns-in_err-fields : goal.returns-in_err-fields
returns-in_err-fields c =
    let p = err_from_is_err_and c.from_residual.result c.from_residual.ensures.1 in
    rw (p.1, p.2) (read_as import_end_frame _ _ _ c.in_err-fields.ensures)

pub overflow_cast-outcomes : goal.overflow_cast-outcomes
overflow_cast-outcomes c = record { fits = field_below _ _ _ _ c.in_ok-fields.ensures 0 }

pub overflow_cast-pairs : goal.overflow_cast-pairs
overflow_cast-pairs c = record { fits = field_below _ _ _ _ c.in_ok-fields.ensures 1 }

pub returns : goal.returns
returns c = plain_read import_end_frame _ _ _ c.in_ok-fields.ensures refl refl
