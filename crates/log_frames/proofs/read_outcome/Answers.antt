-- `read_outcome` meets its contract: the reading by its layout in the code is that of a 4F frame, and each field fits its type.
-- Assumes nothing.
use Rattle.std.proofs.Common.{refl}
use Rattle.std.proofs.lemmas.Result.{err_from_is_err_and}
use Rattle.fields.proofs.Layouts.{field_below}
use Rattle.fields.proofs.Coded.{read_as, plain_read}
use Rattle.log_frames.specs.Frames.{outcome_frame}
use Rattle.log_frames.proofs.read_outcome.Goals as goal

pub returns-in_err-fields : goal.returns-in_err-fields
returns-in_err-fields c =
    let p = err_from_is_err_and c.from_residual.result c.from_residual.ensures.1 in
    rw (p.1, p.2) (read_as outcome_frame _ _ _ c.in_err-fields.ensures)

pub overflow_cast-case : goal.overflow_cast-case
overflow_cast-case c = record { fits = field_below _ _ _ _ c.in_ok-fields.ensures 0 }

pub overflow_cast-value : goal.overflow_cast-value
overflow_cast-value c = record { fits = field_below _ _ _ _ c.in_ok-fields.ensures 1 }

pub returns : goal.returns
returns c = plain_read outcome_frame _ _ _ c.in_ok-fields.ensures refl refl
