-- `read_refusal` meets its contract: the reading by its layout in the code is that of a 58 frame, and each field fits its type.
-- Assumes nothing.
use Rattle.std.proofs.Common.{refl}
use Rattle.std.proofs.lemmas.Result.{err_from_is_err_and}
use Rattle.fields.proofs.Layouts.{field_below}
use Rattle.fields.proofs.Coded.{read_as, plain_read}
use Rattle.frames.specs.Frames.{refusal_frame}
use Rattle.frames.proofs.read_refusal.Goals as goal

pub returns-in_err-fields : goal.returns-in_err-fields
returns-in_err-fields c =
    let p = err_from_is_err_and c.from_residual.result c.from_residual.ensures.1 in
    rw (p.1, p.2) (read_as refusal_frame _ _ _ c.in_err-fields.ensures)

pub overflow_cast-number : goal.overflow_cast-number
overflow_cast-number c = record { fits = field_below _ _ _ _ c.in_ok-fields.ensures 0 }

pub returns : goal.returns
returns c = plain_read refusal_frame _ _ _ c.in_ok-fields.ensures refl refl
