-- `read_pair` meets its contract: the reading by its layout in the code is that of a 50 frame, and each field fits its type.
-- Assumes nothing.
use Rattle.std.proofs.Common.{refl}
use Rattle.std.proofs.lemmas.Result.{err_from_is_err_and}
use Rattle.fields.proofs.Layouts.{field_below}
use Rattle.fields.proofs.Coded.{read_as, plain_read}
use Rattle.log_frames.specs.Frames.{pair_frame}
use Rattle.log_frames.proofs.read_pair.Goals as goal

pub returns-in_err-fields : goal.returns-in_err-fields
returns-in_err-fields c =
    let p = err_from_is_err_and c.from_residual.result c.from_residual.ensures.1 in
    rw (p.1, p.2) (read_as pair_frame _ _ _ c.in_err-fields.ensures)

pub overflow_cast-id : goal.overflow_cast-id
overflow_cast-id c = record { fits = field_below _ _ _ _ c.in_ok-fields.ensures 0 }

pub overflow_cast-week : goal.overflow_cast-week
overflow_cast-week c = record { fits = field_below _ _ _ _ c.in_ok-fields.ensures 1 }

pub overflow_cast-count : goal.overflow_cast-count
overflow_cast-count c = record { fits = field_below _ _ _ _ c.in_ok-fields.ensures 3 }

pub returns : goal.returns
returns c = plain_read pair_frame _ _ _ c.in_ok-fields.ensures refl refl
