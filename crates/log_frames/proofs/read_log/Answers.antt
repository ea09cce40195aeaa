-- `read_log` meets its contract: the reading by its layout in the code is that of a 4C frame, and each field fits its type.
-- Assumes nothing.
use Rattle.std.proofs.Common.{◌∙◌}
use Rattle.std.proofs.lemmas.Result.{err_from_is_err_and}
use Rattle.fields.proofs.Layouts.{field_below}
use Rattle.fields.proofs.Coded.{read_as, buffer_as}
use Rattle.log_frames.specs.Frames.{log_frame}
use Rattle.log_frames.proofs.read_log.Goals as goal

pub returns-in_err-parts : goal.returns-in_err-parts
returns-in_err-parts c =
    let p = err_from_is_err_and c.from_residual.result c.from_residual.ensures.1 in
    record {
      result_value = rw (p.1, p.2) (read_as log_frame _ _ _ c.in_err-parts.ensures.value);
      name_after = c.read_named.ensures.name_after ∙ buffer_as log_frame _ _;
    }

pub overflow_cast-day : goal.overflow_cast-day
overflow_cast-day c = record { fits = field_below _ _ _ _ c.in_ok-parts.ensures.value 0 }

pub overflow_cast-reading : goal.overflow_cast-reading
overflow_cast-reading c = record { fits = field_below _ _ _ _ c.in_ok-parts.ensures.value 1 }

pub returns : goal.returns
returns c = record {
  result_value = read_as log_frame _ _ _ c.in_ok-parts.ensures.value;
  name_after = c.read_named.ensures.name_after ∙ buffer_as log_frame _ _;
}
