-- `read_query` meets its contract: the reading by its layout in the code is that of a 51 frame, and each field fits its type.
-- Assumes nothing.
use Rattle.std.proofs.Common.{◌∙◌}
use Rattle.std.proofs.lemmas.Result.{err_from_is_err_and}
use Rattle.fields.proofs.Layouts.{field_below}
use Rattle.fields.proofs.Coded.{read_as, buffer_as}
use Rattle.frames.specs.Frames.{query_frame}
use Rattle.frames.proofs.read_query.Goals as goal

pub returns-in_err-parts : goal.returns-in_err-parts
returns-in_err-parts c =
    let p = err_from_is_err_and c.from_residual.result c.from_residual.ensures.1 in
    record {
      result_value = rw (p.1, p.2) (read_as query_frame _ _ _ c.in_err-parts.ensures.value);
      query_after = c.read_named.ensures.name_after ∙ buffer_as query_frame _ _;
    }

pub overflow_cast-measure : goal.overflow_cast-measure
overflow_cast-measure c = record { fits = field_below _ _ _ _ c.in_ok-parts.ensures.value 0 }

pub overflow_cast-p : goal.overflow_cast-p
overflow_cast-p c = record { fits = field_below _ _ _ _ c.in_ok-parts.ensures.value 1 }

pub overflow_cast-q : goal.overflow_cast-q
overflow_cast-q c = record { fits = field_below _ _ _ _ c.in_ok-parts.ensures.value 2 }

pub returns : goal.returns
returns c = record {
  result_value = read_as query_frame _ _ _ c.in_ok-parts.ensures.value;
  query_after = c.read_named.ensures.name_after ∙ buffer_as query_frame _ _;
}
