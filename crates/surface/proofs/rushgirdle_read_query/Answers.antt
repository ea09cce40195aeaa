-- `rushgirdle_read_query` meets its contract: the layer's reading, set out; its length fits 16 bits, as a frame's name has at most 255 bytes.
use mathlib.Core.Path.{refl, ap}
use native.Mathlib.Omega.{arith}
use lib.ListN.{length}
use Rattle.fields.specs.Layouts.{Reading}
use Rattle.frames.specs.Frames.{query_frame}
use Rattle.surface.proofs.Laws.{name_short}
use Rattle.surface.proofs.rushgirdle_read_query.Goals as goal

pub overflow_cast-result : goal.overflow_cast-result
overflow_cast-result c =
    let a = c.args in
    let e = ap (λ (r : Reading). r.len) c.in-Ok.ensures.result_value in
    let h = name_short query_frame a.line.now (length a.query.now) refl in
    omega arith
