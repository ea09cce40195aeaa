-- `put_row` meets its contract: the line fills its part, and the rest stays.
use mathlib.Core.List.{[], ◌∷◌}
use Prim.Native.Nat.{◌+◌, ◌-◌, ◌*◌}
use native.Mathlib.Omega.{arith}
use lib.ListN.{drop, length-drop}
use lib.Seq.{length-take-le}
use Rattle.fields.specs.Layouts.{out_of}
use Rattle.fields.proofs.Fitted.{put_at_lem}
use Rattle.frames.specs.Frames.{row_frame, row_line_length}
use Rattle.answers.specs.Output.{row_line}
use Rattle.answers.proofs.Text.{length_row, line_ok, row_exact}
use Rattle.answers.proofs.put_row.Goals as goal

pub unwrap-requires : goal.unwrap-requires
unwrap-requires c =
    let a = c.args in
    let d = length-drop (row_line_length * a.k) a.out.now in
    let h = c.requires.5 in
    let n = length-take-le ((row_line_length * a.k + row_line_length) - row_line_length * a.k) (drop (row_line_length * a.k) a.out.now) (omega arith) in
    let m = length_row a.id a.shared a.size a.least in
    line_ok row_frame (a.id ∷ a.shared ∷ a.size ∷ a.least ∷ []) _ c.write_row.result c.write_row.ensures.value (omega arith)

pub returns : goal.returns
returns c =
    let a = c.args in
    put_at_lem row_line_length a.k a.out.now c.write_row.new.out (row_line a.id a.shared a.size a.least) (out_of row_frame (a.id ∷ a.shared ∷ a.size ∷ a.least ∷ []) []) c.requires.5 c.write_row.ensures.out_after (row_exact a.id a.shared a.size a.least)
