-- `put_pair` meets its contract: the line fills its part, and the rest stays.
use mathlib.Core.List.{[], ◌∷◌}
use Prim.Native.Nat.{◌*◌, ◌%◌}
use native.Mathlib.Omega.{arith}
use Rattle.fields.specs.Layouts.{out_of}
use Rattle.fields.proofs.Fitted.{put_at_lem}
use Rattle.log_frames.specs.Frames.{pair_frame, pair_line_length}
use Rattle.reports.specs.Tables.{pair_text}
use Rattle.answers.proofs.Text.{line_ok}
use Rattle.reports.proofs.Text.{length_pair, pair_exact, part_length}
use Rattle.reports.proofs.put_pair.Goals as goal

pub returns : goal.returns
returns c =
    let a = c.args in
    put_at_lem pair_line_length a.k a.out.now c.write_pair.new.out (pair_text a.id a.week a.sum a.count) (out_of pair_frame (a.id % 65536 ∷ a.week % 65536 ∷ a.sum ∷ a.count % 65536 ∷ []) []) c.requires.1 c.write_pair.ensures.out_after (pair_exact a.id a.week a.sum a.count)

pub unwrap-requires : goal.unwrap-requires
unwrap-requires c =
    let a = c.args in
    let t = c.write_pair in
    let l = length_pair (a.id % 65536) (a.week % 65536) a.sum (a.count % 65536) in
    let p = part_length (pair_line_length * a.k) pair_line_length a.out.now c.requires.1 in
    line_ok pair_frame (a.id % 65536 ∷ a.week % 65536 ∷ a.sum ∷ a.count % 65536 ∷ []) _ t.result t.ensures.value (omega arith)
