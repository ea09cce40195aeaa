-- `put_outcome` meets its contract: the line fills its part, and the rest stays.
use mathlib.Core.List.{[], ◌∷◌}
use Prim.Native.Nat.{◌*◌, ◌%◌}
use native.Mathlib.Omega.{arith}
use Rattle.fields.specs.Layouts.{out_of}
use Rattle.fields.proofs.Fitted.{put_at_lem}
use Rattle.log_frames.specs.Frames.{outcome_frame, outcome_line_length}
use Rattle.reports.specs.Tables.{outcome_text}
use Rattle.answers.proofs.Text.{line_ok}
use Rattle.reports.proofs.Text.{length_outcome, outcome_exact, part_length}
use Rattle.reports.proofs.put_outcome.Goals as goal

pub returns : goal.returns
returns c =
    let a = c.args in
    put_at_lem outcome_line_length a.k a.out.now c.write_outcome.new.out (outcome_text a.case a.value) (out_of outcome_frame (a.case % 256 ∷ a.value % 65536 ∷ []) []) c.requires.1 c.write_outcome.ensures.out_after (outcome_exact a.case a.value)

pub unwrap-requires : goal.unwrap-requires
unwrap-requires c =
    let a = c.args in
    let t = c.write_outcome in
    let l = length_outcome (a.case % 256) (a.value % 65536) in
    let p = part_length (outcome_line_length * a.k) outcome_line_length a.out.now c.requires.1 in
    line_ok outcome_frame (a.case % 256 ∷ a.value % 65536 ∷ []) _ t.result t.ensures.value (omega arith)
