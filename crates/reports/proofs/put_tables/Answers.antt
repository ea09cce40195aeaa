-- `put_tables` meets its contract: outcomes, pairs and end stand one after the other, or nothing is written.
use mathlib.Core.Path.{sym}
use mathlib.Core.List.{[], ◌∷◌}
use Prim.Native.Nat.{◌+◌, ◌*◌, ◌≤◌}
use native.Mathlib.Omega.{arith}
use lib.ListN.{length}
use lib.Seq.{length-take-le}
use Rattle.fields.proofs.Fitted.{fitting_none, fitted_none, fitting_all}
use Rattle.log_frames.specs.Frames.{import_end_frame, outcome_line_length, pair_line_length, import_end_line_length}
use Rattle.weeks.specs.Pairs.{as_columns}
use Rattle.importer.specs.Import.{as_outcomes}
use Rattle.reports.specs.Tables.{tables_text}
use Rattle.answers.proofs.Text.{line_ok}
use Rattle.reports.proofs.Text.{length_end, length_tables, tables_put, end_room}
use Rattle.reports.proofs.put_tables.Goals as goal

pub returns-then-out-total : goal.returns-then-out-total
returns-then-out-total c =
    let a = c.args in
    let o = as_outcomes a.cases.now a.values.now in
    let d = as_columns a.ids.now a.weeks.now a.sums.now a.counts.now in
    let n = length_tables a.n a.m o d in
    let h = c.if-out-total.true in
    (fitting_none (tables_text a.n a.m o d) (length a.out.now) (omega arith), fitted_none (tables_text a.n a.m o d) a.out.now (omega arith))

pub slice_bounds-put_outcomes-end-2 : goal.slice_bounds-put_outcomes-end-2
slice_bounds-put_outcomes-end-2 c =
    let a = c.args in
    let h = c.if-out-total.false in
    sym (length-take-le (outcome_line_length * a.n) a.out.now (omega arith))

pub put_outcomes-requires : goal.put_outcomes-requires
put_outcomes-requires c =
    let a = c.args in
    let h = c.if-out-total.false in
    (c.requires.0, c.requires.1, length-take-le (outcome_line_length * a.n) a.out.now (omega arith))

pub returns : goal.returns
returns c =
    let a = c.args in
    let o = as_outcomes a.cases.now a.values.now in
    let d = as_columns a.ids.now a.weeks.now a.sums.now a.counts.now in
    let h : outcome_line_length * a.n + pair_line_length * a.m + import_end_line_length ≤ length a.out.now = c.if-out-total.false in (
      fitting_all (tables_text a.n a.m o d) (length a.out.now) (outcome_line_length * a.n + pair_line_length * a.m + import_end_line_length) (length_tables a.n a.m o d) h,
      tables_put a.n a.m o d a.out.now h _ _ _ c.put_outcomes.ensures c.put_pairs.ensures c.write_import_end.ensures.out_after,
    )

pub unwrap-requires : goal.unwrap-requires
unwrap-requires c =
    let a = c.args in
    let t = c.write_import_end in
    let h = c.if-out-total.false in
    let o = as_outcomes a.cases.now a.values.now in
    let d = as_columns a.ids.now a.weeks.now a.sums.now a.counts.now in
    let p = end_room a.n a.m o d a.out.now h _ _ c.put_outcomes.ensures c.put_pairs.ensures in
    let l = length_end a.n a.m in
    line_ok import_end_frame (a.n ∷ a.m ∷ []) _ t.result t.ensures.value (omega arith)
