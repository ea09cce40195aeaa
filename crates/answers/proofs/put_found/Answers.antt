-- `put_found` meets its contract: the rows fill the front, and their end stands after them.
use mathlib.Core.Path.{◌≡◌, ap, ◌∙◌}
use mathlib.Core.List.{List, [], ◌∷◌, ◌++◌}
use Prim.Native.Nat.{ℕ, ◌+◌, ◌-◌, ◌*◌}
use native.Mathlib.Omega.{arith}
use lib.ListN.{length, take, drop, length-append, length-drop}
use lib.Seq.{length-take-le}
use Rattle.search.specs.Answers.{as_columns}
use Rattle.frames.specs.Frames.{end_frame, row_line_length, end_line_length}
use Rattle.answers.specs.Output.{end_line, found_text}
use Rattle.fields.proofs.Fitted.{fitting_none, fitted_none, fitting_all, put_behind}
use Rattle.answers.proofs.Text.{line_ok, length_end, length_rows, length_found, end_exact, fitted_found}
use Rattle.answers.proofs.Asking.{shown_front, rows_front}
use Rattle.answers.proofs.put_found.Goals as goal

pub returns-then-out-total : goal.returns-then-out-total
returns-then-out-total c =
    let a = c.args in
    let text = found_text a.found.rows a.found.touches a.found.p a.found.q (as_columns a.ids.now a.shared.now a.sizes.now a.least.now) in
    let n = length_found a.found.rows a.found.touches a.found.p a.found.q (as_columns a.ids.now a.shared.now a.sizes.now a.least.now) in
    let h = c.if-out-total.true in
    (fitting_none text (length a.out.now) (omega arith), fitted_none text a.out.now (omega arith))

pub put_rows-requires : goal.put_rows-requires
put_rows-requires c =
    let a = c.args in
    let h = c.if-out-total.false in
    let n = length-take-le a.found.rows a.ids.now c.requires.in_ids in
    let m = length-take-le (row_line_length * a.found.rows) a.out.now (omega arith) in
    (shown_front _ _ c.requires, omega arith)

pub unwrap-requires : goal.unwrap-requires
unwrap-requires c =
    let a = c.args in
    let h = c.if-out-total.false in
    let n = row_line_length * a.found.rows in
    let k : (n + end_line_length) - n ≡ end_line_length = omega arith in
    let u = c.put_rows.new.out ++ drop n a.out.now in
    let l : length c.put_rows.new.out ≡ n = ap length (c.put_rows.ensures ∙ rows_front _ _ c.requires) ∙ length_rows (as_columns a.ids.now a.shared.now a.sizes.now a.least.now) a.found.rows in
    let v = length-append c.put_rows.new.out (drop n a.out.now) in
    let w = length-drop n a.out.now in
    let x = length-drop n u in
    let t = length-take-le ((n + end_line_length) - n) (drop n u) (omega arith) in
    let e = length_end a.found.rows a.found.touches a.found.p a.found.q in
    line_ok end_frame (a.found.rows ∷ a.found.touches ∷ a.found.p ∷ a.found.q ∷ []) _ c.write_end.result c.write_end.ensures.value (omega arith)

pub returns : goal.returns
returns c =
    let a = c.args in
    let h = c.if-out-total.false in
    let y = c.put_rows in
    let r = y.new.out in
    let f = y.ensures ∙ rows_front _ _ c.requires in
    let e = length_rows (as_columns a.ids.now a.shared.now a.sizes.now a.least.now) a.found.rows in
    let l : length c.put_rows.new.out ≡ row_line_length * a.found.rows = ap length f ∙ e in
    let k : (row_line_length * a.found.rows + end_line_length) - row_line_length * a.found.rows ≡ end_line_length = omega arith in
    let u = c.put_rows.new.out ++ drop (row_line_length * a.found.rows) a.out.now in
    let v = length-append c.put_rows.new.out (drop (row_line_length * a.found.rows) a.out.now) in
    let w = length-drop (row_line_length * a.found.rows) a.out.now in
    let x = length-drop (row_line_length * a.found.rows) u in
    let t = length-take-le ((row_line_length * a.found.rows + end_line_length) - row_line_length * a.found.rows) (drop (row_line_length * a.found.rows) u) (omega arith) in
    let z = c.write_end in (
      fitting_all (found_text a.found.rows a.found.touches a.found.p a.found.q (as_columns a.ids.now a.shared.now a.sizes.now a.least.now)) (length a.out.now) (row_line_length * a.found.rows + end_line_length) (length_found a.found.rows a.found.touches a.found.p a.found.q (as_columns a.ids.now a.shared.now a.sizes.now a.least.now)) (omega arith),
      put_behind c.put_rows.new.out a.out.now z.new.out (end_line a.found.rows a.found.touches a.found.p a.found.q) (row_line_length * a.found.rows) ((row_line_length * a.found.rows + end_line_length) - row_line_length * a.found.rows) end_line_length l k
          (z.ensures.out_after ∙ end_exact a.found.rows a.found.touches a.found.p a.found.q (take ((row_line_length * a.found.rows + end_line_length) - row_line_length * a.found.rows) (drop (row_line_length * a.found.rows) u)) (t ∙ k))
          ∙ ap (λ (s : List ℕ). (s ++ end_line a.found.rows a.found.touches a.found.p a.found.q) ++ drop (row_line_length * a.found.rows + end_line_length) a.out.now) f
          ∙ fitted_found a.found.rows a.found.touches a.found.p a.found.q (as_columns a.ids.now a.shared.now a.sizes.now a.least.now) a.out.now (omega arith),
    )
