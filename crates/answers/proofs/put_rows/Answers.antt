-- `put_rows` meets its contract: in front stand the lines of the rows so far.
use mathlib.Core.Path.{◌≡◌, ap, ◌∙◌}
use mathlib.Core.List.{List, ◌++◌}
use Prim.Native.Nat.{ℕ, ◌+◌, ◌*◌, ◌<◌}
use native.Mathlib.Omega.{arith}
use lib.ListN.{length, take, drop}
use Rattle.search.specs.Answers.{as_columns}
use Rattle.frames.specs.Frames.{row_line_length}
use Rattle.answers.specs.Output.{row_text, rows_text}
use Rattle.lines.proofs.Evenly.{texts_none, texts_more, texts_all, length_kept}
use Rattle.answers.proofs.Text.{row_even}
use Rattle.answers.proofs.put_rows.Goals as goal

pub loop-k-init : goal.loop-k-init
loop-k-init c = let a = c.args in texts_none (row_text (as_columns a.ids.now a.shared.now a.sizes.now a.least.now)) row_line_length (row_even (as_columns a.ids.now a.shared.now a.sizes.now a.least.now)) a.out.now

pub put_row-requires : goal.put_row-requires
put_row-requires c =
    let a = c.args in
    let l = c.loop-k in
    let p = c.requires.0 in
    let few = p.few in
    let n = c.requires.1 in
    let t : l.k < length a.ids.now = omega arith in
    let r = as_columns a.ids.now a.shared.now a.sizes.now a.least.now in
    let e = ap length l.invariant ∙ length_kept (row_text r) row_line_length (row_even r) a.out.now l.k (omega arith) in
    (p.id l.k t, p.share l.k t, p.size l.k t, p.least l.k t, omega arith, omega arith)

pub loop-k-preserved : goal.loop-k-preserved
loop-k-preserved c =
    let a = c.args in
    let l = c.loop-k in
    let r = as_columns a.ids.now a.shared.now a.sizes.now a.least.now in
    let line = row_text r l.k in
    c.put_row.ensures
    ∙ ap (λ (s : List ℕ). take (row_line_length * l.k) s ++ (line ++ drop (row_line_length * l.k + row_line_length) s)) l.invariant
    ∙ texts_more (row_text r) row_line_length (row_even r) a.out.now l.k

pub shape_of-out : goal.shape_of-out
shape_of-out c =
    let a = c.args in
    let l = c.loop-k in
    let n = c.requires.1 in
    let r = as_columns a.ids.now a.shared.now a.sizes.now a.least.now in
    ap length l.invariant ∙ length_kept (row_text r) row_line_length (row_even r) a.out.now l.k (omega arith)

pub returns : goal.returns
returns c =
    let a = c.args in
    let r = as_columns a.ids.now a.shared.now a.sizes.now a.least.now in
    let k : c.loop-k.k ≡ length a.ids.now = omega arith in
    c.loop-k.invariant
    ∙ ap (λ (m : ℕ). rows_text r m ++ drop (row_line_length * m) a.out.now) k
    ∙ texts_all (row_text r) row_line_length (row_even r) a.out.now (length a.ids.now) c.requires.1
