-- `put_rows` meets its contract: the first k places have the first k rows of the cells.
use Rattle.std.proofs.Common.{◌≡◌, ◌∙◌, ap, List, ◌++◌, length, take, drop, arith}
use Rattle.std.proofs.lemmas.List.{length-take-le}
use Rattle.laws.proofs.Images.{tabulate_of}
use Rattle.rows.specs.declared.Row.{Row}
use Rattle.rows.specs.Rows.{row_in}
use Rattle.rows.proofs.Lists.{no_row}
use Rattle.rows.proofs.put_rows.Goals as goal

pub returns : goal.returns
returns c =
    let n = c.args.n in
    let m : length (take n c.args.rows.now) ≡ n = length-take-le n c.args.rows.now (omega arith) in
    ap (λ (l : List Row). l ++ drop n c.args.rows.now)
    (tabulate_of (row_in c.args.cells.now) n no_row c.loop-k.row-items (c.loop-k.auto.row-items ∙ m) (λ i h. c.loop-k.invariant i (omega arith)))
