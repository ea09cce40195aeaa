-- `rows_of_size` meets its contract: of no row is it known that its size is smaller, and of those up to the size's first it is then.
use Rattle.std.proofs.Common.{arith}
use Rattle.lists.proofs.Sized.{under_next}
use Rattle.lists.proofs.rows_of_size.Goals as goal

pub rows_under-from-requires : goal.rows_under-from-requires
rows_under-from-requires c = (c.requires, omega arith)

pub rows_under-to-requires : goal.rows_under-to-requires
rows_under-to-requires c =
    let n = under_next c.args.words.now c.args.size in
    (c.requires, rw (c.rows_under-from.ensures, c.from.ensures, c.from-2.ensures) n)

pub rows_between-requires : goal.rows_between-requires
rows_between-requires c =
    (c.requires, rw c.from.ensures at c.rows_under-from.ensures, rw c.from-2.ensures at c.rows_under-to.ensures)

pub returns : goal.returns
returns c = c.rows_between.ensures
