-- `grow_row` meets its contract: where there is room for the row, its last word is its count.
use Prim.Native.Nat.{◌*◌}
use borrow.Author.Tests.{le-leb, lt-leb}
use lib.ListN.{length}
use Rattle.words.specs.Words.{row_width}
use Rattle.index_writer.specs.Steps.{grown_row}
use Rattle.index_writer.proofs.grow_row.Goals as goal

pub returns-then-end-out : goal.returns-then-end-out
unfolding grown_row
returns-then-end-out c = rw (le-leb (row_width * c.args.d) (length c.args.out.now) c.if-end-out.true)

pub returns-else-end-out : goal.returns-else-end-out
unfolding grown_row
returns-else-end-out c = rw (lt-leb (row_width * c.args.d) (length c.args.out.now) c.if-end-out.false)
