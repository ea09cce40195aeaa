-- `new_row` meets its contract: its four words are put where there is room for them.
use Prim.Native.Nat.{◌+◌, ◌*◌}
use native.Mathlib.Omega.{arith}
use borrow.Author.Tests.{le-leb, lt-leb}
use lib.ListN.{length}
use Rattle.words.specs.Words.{row_width}
use Rattle.index_writer.specs.Steps.{new_row}
use Rattle.index_writer.proofs.Over.{mid_sets}
use Rattle.index_writer.proofs.new_row.Goals as goal

pub returns-then-end-out : goal.returns-then-end-out
unfolding new_row
returns-then-end-out c =
    let a = c.args in
    rw (le-leb (row_width * a.d + 4) (length a.out.now) c.if-end-out.true) (mid_sets a.out.now (row_width * a.d) _ _ _ c.copy_from_slice.ensures.after (omega arith) c.if-end-out.true)

pub returns-else-end-out : goal.returns-else-end-out
unfolding new_row
returns-else-end-out c =
    let a = c.args in
    rw (lt-leb (row_width * a.d + 4) (length a.out.now) c.if-end-out.false)
