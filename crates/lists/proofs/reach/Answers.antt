-- `reach` meets its contract: it ends at a row whose size is not below, or behind the last row.
use Rattle.std.proofs.Common.{arith}
use Rattle.index.proofs.Laws.{good_three, good_within_lem}
use Rattle.lists.proofs.reach.Goals as goal

pub row_count-requires : goal.row_count-requires
row_count-requires c = good_three _ c.requires.0

pub row_size-requires : goal.row_size-requires
row_size-requires c = omega (arith, c.row_count.ensures.0, good_within_lem c.args.words.now c.requires.0)
