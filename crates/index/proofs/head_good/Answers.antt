-- `head_good` meets its contract: the tests stand in the order of the definition.
use Rattle.std.proofs.Common.{arith}
use Rattle.index.specs.Good.{head_good}
use Rattle.index.proofs.head_good.Goals as goal

pub returns-then-posting_count-le-MOST_POSTINGS : goal.returns-then-posting_count-le-MOST_POSTINGS
unfolding head_good
returns-then-posting_count-le-MOST_POSTINGS c = grind arith

pub returns-else-posting_count-le-MOST_POSTINGS : goal.returns-else-posting_count-le-MOST_POSTINGS
unfolding head_good
returns-else-posting_count-le-MOST_POSTINGS c = grind arith
