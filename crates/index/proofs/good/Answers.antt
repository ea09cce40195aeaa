-- `good` meets its contract: the parts stand in the order of the definition.
use Rattle.std.proofs.Common.{arith}
use Rattle.std.proofs.lemmas.Grind.{common_steps}
use Rattle.index.specs.Good.{good_of}
use Rattle.index.proofs.good.Goals as goal

pub returns-then-rows_good : goal.returns-then-rows_good
unfolding good_of
returns-then-rows_good c = grind (arith, common_steps)

pub returns-else-rows_good : goal.returns-else-rows_good
unfolding good_of
returns-else-rows_good c = grind (arith, common_steps)
