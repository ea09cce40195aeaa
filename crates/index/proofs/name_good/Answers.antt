-- `name_good` meets its contract: the tests stand in the order of the definition.
use Rattle.std.proofs.Common.{arith}
use Rattle.std.proofs.lemmas.Grind.{common_steps}
use Rattle.index.specs.Good.{name_good}
use Rattle.index.proofs.name_good.Goals as goal

pub returns-then-name_id-le-LARGEST_ID : goal.returns-then-name_id-le-LARGEST_ID
unfolding name_good
returns-then-name_id-le-LARGEST_ID c = grind (arith, common_steps)

pub returns-else-name_id-le-LARGEST_ID : goal.returns-else-name_id-le-LARGEST_ID
unfolding name_good
returns-else-name_id-le-LARGEST_ID c = grind (arith, common_steps)
