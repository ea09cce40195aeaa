-- `likeness::sizes_beside` meets its contract: the two tests are the definition's.
-- Assumes nothing.
use Rattle.std.proofs.Common.{arith}
use Rattle.std.proofs.lemmas.Grind.{common_steps}
use Rattle.likeness.specs.Sizes.{beside}
use Rattle.likeness.proofs.sizes_beside.Goals as goal

pub returns-then-low-x : goal.returns-then-low-x
unfolding beside
returns-then-low-x c = grind (arith, common_steps)

pub returns-else-low-x : goal.returns-else-low-x
unfolding beside
returns-else-low-x c = grind (arith, common_steps)
