-- `likeness::good_threshold` meets its contract: the tests are the definition's, in its order.
-- Assumes nothing.
use Rattle.std.proofs.Common.{arith}
use Rattle.std.proofs.lemmas.Grind.{common_steps}
use Rattle.likeness.specs.Measures.{good_threshold}
use Rattle.likeness.proofs.good_threshold.Goals as goal

pub returns-then-p-q : goal.returns-then-p-q
unfolding good_threshold
returns-then-p-q c = grind (arith, common_steps)

pub returns-else-p-q : goal.returns-else-p-q
unfolding good_threshold
returns-else-p-q c = grind (arith, common_steps)
