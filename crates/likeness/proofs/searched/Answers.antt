-- `likeness::searched` meets its contract: without a measure no size is searched, the threshold is judged first, and each arm is the definition's line.
-- Assumes nothing.
use Rattle.std.proofs.Common.{arith}
use Rattle.std.proofs.lemmas.Grind.{common_steps}
use Rattle.likeness.specs.Sizes.{may_reach, is_searched}
use Rattle.likeness.proofs.searched.Goals as goal

pub returns-in_default : goal.returns-in_default
unfolding is_searched may_reach
returns-in_default c = grind (arith, common_steps)

pub returns-then-not-good_threshold : goal.returns-then-not-good_threshold
unfolding is_searched
returns-then-not-good_threshold c = grind (arith, common_steps)

pub returns-in-Dice : goal.returns-in-Dice
unfolding is_searched may_reach
returns-in-Dice c = grind (arith, common_steps)

pub returns-in-Jaccard : goal.returns-in-Jaccard
unfolding is_searched may_reach
returns-in-Jaccard c = grind (arith, common_steps)

pub returns-in-Cosine : goal.returns-in-Cosine
unfolding is_searched may_reach
returns-in-Cosine c = grind (arith, common_steps)

pub returns-in-Overlap : goal.returns-in-Overlap
unfolding is_searched may_reach
returns-in-Overlap c = grind (arith, common_steps)
