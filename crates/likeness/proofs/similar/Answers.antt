-- `likeness::similar` meets its contract: without a measure nothing reaches, and the threshold is judged first, as in the definition.
-- Assumes nothing.
use Rattle.std.proofs.Common.{arith}
use Rattle.std.proofs.lemmas.Grind.{common_steps}
use Rattle.likeness.specs.Measures.{reaches, is_similar}
use Rattle.likeness.proofs.similar.Goals as goal

pub returns-in_default : goal.returns-in_default
unfolding is_similar reaches
returns-in_default c = grind (arith, common_steps)

pub returns-then-good_threshold : goal.returns-then-good_threshold
unfolding is_similar
returns-then-good_threshold c = grind (arith, common_steps)

pub returns-else-good_threshold : goal.returns-else-good_threshold
unfolding is_similar
returns-else-good_threshold c = grind (arith, common_steps)
