-- `likeness::reaches_threshold` meets its contract: each arm is the definition's line.
-- Assumes nothing.
use Rattle.std.proofs.Common.{arith}
use Rattle.likeness.specs.Measures.{reaches}
use Rattle.likeness.proofs.reaches_threshold.Goals as goal

pub returns-in-Dice : goal.returns-in-Dice
unfolding reaches
returns-in-Dice c = grind arith

pub returns-in-Jaccard : goal.returns-in-Jaccard
unfolding reaches
returns-in-Jaccard c = grind arith

pub returns-in-Cosine : goal.returns-in-Cosine
unfolding reaches
returns-in-Cosine c = grind arith

pub returns-in-Overlap : goal.returns-in-Overlap
unfolding reaches
returns-in-Overlap c = grind arith
