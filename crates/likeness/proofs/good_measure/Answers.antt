-- `likeness::good_measure` meets its contract: the four measures are the numbers from 1 to 4.
-- Assumes nothing.
use Rattle.std.proofs.Common.{rules}
use Rattle.likeness.proofs.Measures.{measure_range}
use Rattle.likeness.proofs.good_measure.Goals as goal

pub returns : goal.returns
returns c = rw measure_range (search rules)
