-- `likeness::divisor` meets its contract: the second argument falls at each call, to the remainder, which is the definition's step.
-- Assumes nothing.
use Rattle.likeness.proofs.+divisor.Given as goal

abbrev pub decreases-divisor : goal.decreases-divisor
decreases-divisor l = l.q
