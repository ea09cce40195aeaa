-- `count_pairs` meets its contract: after i entries the steps have counted the pairs of these.
-- Assumes nothing.
use mathlib.Core.Path.{◌≡◌}
use Rattle.weeks.specs.Steps.{tallied_to}
use Rattle.weeks.proofs.count_pairs.Given as goal

abbrev pub invariant-loop-i : goal.invariant-loop-i
invariant-loop-i l = l.t ≡ tallied_to l.entries l.i
