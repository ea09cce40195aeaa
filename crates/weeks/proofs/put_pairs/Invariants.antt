-- `put_pairs` meets its contract: after i entries the columns start with the pairs of these, and the steps have their count and the last sum and count.
-- Assumes nothing.
use mathlib.Core.Path.{◌≡◌}
use lib.ListN.{take}
use Rattle.weeks.specs.Pairs.{as_columns, columns_of, columns_over}
use Rattle.weeks.specs.Steps.{tallied_to}
use Rattle.weeks.proofs.put_pairs.Given as goal

abbrev pub invariant-loop-i : goal.invariant-loop-i
invariant-loop-i l =
    (l.t ≡ tallied_to l.entries l.i)
    × (as_columns l.ids l.weeks l.sums l.counts ≡ columns_over (columns_of (take l.i l.entries)) (as_columns l.initial.ids l.initial.weeks l.initial.sums l.initial.counts))
