-- `least_counts` meets its contract: after y turns, the least counts of the sizes below y stand in front.
use Rattle.std.proofs.Common.{◌≡◌, replicate}
use Rattle.laws.proofs.Tables.{table_over}
use Rattle.sizes.specs.Method.{sizes_end}
use Rattle.sizes.specs.Tables.{least_at}
use Rattle.sizes.proofs.least_counts.Given as goal

abbrev pub invariant-loop-y : goal.invariant-loop-y
invariant-loop-y l = l.leasts ≡ table_over (least_at l.words l.measure l.p l.q l.x) l.y (replicate sizes_end 0)
