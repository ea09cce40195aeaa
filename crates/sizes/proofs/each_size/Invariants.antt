-- `each_size` meets its contract: after the sizes below y, their touches and their answers, and the tables as they are lent; the rows that were come
-- past have smaller sizes.
use Rattle.std.proofs.Common.{◌≡◌, ◌≤◌}
use Rattle.candidates.specs.Tables.{no_counts}
use Rattle.lists.specs.Sizes.{rows_under}
use Rattle.sizes.proofs.Upward.{Passed}
use Rattle.sizes.proofs.each_size.Given as goal

abbrev pub invariant-loop-y : goal.invariant-loop-y
invariant-loop-y l =
    record {
      passed : Passed l.words l.leasts l.features l.allowance l.y l.answers l.touches;
      cleared : l.counts ≡ no_counts;
      known : l.under ≤ rows_under l.words l.y;
    }
