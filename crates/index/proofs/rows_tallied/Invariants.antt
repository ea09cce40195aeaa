-- `rows_tallied` meets its contract: the first lists are good, and the tally has them.
use Rattle.std.proofs.Common.{◌≡◌, true}
use Rattle.laws.specs.Below.{all_below}
use Rattle.index.specs.Good.{list_good}
use Rattle.index.specs.Check.{Tallied}
use Rattle.index.proofs.rows_tallied.Given as goal

abbrev pub invariant-loop-row : goal.invariant-loop-row
invariant-loop-row l = (all_below l.row (list_good l.words) ≡ true) × Tallied l.words l.row l.tally
