-- `sizes_present` meets its contract: after i turns, which sizes the first i names have.
use Rattle.std.proofs.Common.{◌≡◌}
use Rattle.laws.specs.Lists.{tabulate}
use Rattle.sizes.specs.Method.{sizes_end}
use Rattle.sizes.proofs.Present.{present_by}
use Rattle.sizes.proofs.sizes_present.Given as goal

abbrev pub invariant-loop-i : goal.invariant-loop-i
invariant-loop-i l = l.table ≡ tabulate (present_by l.words l.i) sizes_end
