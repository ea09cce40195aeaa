-- `put_pairs` meets its contract: in front stand the lines so far.
use mathlib.Core.Path.{◌≡◌}
use mathlib.Core.List.{◌++◌}
use Prim.Native.Nat.{◌*◌}
use lib.ListN.{drop}
use Rattle.laws.specs.Lists.{tabulate}
use Rattle.lines.specs.Lines.{joined}
use Rattle.log_frames.specs.Frames.{pair_line_length}
use Rattle.weeks.specs.Pairs.{as_columns}
use Rattle.reports.specs.Tables.{pair_at}
use Rattle.reports.proofs.put_pairs.Given as goal

abbrev pub invariant-loop-k : goal.invariant-loop-k
invariant-loop-k l = l.out ≡ joined (tabulate (pair_at (as_columns l.ids l.weeks l.sums l.counts)) l.k) ++ drop (pair_line_length * l.k) l.initial.out
