-- `put_outcomes` meets its contract: in front stand the lines so far.
use mathlib.Core.Path.{◌≡◌}
use mathlib.Core.List.{◌++◌}
use Prim.Native.Nat.{◌*◌}
use lib.ListN.{drop}
use Rattle.laws.specs.Lists.{tabulate}
use Rattle.lines.specs.Lines.{joined}
use Rattle.log_frames.specs.Frames.{outcome_line_length}
use Rattle.importer.specs.Import.{as_outcomes}
use Rattle.reports.specs.Tables.{outcome_at}
use Rattle.reports.proofs.put_outcomes.Given as goal

abbrev pub invariant-loop-k : goal.invariant-loop-k
invariant-loop-k l = l.out ≡ joined (tabulate (outcome_at (as_outcomes l.cases l.values)) l.k) ++ drop (outcome_line_length * l.k) l.initial.out
