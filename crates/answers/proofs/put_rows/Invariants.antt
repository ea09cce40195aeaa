-- `put_rows` meets its contract: in front stand the lines of the rows so far.
use mathlib.Core.Path.{◌≡◌}
use mathlib.Core.List.{◌++◌}
use Prim.Native.Nat.{◌*◌}
use lib.ListN.{drop}
use Rattle.search.specs.Answers.{as_columns}
use Rattle.frames.specs.Frames.{row_line_length}
use Rattle.answers.specs.Output.{rows_text}
use Rattle.answers.proofs.put_rows.Given as goal

abbrev pub invariant-loop-k : goal.invariant-loop-k
invariant-loop-k l = l.out ≡ rows_text (as_columns l.ids l.shared l.sizes l.least) l.k ++ drop (row_line_length * l.k) l.initial.out
