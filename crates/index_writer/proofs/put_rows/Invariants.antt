-- `put_rows` meets its contract: after i turns, the rows of the first i postings are there.
use Rattle.index_writer.specs.Keys.{triples_at}
use Rattle.index_writer.specs.Steps.{RowsAt}
use Rattle.index_writer.proofs.put_rows.Given as goal

abbrev pub invariant-loop-i : goal.invariant-loop-i
invariant-loop-i l = RowsAt (triples_at l.names l.keys) l.i l.d l.out
