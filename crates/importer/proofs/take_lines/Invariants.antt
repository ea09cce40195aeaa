-- `take_lines` meets its contract: at each place, the tables start with the outcomes and the entries of the lines before it.
-- Assumes nothing.
use Rattle.std.proofs.Common.{◌≡◌, length}
use Rattle.lines.specs.Lines.{lines_of}
use Rattle.importer.specs.Import.{as_outcomes}
use Rattle.importer.proofs.Reached.{Reached}
use Rattle.importer.proofs.Tables.{Told}
use Rattle.importer.proofs.take_lines.Given as goal

abbrev pub invariant-loop-n : goal.invariant-loop-n
invariant-loop-n l =
    Reached l.log l.n-iterator.iter.rest.now l.n-iterator.count × (length l.entries ≡ 1024) × Told (lines_of l.log) l.words l.s l.n-iterator.count (as_outcomes l.initial.cases l.initial.values) (as_outcomes l.cases l.values) l.entries l.k
