-- `judge_lines` meets its contract: at each place, what the lines from there on come to is what all lines come to.
-- Assumes nothing.
use Rattle.std.proofs.Common.{◌≤◌}
use Rattle.importer.proofs.Reached.{Reached}
use Rattle.importer.proofs.Judging.{Same}
use Rattle.importer.proofs.judge_lines.Given as goal

abbrev pub invariant-loop-line : goal.invariant-loop-line
invariant-loop-line l = (l.n ≤ 1024) × Reached l.log l.line-iterator.rest.now l.n × Same l.log l.n
