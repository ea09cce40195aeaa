-- `judge_line` meets its contract: one line too many is not read, and any other is refused where its reading is.
-- Assumes nothing.
use Rattle.std.proofs.Common.{Ok, Err, arith}
use Rattle.std.proofs.lemmas.Result.{err_from_is_err_and}
use Rattle.importer.proofs.Judging.{judge_many, judge_read}
use Rattle.importer.proofs.judge_line.Goals as goal

pub returns-then-count-ge-MOST_LINES : goal.returns-then-count-ge-MOST_LINES
returns-then-count-ge-MOST_LINES c = judge_many _ _ c.if-count-ge-MOST_LINES.true

pub returns-in_err-read_log : goal.returns-in_err-read_log
returns-in_err-read_log c =
    let p = err_from_is_err_and c.from_residual.result c.from_residual.ensures.1 in
    rw (p.1, p.2) (judge_read c.args.line.now 255 (omega arith) (Err c.in_err-read_log.field-0.0) c.in_err-read_log.ensures.result_value c.args.count c.if-count-ge-MOST_LINES.false)

pub returns : goal.returns
returns c = judge_read c.args.line.now 255 (omega arith) (Ok c.in_ok-read_log.field-0) c.in_ok-read_log.ensures.result_value c.args.count c.if-count-ge-MOST_LINES.false
