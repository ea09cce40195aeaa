-- `import` meets its contract: the lines are judged before the room, and the room for them before anything is searched.
-- Assumes nothing.
use Rattle.std.proofs.Common.{◌<◌, arith}
use Rattle.std.proofs.lemmas.Result.{err_from_is_err_and}
use Rattle.importer.specs.Import.{as_outcomes, outcome_room}
use Rattle.importer.proofs.Whole.{import_refused, lines_full}
use Rattle.importer.proofs.import.Goals as goal

pub returns-in_err-n : goal.returns-in_err-n
returns-in_err-n c =
    let p = err_from_is_err_and c.from_residual.result c.from_residual.ensures.1 in
    rw (p.1, p.2) (import_refused _ _ _ _ _ _ _ c.in_err-n.ensures)

pub returns-then-min-n : goal.returns-then-min-n
returns-then-min-n c =
    let a = c.args in
    let h : outcome_room (as_outcomes a.cases.now a.values.now) < c.in_ok-n.n = omega (arith, c.min.ensures) in
    lines_full _ _ _ _ _ _ c.in_ok-n.ensures h
