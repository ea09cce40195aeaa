-- The worked figures of an import hold, all of them, by computation from the definitions; that no bytes at all are no frame is a statement.
-- Assumes nothing.
use mathlib.Core.Path.{refl}
use Rattle.laws.specs.Cases.{first_case}
use Rattle.laws.specs.Lists.{member, sum_of}
use Rattle.laws.specs.Sort.{insert, sort_of}
use Rattle.statements.proofs.LogFrames.{log_frames}
use Rattle.weeks.specs.Pairs.{once_of, pairs_of, amount, tally}
use Rattle.importer.specs.Import.{outcome_from, entry_from, judge_line, judged_from}
use Rattle.importer.specs.Figures.{FiguresRight}

pub figures_right : FiguresRight
unfolding outcome_from entry_from judged_from judge_line first_case pairs_of sort_of insert once_of member sum_of amount tally
figures_right = (refl, refl, refl, refl, rw log_frames.log_empty, refl)
