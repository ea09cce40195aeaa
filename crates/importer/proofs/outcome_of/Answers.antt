-- `outcome_of` meets its contract: the ids of the rows stand at the start of the column.
-- Assumes nothing.
use mathlib.Core.Path.{refl}
use Rattle.importer.proofs.Searching.{searched_within, searched_outcome}
use Rattle.importer.proofs.outcome_of.Goals as goal

pub outcome_from-requires : goal.outcome_from-requires
outcome_from-requires c =
    let a = c.args in
    searched_within a.query.now a.s a.words.now _ _ _ c.search_checked-answer.ensures refl

pub returns : goal.returns
returns c =
    let a = c.args in
    searched_outcome a.query.now a.s a.words.now _ _ _ c.search_checked-answer.ensures refl _ c.outcome_from.ensures
