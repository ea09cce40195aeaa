-- `with_entry` meets its contract: a pair more, or one reading more of the last.
-- Assumes nothing.
use mathlib.Core.Path.{sym, ◌∙◌}
use Rattle.weeks.proofs.Steps.{with_first, with_later}
use Rattle.weeks.proofs.with_entry.Goals as goal

pub returns-then-first_at : goal.returns-then-first_at
returns-then-first_at c =
    with_first _ _ _ _ _ c.amount_of-sum.ensures.0 c.tally_of-count.ensures.0
    (sym c.first_at.ensures ∙ c.if-first_at.true)

pub returns : goal.returns
returns c =
    with_later _ _ _ _ _ c.amount_of-sum.ensures.0 c.tally_of-count.ensures.0
    (sym c.first_at.ensures ∙ c.if-first_at.false)
