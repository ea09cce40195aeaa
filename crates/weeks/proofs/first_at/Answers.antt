-- `first_at` meets its contract.
-- Assumes nothing.
use mathlib.Core.Path.{◌∙◌}
use borrow.Author.Tests.{eq-eqb}
use Rattle.weeks.proofs.Steps.{first_start, first_next}
use Rattle.weeks.proofs.first_at.Goals as goal

pub returns-then-i-eq0 : goal.returns-then-i-eq0
returns-then-i-eq0 c = eq-eqb _ _ c.if-i-eq0.true ∙ first_start _ _ c.if-i-eq0.true

pub returns-else-i-eq0 : goal.returns-else-i-eq0
returns-else-i-eq0 c = first_next _ _ c.if-i-eq0.false
