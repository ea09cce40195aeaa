-- `likeness::lowest` meets its contract: a divisor of 0 stands for 0 / 0 alone, and any other divides.
-- Assumes nothing.
use mathlib.Core.Path.{sym, ◌∙◌}
use native.Mathlib.Nat.{div-zero}
use Rattle.likeness.specs.Terms.{lowest_terms}
use Rattle.likeness.proofs.lowest.Goals as goal

pub returns-then-g-eq0 : goal.returns-then-g-eq0
unfolding lowest_terms
returns-then-g-eq0 c = simp (sym c.divisor-g.ensures ∙ c.if-g-eq0.true, div-zero)

pub returns-else-g-eq0 : goal.returns-else-g-eq0
unfolding lowest_terms
returns-else-g-eq0 c = rw c.divisor-g.ensures
