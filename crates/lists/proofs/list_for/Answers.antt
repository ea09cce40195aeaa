-- `list_for` meets its contract: a list only where the index is good.
use mathlib.Core.Path.{sym, ◌∙◌}
use Rattle.lists.specs.Lists.{span_for}
use borrow.Author.Rules.{rules}
use Rattle.lists.proofs.list_for.Goals as goal

pub list_for_good-requires : goal.list_for_good-requires
list_for_good-requires c = sym c.good.ensures ∙ c.if-good.true

pub returns-then-good : goal.returns-then-good
unfolding span_for
returns-then-good c = rw (sym c.good.ensures ∙ c.if-good.true) c.list_for_good.ensures

pub returns : goal.returns
unfolding span_for
returns c = rw (sym c.good.ensures ∙ c.if-good.false) (search rules)
