-- `rows_tallied` meets its contract: the first lists are good, and the tally has them.
use Rattle.std.proofs.Common.{sym, ◌∙◌, arith}
use Rattle.laws.proofs.Below.{all_nil, all_fails}
use Rattle.laws.proofs.FirstFound.{all_more}
use Rattle.words.specs.Words.{row_count}
use Rattle.index.specs.Good.{list_good}
use Rattle.index.proofs.Facts.{head_facts}
use Rattle.index.proofs.rows_tallied.Goals as goal

pub row_count-row-end-requires : goal.row_count-row-end-requires
row_count-row-end-requires c = (head_facts _ c.requires.0.named.head).three

pub loop-row-init : goal.loop-row-init
loop-row-init c = (all_nil (list_good c.args.words.now), c.requires.3)

pub returns-then-not-list_good-clause-value : goal.returns-then-not-list_good-clause-value
returns-then-not-list_good-clause-value c =
    sym
    (all_fails (row_count c.args.words.now) (list_good c.args.words.now) c.loop-row.row (omega (arith, c.row_count-row-end.ensures.0))
    (sym c.list_good.ensures.value ∙ c.if-not-list_good.true))

pub loop-row-preserved : goal.loop-row-preserved
loop-row-preserved c =
    let g = c.list_good in
    let good = c.if-not-list_good.false in
    (all_more (list_good c.args.words.now) c.loop-row.row c.loop-row.invariant.0 (sym g.ensures.value ∙ good), g.ensures.tallied good)
