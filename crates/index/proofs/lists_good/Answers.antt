-- `lists_good` meets its contract: the tally of all rows is compared with the sizes.
use Rattle.std.proofs.Common.{sym, ◌∙◌, arith}
use Rattle.index.proofs.Facts.{head_facts}
use Rattle.index.proofs.Tally.{tally_zero, lists_bad, lists_last}
use Rattle.index.proofs.lists_good.Goals as goal

pub rows_tallied-requires : goal.rows_tallied-requires
rows_tallied-requires c =
    let n = (head_facts _ c.requires.named.head).names in
    let k = c.guess_names.auto.guesses in
    (c.requires, omega arith, n, tally_zero c.args.words.now n)

pub tally_good-requires : goal.tally_good-requires
tally_good-requires c =
    let n = (head_facts _ c.requires.named.head).names in
    let k = c.rows_tallied.auto.tally in
    (c.requires.named.head, omega arith)

pub returns-then-rows_tallied : goal.returns-then-rows_tallied
returns-then-rows_tallied c =
    let r = c.rows_tallied in
    let all_good = c.if-rows_tallied.true in
    c.tally_good.ensures ∙ lists_last c.args.words.now r.new.tally (sym r.ensures.value ∙ all_good) (r.ensures.tallied all_good)

pub returns-else-rows_tallied : goal.returns-else-rows_tallied
returns-else-rows_tallied c =
    c.if-rows_tallied.false ∙ sym (lists_bad _ (sym c.rows_tallied.ensures.value ∙ c.if-rows_tallied.false))
