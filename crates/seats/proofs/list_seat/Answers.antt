-- `list_seat` meets its contract: a row's place is how many postings the rows before it have, and after the last row it is all.
use mathlib.Core.Path.{◌∙◌}
use native.Mathlib.Omega.{arith}
use Rattle.index.proofs.Laws.{good_three}
use Rattle.lists.proofs.Rows.{row_within}
use Rattle.seats.proofs.Laws.{list_place, lists_all}
use Rattle.seats.proofs.list_seat.Goals as goal

pub row_count-requires : goal.row_count-requires
row_count-requires c = good_three _ c.requires.0

pub row_place-requires : goal.row_place-requires
row_place-requires c =
    let e = c.row_count.ensures.0 in
    row_within c.args.words.now c.requires.0 c.args.r (omega arith)

pub returns-then-r-row_count : goal.returns-then-r-row_count
returns-then-r-row_count c =
    let e = c.row_count.ensures.0 in
    let t = c.if-r-row_count.true in
    c.row_place.ensures.0
    ∙ list_place c.args.words.now c.requires.0 (λ i. (let q = c.type_inv.words i in omega arith)) c.args.r (omega arith)

pub posting_count-requires : goal.posting_count-requires
posting_count-requires c = good_three _ c.requires.0

pub returns : goal.returns
returns c =
    let e = c.row_count.ensures.0 in
    let t = c.if-r-row_count.false in
    let m = c.requires.1 in
    c.posting_count.ensures.0
    ∙ lists_all c.args.words.now c.requires.0 (λ i. (let q = c.type_inv.words i in omega arith)) c.args.r (omega arith)
