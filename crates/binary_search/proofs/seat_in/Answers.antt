-- `seat_in` meets its contract: a list is its own column of width 1, and x is there exactly if it stands at its place.
use mathlib.Core.Path.{◌∙◌}
use native.Mathlib.Omega.{arith}
use Rattle.binary_search.proofs.Search.{ascending_rising, count_column}
use Rattle.binary_search.proofs.Seats.{seat_met, seat_not_met}
use Rattle.binary_search.proofs.seat_in.Goals as goal
use Rattle.binary_search.proofs.seat_in.Goals.{else-at-list-via-then-at-list+else-list-at, else-at-list-via-else-at-list}

pub place_in_column-at-requires : goal.place_in_column-at-requires
place_in_column-at-requires c =
    (omega arith, λ i h. omega arith, ascending_rising c.args.list.now c.requires)

pub returns-then-list-at : goal.returns-then-list-at
returns-then-list-at c =
    seat_met c.args.list.now c.args.x c.place_in_column-at.result c.requires c.if-at-list.true c.if-list-at.true

pub returns : goal.returns
returns c =
    let a = c.args in
    let place = c.place_in_column-at.ensures ∙ count_column a.list.now a.x in
    seat_not_met a.list.now a.x c.place_in_column-at.result c.requires place
    (λ h e. elim c.else-at-list.branch [
      | else-at-list-via-then-at-list+else-list-at w ↦ w.if-list-at.false e
      | else-at-list-via-else-at-list w ↦ let f = w.if-at-list.false in omega arith
    ])
