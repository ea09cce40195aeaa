-- `seat_near` meets its contract: where x stands is its seat.
use Rattle.binary_search.proofs.Seats.{seat_met}
use Rattle.binary_search.proofs.seat_near.Goals as goal

pub returns-then-list-guess : goal.returns-then-list-guess
returns-then-list-guess c =
    seat_met c.args.list.now c.args.x c.args.guess c.requires c.if-guess-list.true c.if-list-guess.true
