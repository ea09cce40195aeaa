-- `place_of` meets its contract.
use borrow.Author.Rules.{rules}
use Rattle.binary_search.specs.Seats.{seat_place}
use Rattle.binary_search.proofs.place_of.Goals as goal

pub returns-in-At : goal.returns-in-At
unfolding seat_place
returns-in-At c = search rules

pub returns-in-Before : goal.returns-in-Before
unfolding seat_place
returns-in-Before c = search rules
