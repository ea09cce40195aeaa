-- Where a number stands in an ascending list, or where it would have to be put in. The laws are in proofs/Seats.antt.
-- Assumes nothing.
use Rattle.std.specs.Prelude.{Bool, true, false, cond, List, ℕ, ltb}
use Rattle.laws.specs.Lists.{member, count_of}
use Rattle.binary_search.specs.declared.Seat.{Seat}
use Rattle.binary_search.specs.declared.Seat.TheVariants.{At, Before}

-- how many numbers are below x: where x stands in an ascending list, or where it would have to be put in
abbrev pub place_of : ℕ → List ℕ → ℕ
place_of x l = count_of (λ (y : ℕ). ltb y x) l

-- at that place where it is there, and otherwise before what stands at that place
abbrev pub seat_if : Bool → ℕ → Seat
seat_if there place = cond there (At place) (Before place)

-- At exactly if the list holds x; the place, either way, is how many are below it
unfoldable pub seat_of : List ℕ → ℕ → Seat
seat_of l x = seat_if (member x l) (place_of x l)

-- the place of a seat, either way
unfoldable pub seat_place : Seat → ℕ
seat_place (At place) = place
seat_place (Before place) = place

-- whether it is at its place
unfoldable pub is_at : Seat → Bool
is_at (At place) = true
is_at (Before place) = false
