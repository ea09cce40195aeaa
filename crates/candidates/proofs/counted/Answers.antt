-- `counted` meets its contract: the list holds the id exactly where it stands at its seat.
use mathlib.Core.Path.{sym, ◌∙◌}
use native.Mathlib.Omega.{arith}
use Rattle.binary_search.proofs.Seats.{seat_there, seat_missing, seat_stands}
use Rattle.candidates.proofs.counted.Goals as goal

pub overflow_add-result-in-At : goal.overflow_add-result-in-At
overflow_add-result-in-At c =
    let h = (seat_stands c.args.list.now c.args.id _ c.requires.0 (sym c.seat_near-seat.ensures ∙ c.in-At.is)).0 in
    omega arith

pub returns-in-At : goal.returns-in-At
returns-in-At c =
    let t = (seat_there c.args.list.now c.args.id _ (sym c.seat_near-seat.ensures ∙ c.in-At.is)).0 in
    (rw t, omega arith)

pub returns-in-Before : goal.returns-in-Before
returns-in-Before c =
    let t = (seat_missing c.args.list.now c.args.id _ (sym c.seat_near-seat.ensures ∙ c.in-Before.is)).0 in
    (rw t (omega arith), omega arith)
