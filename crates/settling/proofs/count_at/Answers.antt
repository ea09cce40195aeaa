-- `count_at` meets its contract: a feature is among the features if it stands at its seat.
use mathlib.Core.Path.{◌≡◌, sym, ◌∙◌}
use mathlib.Core.Bool.{Bool, true, false, cond}
use Prim.Native.Nat.{◌+◌}
use native.Mathlib.Omega.{arith}
use lib.ListN.{get_or}
use borrow.Author.Tests.{eq-eqb, ne_eqb}
use Rattle.laws.specs.Lists.{member}
use Rattle.settling.specs.Counts.{count_at}
use Rattle.binary_search.proofs.Seats.{seat_there, seat_missing}
use Rattle.settling.proofs.count_at.Goals as goal

pub returns-then-rows-at : goal.returns-then-rows-at
unfolding count_at
returns-then-rows-at c =
    let a = c.args in
    rw (ne_eqb (get_or a.rows.now (a.at + 0) 0) a.size c.if-rows-at.true) (omega arith)

-- what is counted, once the row is known to be of the size
grown : (c : goal.In-At) (b : Bool) → let a = c.args in
    member (get_or a.rows.now (a.at + 1) 0) a.features.now ≡ b → count_at a.rows.now a.at a.size a.features.now ≡ get_or a.rows.now (a.at + 3) 0 + cond b 1 0
unfolding count_at
grown c b m =
    let a = c.args in
    rw (eq-eqb (get_or a.rows.now (a.at + 0) 0) a.size c.if-rows-at.false, m)

-- where the feature is among the features, and where not
one_more : (c : goal.In-At) → let a = c.args in
    count_at a.rows.now a.at a.size a.features.now ≡ get_or a.rows.now (a.at + 3) 0 + 1
one_more c =
    grown c true (seat_there _ _ _ (sym c.seat_in-seat.ensures ∙ c.in-At.is)).0

pub overflow_add-result : goal.overflow_add-result
overflow_add-result c =
    let g = one_more c in
    let h = c.requires.2 in
    record { fits = omega arith }

pub returns-in-At : goal.returns-in-At
returns-in-At c = sym (one_more c)

-- `grown`, at another place
grown-2 : (c : goal.In-Before) (b : Bool) → let a = c.args in
    member (get_or a.rows.now (a.at + 1) 0) a.features.now ≡ b → count_at a.rows.now a.at a.size a.features.now ≡ get_or a.rows.now (a.at + 3) 0 + cond b 1 0
unfolding count_at
grown-2 c b m =
    let a = c.args in
    rw (eq-eqb (get_or a.rows.now (a.at + 0) 0) a.size c.if-rows-at.false, m)

as_many : (c : goal.In-Before) → let a = c.args in
    count_at a.rows.now a.at a.size a.features.now ≡ get_or a.rows.now (a.at + 3) 0 + 0
as_many c =
    grown-2 c false (seat_missing _ _ _ (sym c.seat_in-seat.ensures ∙ c.in-Before.is)).0

pub returns-in-Before : goal.returns-in-Before
returns-in-Before c = let g = as_many c in omega arith
