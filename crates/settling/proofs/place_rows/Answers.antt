-- `place_rows` meets its contract: what is done and what is left come to the same at each turn.
use mathlib.Core.Path.{◌≡◌}
use mathlib.Core.List.{List}
use Prim.Native.Nat.{ℕ, ◌+◌, ◌*◌, ◌/◌, ◌<◌}
use native.Mathlib.Omega.{arith}
use lib.ListN.{length, length-set}
use Rattle.words.specs.Words.{row_width}
use Rattle.settling.proofs.Laws.{Placing, Turn, all_placed, placing_nil, placing_step, placing_end}
use Rattle.settling.proofs.place_rows.Goals as goal

pub loop-r-init : goal.loop-r-init
loop-r-init c =
    let p = c.requires.1 in
    placing_nil c.args.size c.args.features.now p.0 c.args.rows.now p.1 p.2

-- at each row of the words there is a turn
turn : (size : ℕ) (fs all rows : List ℕ) (place r : ℕ) → Placing size fs all rows place (row_width * r) → r < length rows / row_width → Turn size fs all rows place (row_width * r)
turn size fs all rows place r p h = placing_step size fs all rows place (row_width * r) p (omega arith)

pub count_at-count-requires : goal.count_at-count-requires
count_at-count-requires c = let t = turn _ _ _ _ _ _ c.loop-r.invariant (omega arith) in (t.0, c.requires.0, omega arith)

pub overflow_add-rows : goal.overflow_add-rows
overflow_add-rows c = let t = turn _ _ _ _ _ _ c.loop-r.invariant (omega arith) in omega arith

pub offset_bounds-rows-at : goal.offset_bounds-rows-at
offset_bounds-rows-at c = let t = turn _ _ _ _ _ _ c.loop-r.invariant (omega arith) in omega arith

pub bounds-rows-at : goal.bounds-rows-at
bounds-rows-at c = let t = turn _ _ _ _ _ _ c.loop-r.invariant (omega arith) in omega arith

pub overflow_add-rows-in-loop-r : goal.overflow_add-rows-in-loop-r
overflow_add-rows-in-loop-r c = let t = turn _ _ _ _ _ _ c.loop-r.invariant (omega arith) in omega arith

pub offset_bounds-rows-at-in-loop-r : goal.offset_bounds-rows-at-in-loop-r
offset_bounds-rows-at-in-loop-r c = let t = turn _ _ _ _ _ _ c.loop-r.invariant (omega arith) in omega arith

pub bounds-rows-at-in-loop-r : goal.bounds-rows-at-in-loop-r
bounds-rows-at-in-loop-r c = let t = turn _ _ _ _ _ _ c.loop-r.invariant (omega arith) in simp length-set (omega arith)

pub overflow_add-place : goal.overflow_add-place
overflow_add-place c = let t = turn _ _ _ _ _ _ c.loop-r.invariant (omega arith) in let e = c.count_at-count.ensures in omega arith

pub loop-r-preserved : goal.loop-r-preserved
loop-r-preserved c =
    let e : row_width * c.loop-r.r + row_width ≡ row_width * (c.loop-r.r + 1) = omega arith in
    let t = turn _ _ _ _ _ _ c.loop-r.invariant (omega arith) in
    rw (← e, c.count_at-count.ensures) t.2

pub returns : goal.returns
returns c =
    let a = c.args in
    let l = c.loop-r in
    placing_end a.size a.features.now (all_placed a.size a.features.now a.rows.now) l.rows l.place (row_width * l.r) l.invariant (omega arith)
