-- `place_in_column` meets its contract: the place lies in a stretch of 2 to the power of k, less one; each turn asks for one digit of it.
use mathlib.Core.Path.{◌≡◌, sym}
use mathlib.Core.Logic.{inl, inr}
use Prim.Native.Nat.{◌+◌, ◌-◌, ◌*◌, ◌^◌}
use native.Mathlib.Omega.{arith}
use borrow.Author.Tests.{lt-ltb, le-ltb}
use lib.Pow.{pow_pos}
use Rattle.laws.proofs.BinarySearch.{Stretch, stretch_first, stretch_digit, stretch_none, count_below_place}
use Rattle.binary_search.specs.Column.{column_at}
use Rattle.binary_search.proofs.Search.{column_falls, asked_first, asked}
use Rattle.binary_search.proofs.place_in_column.Invariants.{below}
use Rattle.binary_search.proofs.place_in_column.Goals as goal
use Rattle.binary_search.proofs.place_in_column.Goals.{then-rest-gt0+then-words-first, else-rest-gt0}
use Rattle.binary_search.proofs.place_in_column.Goals.{else-rest-gt0-via-then-rest-gt0+else-words-first, else-rest-gt0-via-else-rest-gt0}

-- a word is below what doesn't fit a word
pub returns-then-x-gt4294967295 : goal.returns-then-x-gt4294967295
unfolding column_at
returns-then-x-gt4294967295 c =
    let a = c.args in
    sym
    (count_below_place (below a.words.now a.first a.width a.x) a.n a.n (omega arith)
    (λ i h.
    let f = c.type_inv.words (a.first + a.width * i) in
    let l = c.if-x-gt4294967295.true in
    lt-ltb _ a.x (omega arith))
    (λ i h m. absurd (omega arith)))

pub overflow_cast-y : goal.overflow_cast-y
overflow_cast-y c = let l = c.if-x-gt4294967295.false in omega arith

pub overflow_add-n : goal.overflow_add-n
overflow_add-n c = let n = c.requires.0 in omega arith

pub overflow_add-rest : goal.overflow_add-rest
overflow_add-rest c = let n = c.requires.0 in omega arith

-- the number asked first is one of the n, and so a word
pub overflow_mul-width : goal.overflow_mul-width
overflow_mul-width c =
    let d = asked_first _ _ _ _ _ _ c.requires.1 (pow_pos c.ilog2-top.result) c.power.ensures c.if-rest-gt0.true in
    omega arith

pub overflow_add-first : goal.overflow_add-first
overflow_add-first c =
    let d = asked_first _ _ _ _ _ _ c.requires.1 (pow_pos c.ilog2-top.result) c.power.ensures c.if-rest-gt0.true in
    omega arith

pub offset_bounds-words-first : goal.offset_bounds-words-first
offset_bounds-words-first c =
    let d = asked_first _ _ _ _ _ _ c.requires.1 (pow_pos c.ilog2-top.result) c.power.ensures c.if-rest-gt0.true in
    omega arith

pub bounds-words-first : goal.bounds-words-first
bounds-words-first c =
    let d = asked_first _ _ _ _ _ _ c.requires.1 (pow_pos c.ilog2-top.result) c.power.ensures c.if-rest-gt0.true in
    omega arith

pub loop-k-init : goal.loop-k-init
unfolding column_at
loop-k-init c =
    let h = c.ilog2-top in
    let a = c.args in
    let first =
    stretch_first (below a.words.now a.first a.width a.x) a.n (column_falls (column_at a.words.now a.first a.width) a.n a.x c.requires.2)
    h.result c.power.result c.power.ensures h.ensures.power_le h.ensures.next_power_gt c.if-rest-gt0.base in (
      h.ensures.bound,
      elim c.if-rest-gt0.branch [
        | then-rest-gt0+then-words-first w ↦ first (inl (w.if-rest-gt0.true, lt-ltb _ a.x w.if-words-first.true, w.base-is))
        | else-rest-gt0 w ↦
            elim w.else-rest-gt0.branch [
              | else-rest-gt0-via-then-rest-gt0+else-words-first v ↦
                  first (inr (inl (v.if-rest-gt0.true, le-ltb _ a.x v.if-words-first.false, w.base-is)))
              | else-rest-gt0-via-else-rest-gt0 v ↦ first (inr (inr (v.if-rest-gt0.false, w.base-is)))
            ]
      ],
    )

-- the number asked is one of the n, and so a word
pub overflow_add-at : goal.overflow_add-at
overflow_add-at c =
    let d = asked _ _ _ _ _ _ _ _ c.loop-k-test.true c.loop-k.invariant.1 c.power-in-loop-k.ensures c.requires.1 in
    let n = c.requires.0 in
    omega arith

pub overflow_sub-at : goal.overflow_sub-at
overflow_sub-at c = let p = pow_pos (c.loop-k.k - 1) in omega arith

pub overflow_mul-width-in-loop-k : goal.overflow_mul-width-in-loop-k
overflow_mul-width-in-loop-k c =
    let d = asked _ _ _ _ _ _ _ _ c.loop-k-test.true c.loop-k.invariant.1 c.power-in-loop-k.ensures c.requires.1 in
    omega arith

pub overflow_add-first-in-loop-k : goal.overflow_add-first-in-loop-k
overflow_add-first-in-loop-k c =
    let d = asked _ _ _ _ _ _ _ _ c.loop-k-test.true c.loop-k.invariant.1 c.power-in-loop-k.ensures c.requires.1 in
    omega arith

pub offset_bounds-words-first-in-loop-k : goal.offset_bounds-words-first-in-loop-k
offset_bounds-words-first-in-loop-k c =
    let d = asked _ _ _ _ _ _ _ _ c.loop-k-test.true c.loop-k.invariant.1 c.power-in-loop-k.ensures c.requires.1 in
    omega arith

pub bounds-words-first-in-loop-k : goal.bounds-words-first-in-loop-k
bounds-words-first-in-loop-k c =
    let d = asked _ _ _ _ _ _ _ _ c.loop-k-test.true c.loop-k.invariant.1 c.power-in-loop-k.ensures c.requires.1 in
    omega arith

-- the stretch after a turn
next : (c : goal.After-power_if-base)
    → let a = c.args in
    Stretch (below a.words.now a.first a.width a.x) a.n (c.loop-k.base + c.power_if-base.result) (2 ^ (c.loop-k.k - 1) - 1)
unfolding column_at
next c =
    let a = c.args in
    stretch_digit (below a.words.now a.first a.width a.x) a.n c.loop-k.base c.loop-k.k c.loop-k-test.true c.loop-k.invariant.1
    (column_falls (column_at a.words.now a.first a.width) a.n a.x c.requires.2)
    c.power-in-loop-k.result c.power_if-base.result c.power-in-loop-k.ensures c.power_if-base.ensures

pub overflow_add-base : goal.overflow_add-base
overflow_add-base c = let n = next c in let w = n.within in omega arith

pub loop-k-preserved : goal.loop-k-preserved
loop-k-preserved c = (omega arith, next c)

pub returns : goal.returns
returns c =
    let a = c.args in
    let k = c.loop-k.k in
    let e : k ≡ 0 = omega arith in
    let z : 2 ^ k - 1 ≡ 0 = rw e in
    stretch_none (below a.words.now a.first a.width a.x) a.n (column_falls (column_at a.words.now a.first a.width) a.n a.x c.requires.2) c.loop-k.base (2 ^ k - 1) c.loop-k.invariant.1 z
