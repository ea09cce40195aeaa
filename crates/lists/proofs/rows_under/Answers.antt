-- `rows_under` meets its contract: the rows that are known have smaller sizes, those that are searched may have, and no other has.
use mathlib.Core.Path.{◌≡◌}
use mathlib.Core.List.{List}
use Prim.Native.Nat.{ℕ, ◌+◌, ◌≤◌}
use native.Mathlib.Omega.{arith}
use Rattle.words.specs.Words.{row_count}
use Rattle.index.proofs.Laws.{good_three}
use Rattle.lists.specs.Sizes.{rows_under}
use Rattle.lists.proofs.Sized.{sizes_searched, under_found, under_most}
use Rattle.lists.proofs.Rows.{rows_most}
use Rattle.lists.proofs.rows_under.Goals as goal

-- no more are known than there are
few : (w : List ℕ) (size known : ℕ) → known ≤ rows_under w size → known ≤ row_count w
few w size known k = omega (arith, under_most w size)

pub reach-n-requires : goal.reach-n-requires
reach-n-requires c = (c.requires.0, few c.args.words.now c.args.size c.args.known c.requires.1)

pub row_start-first-requires : goal.row_start-first-requires
row_start-first-requires c =
    let m = few c.args.words.now c.args.size c.args.known c.requires.1 in
    let n = rows_most c.args.words.now c.requires.0 in
    (good_three _ c.requires.0, omega arith)

pub place_in_column-requires : goal.place_in_column-requires
place_in_column-requires c =
    let n = c.reach-n in
    sizes_searched c.args.words.now c.requires.0 c.args.known n.result c.row_start-first.result n.ensures.0 c.row_start-first.ensures.0

-- with those that are found, they are all
found : (c : goal.After-place_in_column) → let a = c.args in a.known + c.place_in_column.result ≡ rows_under a.words.now a.size
found c =
    let n = c.reach-n in
    let b = c.row_start-first in
    under_found c.args.words.now c.requires.0 c.args.known n.result b.result n.ensures.0 b.ensures.0 c.args.size c.place_in_column.result c.requires.1 n.ensures.1 c.place_in_column.ensures

pub overflow_add-result : goal.overflow_add-result
overflow_add-result c =
    let e = found c in
    let m = under_most c.args.words.now c.args.size in
    let n = rows_most c.args.words.now c.requires.0 in
    omega arith

pub returns : goal.returns
returns c = found c
