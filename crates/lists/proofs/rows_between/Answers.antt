-- `rows_between` meets its contract: the part from the first row's start to the last row's end.
use mathlib.Core.Path.{◌≡◌, refl, ap, ap₂, ◌∙◌}
use Prim.Native.Nat.{ℕ, ◌+◌, ◌-◌, ◌*◌, ◌≤◌}
use native.Mathlib.Omega.{arith}
use borrow.Author.Rules.{rules}
use mathlib.Core.List.{List}
use lib.ListN.{length, take, drop}
use Rattle.index.specs.Good.{Good}
use Rattle.words.specs.Words.{row_start, row_width}
use Rattle.index.proofs.Laws.{good_three}
use Rattle.lists.specs.Sizes.{rows_under, size_span}
use Rattle.lists.proofs.Sized.{under_most, under_next, part_end}
use Rattle.lists.proofs.Rows.{rows_most}
use Rattle.lists.proofs.rows_between.Goals as goal

-- there are no more rows than words
few : (w : List ℕ) (size from to : ℕ) → Good w → from ≡ rows_under w size → to ≡ rows_under w (size + 1) → (from ≤ length w) × (to ≤ length w)
few w size from to good e f =
    let a = under_most w size in
    let b = under_most w (size + 1) in
    let n = rows_most w good in
    (omega arith, omega arith)

pub row_start-start-requires : goal.row_start-start-requires
row_start-start-requires c =
    let f = few c.args.words.now c.args.size c.args.from c.args.to c.requires.0 c.requires.1 c.requires.2 in
    (good_three _ c.requires.0, omega arith)

pub row_start-end-requires : goal.row_start-end-requires
row_start-end-requires c =
    let f = few c.args.words.now c.args.size c.args.from c.args.to c.requires.0 c.requires.1 c.requires.2 in
    (good_three _ c.requires.0, omega arith)

-- where the rows start and end
pub record Bounds (w : List ℕ) (size start_at end_at : ℕ) : Type 0 where
  pub start : start_at ≡ row_start w (rows_under w size)
  pub end : end_at ≡ row_start w (rows_under w (size + 1))
  pub order : rows_under w size ≤ rows_under w (size + 1)
  pub within : end_at ≤ length w

bounds : (w : List ℕ) (size from to start_at end_at : ℕ) → Good w → from ≡ rows_under w size → to ≡ rows_under w (size + 1)
    → start_at ≡ row_start w from → end_at ≡ row_start w to → Bounds w size start_at end_at
bounds w size from to start_at end_at good e f s t =
    let n : end_at ≡ row_start w (rows_under w (size + 1)) = t ∙ ap (row_start w) f in
    let p = part_end w good size in
    record { start = s ∙ ap (row_start w) e; end = n; order = under_next w size; within = omega arith }

placed : (c : goal.After-row_start-end) → Bounds c.args.words.now c.args.size c.row_start-start.result c.row_start-end.result
placed c =
    bounds c.args.words.now c.args.size c.args.from c.args.to c.row_start-start.result c.row_start-end.result c.requires.0
    c.requires.1 c.requires.2 c.row_start-start.ensures.0 c.row_start-end.ensures.0

pub offset_bounds-words-start : goal.offset_bounds-words-start
offset_bounds-words-start c = let b = placed c in let s = b.start in let e = b.end in let o = b.order in let w = b.within in omega arith

pub slice_bounds-result-count : goal.slice_bounds-result-count
slice_bounds-result-count c = let b = placed c in let s = b.start in let e = b.end in let o = b.order in let w = b.within in omega arith

pub slice_bounds-result-start : goal.slice_bounds-result-start
slice_bounds-result-start c = let b = placed c in let s = b.start in let e = b.end in let o = b.order in let w = b.within in omega arith

pub slice_bounds-result-end : goal.slice_bounds-result-end
slice_bounds-result-end c = let b = placed c in let s = b.start in let e = b.end in let o = b.order in let w = b.within in omega arith

pub returns : goal.returns
unfolding size_span
returns c =
    let w = c.args.words.now in
    let b =
    bounds c.args.words.now c.args.size c.args.from c.args.to c.row_start-start.result c.row_start-end.result c.requires.0
    c.requires.1 c.requires.2 c.row_start-start.ensures.0 c.row_start-end.ensures.0 in
    let st = b.start in
    let en = b.end in
    let o = b.order in
    let n : c.row_start-end.result - c.row_start-start.result ≡ row_width * (rows_under w (c.args.size + 1) - rows_under w c.args.size) = omega arith in
    record { words = ap₂ (λ (k m : ℕ). take m (drop k w)) st n; block = refl; place = rw st (search rules) }
