-- `row_seat` meets its contract: before the row stand those of the sizes below, and those of the size whose feature is below; its feature tells
-- whether it is there.
use mathlib.Core.Path.{◌≡◌, sym, ◌∙◌}
use mathlib.Core.List.{List}
use Prim.Native.Nat.{ℕ, ◌+◌, ◌-◌, ◌≤◌, ◌<◌}
use native.Mathlib.Omega.{arith}
use lib.ListN.{length, get_or}
use lib.Dec.{ltb}
use Rattle.laws.specs.Below.{count_below}
use Rattle.binary_search.specs.Column.{column_at}
use Rattle.binary_search.specs.declared.Seat.TheVariants.{Before}
use Rattle.lists.specs.Sizes.{rows_under}
use Rattle.index.specs.Good.{Good}
use Rattle.words.specs.Words.{row_start, row_width, row_feature, feature_column, feature_span}
use Rattle.index.proofs.Laws.{good_three}
use Rattle.lists.proofs.Sized.{under_most, under_next, part_end}
use Rattle.lists.proofs.Rows.{row_within}
use Rattle.index_writer.specs.Contents.{all_rows_in}
use Rattle.changes.specs.Cuts.{row_seat}
use Rattle.seats.proofs.Laws.{features_searched, seat_in, seat_found, row_met, row_not_met}
use Rattle.seats.proofs.row_seat.Goals as goal
use Rattle.seats.proofs.row_seat.Goals.{else-r-to-via-then-r-to+else-row_feature-feature, else-r-to-via-else-r-to}

-- the rows of the size lie within the words
within : (w : List ℕ) (g : Good w) (size from to : ℕ) → from ≡ rows_under w size → to ≡ rows_under w (size + 1) → (from ≤ to) × (row_start w to ≤ length w)
within w g size from to e f =
    let o = under_next w size in
    let p = part_end w g size in
    (omega arith, omega arith)

pub row_start-first-requires : goal.row_start-first-requires
row_start-first-requires c = let s = within _ c.requires.0 _ _ _ c.requires.1 c.requires.2 in (good_three c.args.words.now c.requires.0, omega arith)

pub overflow_add-first : goal.overflow_add-first
overflow_add-first c = let s = within _ c.requires.0 _ _ _ c.requires.1 c.requires.2 in let e = c.row_start-first.ensures.0 in omega arith

pub overflow_sub-to : goal.overflow_sub-to
overflow_sub-to c = let s = within _ c.requires.0 _ _ _ c.requires.1 c.requires.2 in omega arith

pub place_in_column-requires : goal.place_in_column-requires
place_in_column-requires c =
    let a = c.args in
    let e = c.requires.1 in
    let f = c.requires.2 in
    features_searched a.words.now c.requires.0 a.size a.from (a.to - a.from) c.row_start-first.result e (omega arith) c.row_start-first.ensures.0

-- what the search tells
found : (w : List ℕ) (g : Good w) (fits : (i : ℕ) → get_or w i 0 < feature_span) (size feature from to first count : ℕ) → feature < feature_span
    → from ≡ rows_under w size → to ≡ rows_under w (size + 1) → first ≡ row_start w from
    → count ≡ count_below (to - from) (λ (i : ℕ). ltb (column_at w (first + feature_column) row_width i) feature)
    → (from + count ≡ row_seat size (all_rows_in w) feature) × (count ≤ to - from)
found w g fits size feature from to first count small e f s n = seat_found w g fits size feature small from (to - from) first count e (omega arith) s n

pub overflow_add-r : goal.overflow_add-r
overflow_add-r c =
    let s = within _ c.requires.0 _ _ _ c.requires.1 c.requires.2 in
    let f = (found _ c.requires.0 (λ i. omega (arith, c.type_inv.words i)) _ _ _ _ _ _ (omega arith) c.requires.1 c.requires.2 c.row_start-first.ensures.0 c.place_in_column.ensures).1 in
    omega arith

pub row_feature-requires : goal.row_feature-requires
row_feature-requires c =
    let m = under_most c.args.words.now (c.args.size + 1) in
    let e = c.requires.2 in
    let t = c.if-r-to.true in
    row_within c.args.words.now c.requires.0 (c.args.from + c.place_in_column.result) (omega arith)

pub returns-then-row_feature-feature : goal.returns-then-row_feature-feature
returns-then-row_feature-feature c =
    let a = c.args in
    let e = c.requires.1 in
    let f = c.requires.2 in
    let t = c.if-r-to.true in
    row_met a.words.now c.requires.0 (λ i. omega (arith, c.type_inv.words i)) a.size a.feature (a.from + c.place_in_column.result) (omega arith) (omega arith)
    (sym c.row_feature.ensures.0 ∙ c.if-row_feature-feature.true ∙ c.from-feature.ensures)

-- a row of the size that is not of the feature, or none, tells that the row is missing
pub returns : goal.returns
returns c =
    let a = c.args in
    let v = c.from-feature.result in
    let t = c.requires.2 in
    let f = (found _ c.requires.0 (λ i. omega (arith, c.type_inv.words i)) _ _ _ _ _ _ (omega arith) c.requires.1 c.requires.2 c.row_start-first.ensures.0 c.place_in_column.ensures).0 in
    let missing : (a.from + c.place_in_column.result < rows_under a.words.now (a.size + 1) → row_feature a.words.now (a.from + c.place_in_column.result) ≡ v → ⊥)
    → Before (a.from + c.place_in_column.result) ≡ seat_in a.words.now a.size v = row_not_met a.words.now c.requires.0 (λ i. omega (arith, c.type_inv.words i)) a.size v (omega arith) (a.from + c.place_in_column.result) f in
    rw (← c.from-feature.ensures)
    (elim c.else-r-to.branch [
      | else-r-to-via-then-r-to+else-row_feature-feature w ↦ missing (λ h q. w.if-row_feature-feature.false (w.row_feature.ensures.0 ∙ q))
      | else-r-to-via-else-r-to w ↦ missing (λ h q. (let z = w.if-r-to.false in omega arith))
    ])
