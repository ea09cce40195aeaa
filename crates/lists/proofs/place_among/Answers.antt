-- `place_among` meets its contract: the row at the feature's place, or the last one where all are below, tells whether the feature has a row.
use mathlib.Core.Path.{◌≡◌, refl, sym, ap, ◌∙◌}
use mathlib.Core.Bool.{Bool, true, false, cond}
use mathlib.Core.List.{List}
use Prim.Native.Nat.{ℕ, ◌+◌, ◌<◌}
use native.Mathlib.Omega.{arith}
use lib.Dec.{eqb, ltb}
use Rattle.laws.specs.Below.{count_below}
use Rattle.binary_search.specs.Column.{column_at}
use Rattle.words.specs.Words.{row_count, row_feature, row_place, row_length, row_width, feature_column, postings_start, part_rows, part_feature, part_place, part_length}
use Rattle.words.proofs.Laws.{part_within, part_most}
use Rattle.index.proofs.Laws.{good_within_lem}
use Rattle.index.specs.Good.{Good}
use Rattle.lists.specs.Part.{Span, none, cut}
use Rattle.lists.specs.Lists.{span_at, span_in}
use Rattle.lists.specs.Sizes.{rows_under, size_span}
use Rattle.lists.proofs.Rows.{span_row}
use Rattle.lists.proofs.Sized.{many, under_most, length_rows, feature_in, place_in, length_in, features_rise, among, among_empty}
use Rattle.lists.proofs.place_among.Goals as goal

-- what is read of the row tells the part
by_test : (w : List ℕ) (y f r first a p l : ℕ) → r < row_count w → first ≡ postings_start w → a ≡ row_feature w r → p ≡ row_place w r → l ≡ row_length w r
    → ((b : Bool) → eqb (row_feature w r) f ≡ b → span_in w y f ≡ cond b (span_at w r) none)
    → (st ct : ℕ) → st ≡ cond (eqb a f) (first + p) 0 → ct ≡ cond (eqb a f) l 0
    → (st ≡ (span_in w y f).start) × (ct ≡ (span_in w y f).count)
by_test w y f r first a p l h ef ea ep el found st ct es ec = go (eqb a f) refl
  where
    go : (b : Bool) → eqb a f ≡ b → (st ≡ (span_in w y f).start) × (ct ≡ (span_in w y f).count)
    go true q =
        let e = found true (ap (λ (v : ℕ). eqb v f) (sym ea) ∙ q) ∙ span_row w r first p l h ef ep el in
        (es ∙ ap (λ (b : Bool). cond b (first + p) 0) q ∙ sym (ap (λ (z : Span). z.start) e), ec ∙ ap (λ (b : Bool). cond b l 0) q ∙ sym (ap (λ (z : Span). z.count) e))
    go false q =
        let e = found false (ap (λ (v : ℕ). eqb v f) (sym ea) ∙ q) in
        (es ∙ ap (λ (b : Bool). cond b (first + p) 0) q ∙ sym (ap (λ (z : Span). z.start) e), ec ∙ ap (λ (b : Bool). cond b l 0) q ∙ sym (ap (λ (z : Span). z.count) e))

-- how many rows there are
rows : (w : List ℕ) (good : Good w) (y : ℕ) (r : List ℕ) → r ≡ cut (size_span w y) w → part_rows r ≡ many w good y
rows w good y r e = ap part_rows e ∙ length_rows w good y

pub returns-then-n-eq0 : goal.returns-then-n-eq0
returns-then-n-eq0 c =
    let n = rows c.args.words.now c.requires.0 c.args.size c.args.rows.now c.requires.1 in
    let p = c.part_rows-n.ensures in
    let z = c.if-n-eq0.true in
    let e = among_empty c.args.words.now c.requires.0 c.args.size c.args.feature (omega arith) in
    (sym (ap (λ (p : Span). p.start) e), sym (ap (λ (p : Span). p.count) e))

pub place_in_column-at-requires : goal.place_in_column-at-requires
place_in_column-at-requires c =
    let r = c.args.rows.now in
    rw c.part_rows-n.ensures (
      part_most r,
      λ i h. part_within r i feature_column h (omega arith),
      rw c.requires.1 (features_rise c.args.words.now c.requires.0 c.args.size),
    )

pub place_if-requires : goal.place_if-requires
place_if-requires c =
    let h = good_within_lem c.args.words.now c.requires.0 in
    let f = c.requires.2 in
    let n = c.part_rows-n.ensures in
    let some = c.if-n-eq0.false in
    (omega (arith, c.min-row.ensures), omega arith)

pub returns : goal.returns
returns c =
    let w = c.args.words.now in
    let y = c.args.size in
    let f = c.args.feature in
    let r = c.args.rows.now in
    let k = c.place_in_column-at.ensures ∙ ap (λ (n : ℕ). count_below n (λ (i : ℕ). ltb (column_at r feature_column row_width i) f)) c.part_rows-n.ensures in
    let row = c.min-row.result in
    let n = rows w c.requires.0 y r c.requires.1 in
    let some = c.if-n-eq0.false in
    let p = c.part_rows-n.ensures in
    let inside : row < many w c.requires.0 y = omega (arith, c.min-row.ensures) in
    let at = among w c.requires.0 y f c.place_in_column-at.result row (k ∙ ap (λ (l : List ℕ). count_below (part_rows l) (λ (i : ℕ). ltb (column_at l feature_column row_width i) f)) c.requires.1) inside (λ h. omega (arith, c.min-row.ensures)) in
    let m = under_most w (y + 1) in
    by_test w y f (rows_under w y + row) c.args.first (part_feature r row) (part_place r row) (part_length r row) (omega arith) c.requires.2
    (ap (λ (l : List ℕ). part_feature l row) c.requires.1 ∙ feature_in w c.requires.0 y row inside)
    (ap (λ (l : List ℕ). part_place l row) c.requires.1 ∙ place_in w c.requires.0 y row inside)
    (ap (λ (l : List ℕ). part_length l row) c.requires.1 ∙ length_in w c.requires.0 y row inside)
    at c.place_if.result.start c.place_if.result.count c.place_if.ensures.0 c.place_if.ensures.1
