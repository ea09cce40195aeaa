-- The rows of a size stand together, and a search of them alone finds the row of a feature.
-- Cited by the proofs of `rows_under`, `rows_between`, `rows_of_size` and `place_among`, and of the crates `seats` and `sizes`.
-- Assumes nothing.
use mathlib.Core.Path.{◌≡◌, sym, ap, ◌∙◌}
use mathlib.Core.Logic.{⊎_elim, inl, inr}
use mathlib.Core.Bool.{Bool, true, false, cond}
use mathlib.Core.List.{List}
use Prim.Native.Nat.{ℕ, ◌+◌, ◌-◌, ◌*◌, ◌≤◌, ◌<◌}
use native.Mathlib.Nat.{eq-or-lt_of_le}
use native.Mathlib.Omega.{arith}
use lib.ListN.{length, get_or}
use lib.Dec.{ltb, eqb}
use borrow.Author.Tests.{lt-ltb, le-ltb, ltb-true, ltb-false, eqb-true, eqb-false}
use Rattle.laws.specs.Below.{count_below}
use Rattle.laws.proofs.Below.{count_below_most, count_below_mono}
use Rattle.laws.proofs.BinarySearch.{Falling, Stretch, falling_count, count_below_place}
use Rattle.laws.proofs.Order.{le_or_lt}
use Rattle.binary_search.specs.Column.{column_at, Rising}
use Rattle.binary_search.proofs.Search.{column_split}
use Rattle.words.specs.Words.{row_count, row_size, row_feature, row_place, row_length, row_start, row_width, size_column, feature_column, part_rows, part_feature, part_place, part_length}
use Rattle.words.proofs.Laws.{size_at_lem, cut_rows, cut_feature, cut_place, cut_length}
use Rattle.index.specs.Good.{Good}
use Rattle.index.proofs.Facts.{Before, good_facts}
use Rattle.index.proofs.Laws.{good_within_lem}
use Rattle.lists.specs.Part.{cut, none}
use Rattle.lists.specs.Lists.{span_at, span_in}
use Rattle.lists.specs.Sizes.{rows_under, size_span}
use Rattle.lists.proofs.Rows.{span_met, missing}

pub under_most : (w : List ℕ) (y : ℕ) → rows_under w y ≤ row_count w
unfolding rows_under
under_most w y = count_below_most (row_count w) (λ (r : ℕ). ltb (row_size w r) y)

-- the rows of a size end where those of the next begin
pub under_next : (w : List ℕ) (y : ℕ) → rows_under w y ≤ rows_under w (y + 1)
unfolding rows_under
under_next w y =
    count_below_mono (row_count w) (λ (r : ℕ). ltb (row_size w r) y) (λ (r : ℕ). ltb (row_size w r) (y + 1))
    (λ r l e. let h = ltb-true (row_size w r) y e in lt-ltb (row_size w r) (y + 1) (omega arith))

module _ (w : List ℕ) (g : Good w) where
  size_rises : (r s : ℕ) → r ≤ s → s < row_count w → row_size w r ≤ row_size w s
  unfolding Before
  size_rises r s l m =
      ⊎_elim
      (λ (e : r ≡ s). let f = ap (row_size w) e in omega arith)
      (λ (p : r < s). by_order ((good_facts w g).rows.before r s p m))
      (eq-or-lt_of_le l)
    where
      by_order : Before w r s → row_size w r ≤ row_size w s
      by_order (inl a) = omega arith
      by_order (inr a) = let e = a.0 in omega arith

  -- rows below a size come first
  pub sizes_fall : (y : ℕ) → Falling (λ (r : ℕ). ltb (row_size w r) y) (row_count w)
  sizes_fall y i j l m e =
      let a = ltb-true (row_size w j) y e in
      let b = size_rises i j l m in
      lt-ltb (row_size w i) y (omega arith)

  under : (y : ℕ) → Stretch (λ (r : ℕ). ltb (row_size w r) y) (row_count w) (rows_under w y) 0
  unfolding rows_under
  under y = falling_count (λ (r : ℕ). ltb (row_size w r) y) (row_count w) (sizes_fall y)

  pub size_under : (y r : ℕ) → r < rows_under w y → row_size w r < y
  size_under y r l = ltb-true (row_size w r) y ((under y).below r l)

  pub size_from : (y r : ℕ) → rows_under w y ≤ r → r < row_count w → y ≤ row_size w r
  size_from y r l m = let h = ltb-false (row_size w r) y ((under y).above r (omega arith) m) in omega arith

  -- ---- the column of the sizes of n rows from k on, whose words start at s

  module _ (k n s : ℕ) (inside : k + n ≤ row_count w) (start : s ≡ row_start w k) where
    size_here : (i : ℕ) → column_at w (s + size_column) row_width i ≡ row_size w (k + i)
    unfolding column_at
    size_here i =
        let e : s + size_column + row_width * i ≡ row_start w 0 + size_column + row_width * (k + i) = omega arith in
        ap (λ (j : ℕ). get_or w j 0) e ∙ size_at_lem w (k + i)

    -- it can be searched
    pub sizes_searched : (n ≤ length w) × ((i : ℕ) → i < n → s + size_column + row_width * i < length w) × Rising (column_at w (s + size_column) row_width) n
    unfolding Rising
    sizes_searched =
        let h = good_within_lem w g in (
          omega arith,
          λ i l. omega arith,
          λ i j l m. rw (size_here i, size_here j) (size_rises (k + i) (k + j) (omega arith) (omega arith)),
        )

    -- and where the rows before it have smaller sizes, and the one behind it has not, the search finds where the rows of a size begin
    pub under_found : (y r : ℕ) → k ≤ rows_under w y → (k + n < row_count w → y ≤ row_size w (k + n))
        → r ≡ count_below n (λ (i : ℕ). ltb (column_at w (s + size_column) row_width i) y) → k + r ≡ rows_under w y
    under_found y r low high e =
        let m = found.0 in
        sym (unfold rows_under in count_below_place (λ (i : ℕ). ltb (row_size w i) y) (row_count w) (k + r) (omega arith) below above)
      where
        found : (r ≤ n) × ((i : ℕ) → i < r → column_at w (s + size_column) row_width i < y) × ((i : ℕ) → r ≤ i → i < n → y ≤ column_at w (s + size_column) row_width i)
        found = column_split (column_at w (s + size_column) row_width) n y r sizes_searched.2 e

        below : (i : ℕ) → i < k + r → ltb (row_size w i) y ≡ true
        below i l =
            ⊎_elim
            (λ (h : k ≤ i).
            let j : k + (i - k) ≡ i = omega arith in
            let a = found.1 (i - k) (omega arith) in
            let b = size_here (i - k) ∙ ap (row_size w) j in
            lt-ltb (row_size w i) y (omega arith))
            (λ (h : i < k). let a = size_under y i (omega arith) in lt-ltb (row_size w i) y a)
            (le_or_lt k i)

        above : (i : ℕ) → k + r ≤ i → i < row_count w → ltb (row_size w i) y ≡ false
        above i l m =
            ⊎_elim
            (λ (h : k + n ≤ i).
            let a = high (omega arith) in
            let b = size_rises (k + n) i h m in
            le-ltb (row_size w i) y (omega arith))
            (λ (h : i < k + n).
            let j : k + (i - k) ≡ i = omega arith in
            let a = found.2 (i - k) (omega arith) (omega arith) in
            let b = size_here (i - k) ∙ ap (row_size w) j in
            le-ltb (row_size w i) y (omega arith))
            (le_or_lt (k + n) i)

  -- ---- the size's rows as a part of the words

  module _ (y : ℕ) where
    -- how many there are
    abbrev pub many : ℕ
    many = rows_under w (y + 1) - rows_under w y

    -- their words
    abbrev pub part : List ℕ
    part = cut (size_span w y) w

    pub part_size : (r : ℕ) → rows_under w y ≤ r → r < rows_under w (y + 1) → row_size w r ≡ y
    part_size r l m =
        let o = under_most w (y + 1) in
        let a = size_from y r l (omega arith) in
        let b = size_under (y + 1) r m in
        omega arith

    pub part_end : row_start w (rows_under w (y + 1)) ≤ length w
    part_end = let o = under_most w (y + 1) in let h = good_within_lem w g in omega arith

    part_whole : row_start w (rows_under w y + many) ≤ length w
    part_whole = let o = under_next w y in let h = part_end in omega arith

    pub length_rows : part_rows part ≡ many
    unfolding size_span
    length_rows = cut_rows w (rows_under w y) many part_whole

    -- the i-th of them
    module _ (i : ℕ) (row : i < many) where
      pub feature_in : part_feature part i ≡ row_feature w (rows_under w y + i)
      unfolding size_span
      feature_in = cut_feature w (rows_under w y) many part_whole i row

      pub place_in : part_place part i ≡ row_place w (rows_under w y + i)
      unfolding size_span
      place_in = cut_place w (rows_under w y) many part_whole i row

      pub length_in : part_length part i ≡ row_length w (rows_under w y + i)
      unfolding size_span
      length_in = cut_length w (rows_under w y) many part_whole i row

    -- their features ascend
    pub features_ascend : (i j : ℕ) → i < j → j < many → row_feature w (rows_under w y + i) < row_feature w (rows_under w y + j)
    unfolding Before
    features_ascend i j l h =
        let o = under_most w (y + 1) in
        let p = part_size (rows_under w y + i) (omega arith) (omega arith) in
        let q = part_size (rows_under w y + j) (omega arith) (omega arith) in
        ⊎_elim
        (λ (u : row_size w (rows_under w y + i) < row_size w (rows_under w y + j)). absurd (omega arith))
        (λ u. u.1)
        ((good_facts w g).rows.before (rows_under w y + i) (rows_under w y + j) (omega arith) (omega arith))

    -- and are a column of the part
    feature_at_lem : (i : ℕ) → i < many → column_at part feature_column row_width i ≡ row_feature w (rows_under w y + i)
    unfolding column_at part_feature
    feature_at_lem i h = feature_in i h

    pub features_rise : Rising (column_at part feature_column row_width) (part_rows part)
    unfolding Rising
    features_rise i j l m =
        let h : j < many = rw length_rows at m in
        let a = feature_at_lem i (omega arith) in
        let b = feature_at_lem j h in
        ⊎_elim
        (λ (e : i ≡ j). let f = ap (column_at part feature_column row_width) e in (let z : column_at part feature_column row_width i ≤ column_at part feature_column row_width j = omega arith in z))
        (λ (p : i < j). let f = features_ascend i j p h in (let z : column_at part feature_column row_width i ≤ column_at part feature_column row_width j = omega arith in z))
        (eq-or-lt_of_le l)

    -- a row of them that has the feature is the row sought
    among_met : (f i : ℕ) → i < many → row_feature w (rows_under w y + i) ≡ f → span_in w y f ≡ span_at w (rows_under w y + i)
    among_met f i h e =
        let o = under_most w (y + 1) in
        span_met w g y f (rows_under w y + i) (omega arith) (part_size (rows_under w y + i) (omega arith) (omega arith)) e

    -- where none of them has the feature no row has the size and the feature
    among_none : (f : ℕ) → ((i : ℕ) → i < many → row_feature w (rows_under w y + i) ≡ f → ⊥) → span_in w y f ≡ none
    among_none f n =
        missing w y f
        (λ r m s e.
        ⊎_elim
        (λ (a : rows_under w y ≤ r).
        ⊎_elim
        (λ (b : rows_under w (y + 1) ≤ r). let c = size_from (y + 1) r b m in omega arith)
        (λ (b : r < rows_under w (y + 1)).
        let i : rows_under w y + (r - rows_under w y) ≡ r = omega arith in
        n (r - rows_under w y) (omega arith) (ap (row_feature w) i ∙ e))
        (le_or_lt (rows_under w (y + 1)) r))
        (λ (a : r < rows_under w y). let c = size_under y r a in omega arith)
        (le_or_lt (rows_under w y) r))

    pub among_empty : (f : ℕ) → many ≡ 0 → span_in w y f ≡ none
    among_empty f e = among_none f (λ i h q. omega arith)

    -- what a binary search of them tells
    pub among : (f at row : ℕ) → at ≡ count_below (part_rows part) (λ (i : ℕ). ltb (column_at part feature_column row_width i) f) → row < many → (at < many → row ≡ at)
        → (b : Bool) → eqb (row_feature w (rows_under w y + row)) f ≡ b → span_in w y f ≡ cond b (span_at w (rows_under w y + row)) none
    among f at row e h same true q = among_met f row h (eqb-true (row_feature w (rows_under w y + row)) f q)
    among f at row e h same false q =
        let s = column_split (column_at part feature_column row_width) (part_rows part) f at features_rise e in
        let n = length_rows in
        among_none f
        (λ i l v.
        let a = feature_at_lem i l in
        ⊎_elim
        (λ (p : at ≤ i).
        ⊎_elim
        (λ (o : at ≡ i). eqb-false (row_feature w (rows_under w y + row)) f q (ap (λ (k : ℕ). row_feature w (rows_under w y + k)) (same (omega arith) ∙ o) ∙ v))
        (λ (o : at < i).
        let b = feature_at_lem at (omega arith) in
        let c = s.2 at (omega arith) (omega arith) in
        let d = features_ascend at i o l in
        omega arith)
        (eq-or-lt_of_le p))
        (λ (p : i < at). let c = s.1 i p in omega arith)
        (le_or_lt at i))
