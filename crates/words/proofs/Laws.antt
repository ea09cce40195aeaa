-- Laws of the layout alone: where a row's words lie, that they fit 32 bits where every word does, and rows cut out of the words.
-- Assumes nothing.
use mathlib.Core.Path.{◌≡◌, ap, ◌∙◌}
use mathlib.Core.List.{List}
use Prim.Native.Nat.{ℕ, ◌+◌, ◌*◌, ◌≤◌, ◌<◌}
use native.Mathlib.Omega.{arith}
use lib.ListN.{length, get_or, drop, length-drop}
use lib.Seq.{length-take-le, get_or-take, get_or-drop}
use Rattle.words.specs.Words.{row_count, row_size, row_feature, row_place, row_length, row_width, row_start, size_column, feature_column, place_column, length_column, rows_cut, part_rows, part_feature, part_place, part_length, total}

-- where the head is right, a row's words lie within the slice
pub row_in_lem : (w : List ℕ) (r : ℕ) → total w ≤ length w → r < row_count w → row_start w r + row_width ≤ length w
row_in_lem w r h l = omega arith

-- the sizes of the rows are a column
pub size_at_lem : (w : List ℕ) (r : ℕ) → get_or w (row_start w 0 + size_column + row_width * r) 0 ≡ row_size w r
unfolding row_size
size_at_lem w r = let e : row_start w 0 + size_column + row_width * r ≡ row_start w r = omega arith in ap (λ (n : ℕ). get_or w n 0) e

module _ (w : List ℕ) (fits : (i : ℕ) → get_or w i 0 < 4294967296) where
  pub feature_word : (r : ℕ) → row_feature w r < 4294967296
  unfolding row_feature
  feature_word r = fits (row_start w r + 1)

-- ---- rows cut out of the words

-- a row of a part lies within it
pub part_within : (rows : List ℕ) (r k : ℕ) → r < part_rows rows → k < row_width → k + row_width * r < length rows
unfolding part_rows
part_within rows r k l h = omega arith

pub part_most : (rows : List ℕ) → part_rows rows ≤ length rows
unfolding part_rows
part_most rows = omega arith

module _ (w : List ℕ) (a m : ℕ) (within : row_start w (a + m) ≤ length w) where
  length_cut : length (rows_cut w a m) ≡ row_width * m
  length_cut =
      let n = length-drop (row_start w a) w in
      length-take-le (row_width * m) (drop (row_start w a) w) (omega arith)

  -- a part of m rows has m rows
  pub cut_rows : part_rows (rows_cut w a m) ≡ m
  unfolding part_rows
  cut_rows = let n = length_cut in omega arith

  module _ (i : ℕ) (row : i < m) where
    cut_word : (k : ℕ) → k < row_width → get_or (rows_cut w a m) (k + row_width * i) 0 ≡ get_or w (row_start w (a + i) + k) 0
    cut_word k h =
        let n : row_start w a + (k + row_width * i) ≡ row_start w (a + i) + k = omega arith in
        get_or-take (row_width * m) (drop (row_start w a) w) (k + row_width * i) 0 (omega arith)
        ∙ get_or-drop (row_start w a) w (k + row_width * i) 0
        ∙ ap (λ (j : ℕ). get_or w j 0) n

    -- and row i of them is row a + i
    pub cut_feature : part_feature (rows_cut w a m) i ≡ row_feature w (a + i)
    unfolding part_feature row_feature
    cut_feature = cut_word feature_column (omega arith)

    pub cut_place : part_place (rows_cut w a m) i ≡ row_place w (a + i)
    unfolding part_place row_place
    cut_place = cut_word place_column (omega arith)

    pub cut_length : part_length (rows_cut w a m) i ≡ row_length w (a + i)
    unfolding part_length row_length
    cut_length = cut_word length_column (omega arith)
