-- The rows of a good index: a row is found by its size and feature, and the rows are runs. What a name stands for is in the laws of `lists`.
-- Assumes nothing.
use mathlib.Core.Path.{◌≡◌, refl, ap, ◌∙◌}
use mathlib.Core.Logic.{inl, inr}
use mathlib.Core.Bool.{true}
use mathlib.Core.List.{List}
use Prim.Native.Nat.{ℕ, ◌+◌, ◌<◌}
use native.Mathlib.Omega.{arith}
use Rattle.laws.specs.Lists.{member}
use Rattle.laws.proofs.Images.{ascending_tabulate, map_tabulate, each_tabulate}
use Rattle.words.specs.Words.{row_count, row_size, row_feature, list_at, feature_span, key_of}
use Rattle.index.specs.Good.{Good}
use Rattle.index.proofs.Facts.{Before, good_facts}
use Rattle.lists.specs.Lists.{row_for, list_in}
use Rattle.lists.proofs.Laws.{row_found, row_for_lem, list_row, list_holder}
use Rattle.index_writer.specs.Built.{Row, RowFit, RowsFit}
use Rattle.index_writer.specs.Contents.{row_in, all_rows_in, Narrow}
use Rattle.index_writer.specs.Plain.{Plain}
use Rattle.index_writer.proofs.Plain.{good_plain, plain_length}

-- ---- of any words

-- what is listed stands in a row of that size and feature
pub listed_row : (w : List ℕ) (size feature id : ℕ) → member id (list_in w size feature) ≡ true
    → (r : ℕ) × (r < row_count w) × (row_size w r ≡ size) × (row_feature w r ≡ feature) × (member id (list_at w r) ≡ true)
listed_row w size feature id m =
    let h = list_holder w size feature id m in
    let r = row_found w size feature h.0 in
    (row_for w size feature, h.0, r.0, r.1, h.1)

-- a row before another has a smaller key, where its feature fits a word
before_key : (w : List ℕ) (r s : ℕ) → row_feature w r < feature_span → Before w r s → key_of (row_size w r) (row_feature w r) < key_of (row_size w s) (row_feature w s)
unfolding Before
before_key w r s a (inl c) = omega arith
before_key w r s a (inr c) = let p = c.0 in let q = c.1 in omega arith

-- ---- in a good index

module _ (w : List ℕ) (g : Good w) where
  -- a row's list is found by its size and feature
  pub row_list : (r : ℕ) → r < row_count w → list_in w (row_size w r) (row_feature w r) ≡ list_at w r
  row_list r h =
      let e = row_for_lem w g (row_size w r) (row_feature w r) r h refl refl in
      list_row w (row_size w r) (row_feature w r) (omega arith) ∙ ap (list_at w) e

  -- the rows are runs
  pub rows_fit : Narrow w → RowsFit (all_rows_in w)
  unfolding all_rows_in
  rows_fit narrow =
      record {
        keys = rw (map_tabulate (λ (r : Row). r.key) (row_in w) (row_count w)) (ascending_tabulate (λ (r : ℕ). key_of (row_size w r) (row_feature w r)) (row_count w) up);
        each = each_tabulate RowFit (row_in w) (row_count w) fit;
      }
    where
      f : Plain w
      f = good_plain w g

      up : (r : ℕ) → r + 1 < row_count w → key_of (row_size w r) (row_feature w r) < key_of (row_size w (r + 1)) (row_feature w (r + 1))
      up r h = before_key w r (r + 1) (narrow r (omega arith)) ((good_facts w g).rows.before r (r + 1) (omega arith) h)

      fit : (r : ℕ) → r < row_count w → RowFit (row_in w r)
      fit r h =
          record {
            some = (let a = plain_length w f r h in let b = f.some r h in omega arith);
            up = f.up r h;
            ids = λ id m. (let p = f.named r id h m in let a = f.id p.0 p.1 in let e = p.2 in omega arith);
          }
