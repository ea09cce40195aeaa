-- The rows of a good index: where their words and lists lie, and the row of a size and a feature.
-- Cited by the proofs of `rows_between` and `place_among`, and of the crate `seats`.
-- Assumes nothing.
use mathlib.Core.Path.{◌≡◌, ap}
use mathlib.Core.Logic.{⊎_elim}
use mathlib.Core.List.{List}
use Prim.Native.Nat.{ℕ, ◌+◌, ◌≤◌, ◌<◌}
use native.Mathlib.Omega.{arith}
use lib.ListN.{length}
use borrow.Author.Tests.{lt-ltb, le-ltb}
use Rattle.laws.proofs.Order.{le_or_lt}
use Rattle.words.specs.Words.{row_count, row_size, row_feature, row_place, row_length, row_width, row_start, list_start, postings_start}
use Rattle.words.proofs.Laws.{row_in_lem}
use Rattle.index.specs.Good.{Good}
use Rattle.index.proofs.Facts.{good_facts, list_within}
use Rattle.lists.specs.Lists.{row_for, span_at, span_in}
use Rattle.lists.specs.Part.{none}
use Rattle.lists.proofs.Laws.{row_found, row_for_lem}

pub rows_most : (w : List ℕ) → Good w → row_count w ≤ length w
rows_most w g = let h = (good_facts w g).head.within in omega arith

module _ (w : List ℕ) (g : Good w) (r : ℕ) (row : r < row_count w) where
  pub row_within : row_start w r + row_width ≤ length w
  row_within = row_in_lem w r (good_facts w g).head.within row

  pub list_end : list_start w r + row_length w r ≤ length w
  list_end =
      let h = (good_facts w g).head.within in
      let l = list_within w (good_facts w g).rows r row in
      omega arith

-- a row's part, by the numbers that the code reads
pub span_row : (w : List ℕ) (r s p l : ℕ) → r < row_count w → s ≡ postings_start w → p ≡ row_place w r → l ≡ row_length w r
    → span_at w r ≡ record { start = s + p; count = l }
unfolding span_at
span_row w r s p l h es ep el = rw (lt-ltb r (row_count w) h, es, ep, el)

pub span_past : (w : List ℕ) (r : ℕ) → row_count w ≤ r → span_at w r ≡ none
unfolding span_at
span_past w r l = rw (le-ltb r (row_count w) l)

-- a row of the size and the feature is the row sought
pub span_met : (w : List ℕ) → Good w → (y f r : ℕ) → r < row_count w → row_size w r ≡ y → row_feature w r ≡ f → span_in w y f ≡ span_at w r
unfolding span_in
span_met w g y f r m p q = ap (span_at w) (row_for_lem w g y f r m p q)

-- where no row has the size and the feature there is no such row
pub missing : (w : List ℕ) (y f : ℕ) → ((r : ℕ) → r < row_count w → row_size w r ≡ y → row_feature w r ≡ f → ⊥) → span_in w y f ≡ none
unfolding span_in
missing w y f n =
    ⊎_elim
    (λ (l : row_count w ≤ row_for w y f). span_past w (row_for w y f) l)
    (λ (l : row_for w y f < row_count w). let p = row_found w y f l in absurd (n (row_for w y f) l p.0 p.1))
    (le_or_lt (row_count w) (row_for w y f))
