-- The count that a row is to have.
-- Assumes nothing.
use Rattle.std.specs.Prelude.{cond, ◌&&◌, List, ℕ, ◌+◌, get_or, eqb}
use Rattle.laws.specs.Lists.{member}
use Rattle.words.specs.Words.{size_column, feature_column, length_column}

-- the count of the row whose words start at `at`: one more than it says if it is of the size and its feature is among the features
unfoldable pub count_at : List ℕ → ℕ → ℕ → List ℕ → ℕ
count_at ws at size fs =
    get_or ws (at + length_column) 0 + cond (eqb (get_or ws (at + size_column) 0) size && member (get_or ws (at + feature_column) 0) fs) 1 0
