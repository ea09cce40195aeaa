-- The list of a size and a feature, and what a name in an index stands for.
-- Assumes nothing.
use Rattle.std.specs.Prelude.{Bool, cond, ◌&&◌, List, [], map, ℕ, ltb, eqb}
use Rattle.laws.specs.Lists.{member}
use Rattle.laws.specs.Below.{passing_below}
use Rattle.laws.specs.First.{first_from}
use Rattle.words.specs.Words.{row_count, row_size, row_feature, row_length, list_start, list_at}
use Rattle.index.specs.Good.{good_of}
use Rattle.lists.specs.Part.{Span, none}

-- whether row r is that of the size and the feature
unfoldable pub row_is : List ℕ → ℕ → ℕ → ℕ → Bool
row_is w size feature r = eqb (row_size w r) size && eqb (row_feature w r) feature

-- the first such row; D where there is none
unfoldable pub row_for : List ℕ → ℕ → ℕ → ℕ
row_for w size feature = first_from (row_is w size feature) (row_count w) 0

-- the part of the words that is row r's list; the empty part where r is no row
unfoldable pub span_at : List ℕ → ℕ → Span
span_at w r = cond (ltb r (row_count w)) (record { start = list_start w r; count = row_length w r }) none

-- the part of the words that is the list of the size and the feature; the empty part where no row exists
unfoldable pub span_in : List ℕ → ℕ → ℕ → Span
span_in w size feature = span_at w (row_for w size feature)

-- the same of any words: the empty part too where the index isn't good
unfoldable pub span_for : List ℕ → ℕ → ℕ → Span
span_for w size feature = cond (good_of w) (span_in w size feature) none

-- the list of the size and the feature; empty where no row exists
unfoldable pub list_in : List ℕ → ℕ → ℕ → List ℕ
list_in w size feature = let r = row_for w size feature in cond (ltb r (row_count w)) (list_at w r) []

-- ---- what a name stands for

-- a name in an index stands for the features of the rows whose lists hold it, in the rows' order
unfoldable pub features_in : List ℕ → ℕ → List ℕ
features_in w id = map (row_feature w) (passing_below (row_count w) (λ (r : ℕ). member id (list_at w r)))
