-- What a good index is: the rule's conditions one by one, as a test. `Good words` says that they all hold.
-- Every slice of words has a verdict, whatever it holds.
-- Assumes nothing.
use Rattle.std.specs.Prelude.{◌≡◌, Bool, true, ◌&&◌, ◌||◌, List, ℕ, zero, suc, ◌+◌, ◌-◌, ◌*◌, ◌≤◌, ◌<◌, length, leb, ltb, eqb}
use Rattle.laws.specs.Lists.{member, tabulate}
use Rattle.laws.specs.Below.{all_below, any_below, sum_below, count_below}
use Rattle.names.specs.Features.{size_of, gram_length, most_features}
use Rattle.words.specs.Words.{head_width, name_count, row_count, posting_count, name_id, name_size, row_size, row_feature, row_place, row_length, posting, list_at, total}

-- ---- the limits

abbrev pub most_names : ℕ
most_names = 256

abbrev pub most_postings : ℕ
most_postings = most_names * most_features

abbrev pub largest_id : ℕ
largest_id = 65535

-- the size of a name of one character
abbrev pub least_size : ℕ
least_size = size_of gram_length 1

-- ---- the head

-- the head words are there, N and P are within their limits, and all that the head announces lies within the slice; `most` is P's limit
abbrev pub head_within : ℕ → List ℕ → Bool
head_within most w =
    leb head_width (length w) && leb (name_count w) most_names && leb (posting_count w) most && leb (total w) (length w)

unfoldable pub head_good : List ℕ → Bool
head_good w = head_within most_postings w

-- ---- the names

-- their ids, in order
unfoldable pub ids_in : List ℕ → List ℕ
ids_in w = tabulate (name_id w) (name_count w)

-- a name's id is at most 65,535, and its size is from 3 to the largest
abbrev pub name_within : ℕ → List ℕ → ℕ → Bool
name_within largest w i = leb (name_id w i) largest_id && leb least_size (name_size w i) && leb (name_size w i) largest

unfoldable pub name_good : List ℕ → ℕ → Bool
name_good w i = name_within most_features w i

-- ids strictly ascending
abbrev pub ids_good : List ℕ → Bool
ids_good w = all_below (name_count w - 1) (λ (i : ℕ). ltb (name_id w i) (name_id w (i + 1)))

unfoldable pub names_good : List ℕ → Bool
names_good w = all_below (name_count w) (name_good w) && ids_good w

-- ---- the rows

-- row r stands before row s: by size, then by feature
unfoldable pub row_before : List ℕ → ℕ → ℕ → Bool
row_before w r s =
    ltb (row_size w r) (row_size w s) || (eqb (row_size w r) (row_size w s) && ltb (row_feature w r) (row_feature w s))

-- where row r's list has to start: 0 for the first row, then the previous place plus the previous count
unfoldable pub place_due : List ℕ → ℕ → ℕ
place_due w zero = 0
place_due w (suc r) = row_place w r + row_length w r

-- a row lists at least one id, from the place that is due
unfoldable pub row_good : List ℕ → ℕ → Bool
row_good w r = leb 1 (row_length w r) && eqb (row_place w r) (place_due w r)

-- rows strictly ascending, each good, and their counts sum to P
unfoldable pub rows_good : List ℕ → Bool
rows_good w =
    all_below (row_count w) (row_good w)
    && all_below (row_count w - 1) (λ (r : ℕ). row_before w r (r + 1))
    && eqb (sum_below (row_count w) (row_length w)) (posting_count w)

-- ---- the lists

-- whether the id is a name of that size
unfoldable pub is_name : List ℕ → ℕ → ℕ → Bool
is_name w size id = any_below (name_count w) (λ (i : ℕ). eqb (name_id w i) id && eqb (name_size w i) size)

-- row r's list is strictly ascending, and each id in it is a name of the row's size
unfoldable pub list_good : List ℕ → ℕ → Bool
list_good w r =
    all_below (row_length w r - 1) (λ (k : ℕ). ltb (posting w (row_place w r + k)) (posting w (row_place w r + (k + 1))))
    && all_below (row_length w r) (λ (k : ℕ). is_name w (row_size w r) (posting w (row_place w r + k)))

-- how many lists hold the id
unfoldable pub lists_with : List ℕ → ℕ → ℕ
lists_with w id = count_below (row_count w) (λ (r : ℕ). member id (list_at w r))

-- every list is good, and every name is in exactly as many lists as its size
unfoldable pub lists_good : List ℕ → Bool
lists_good w =
    all_below (row_count w) (list_good w)
    && all_below (name_count w) (λ (i : ℕ). eqb (lists_with w (name_id w i)) (name_size w i))

-- ---- the whole

unfoldable pub good_of : List ℕ → Bool
good_of w = head_good w && names_good w && rows_good w && lists_good w

-- the same with other limits on the largest size and the most postings
unfoldable pub good_within : ℕ → ℕ → List ℕ → Bool
good_within largest most w =
    head_within most w && (all_below (name_count w) (name_within largest w) && ids_good w) && rows_good w && lists_good w

abbrev pub Good : List ℕ → Type 0
Good w = good_of w ≡ true

-- what other limits are asked of: no name of the words has a larger size, and there are no more postings
pub record Inside (largest most : ℕ) (w : List ℕ) : Type 0 where
  pub sizes : (i : ℕ) → i < name_count w → name_size w i ≤ largest
  pub postings : posting_count w ≤ most
