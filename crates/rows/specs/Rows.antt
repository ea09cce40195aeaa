-- Answer rows as records: the row of a name, the rows of an answer, and what a lent list of rows holds afterwards; and rows as they stand in columns and
-- in cells before they are records.
-- What a search answers, and which names it gives, is in the crate `search`, specs/Answers.antt. Assumes nothing.
use Rattle.std.specs.Prelude.{◌≡◌, List, [], ◌∷◌, ◌++◌, map, ℕ, ◌+◌, ◌*◌, ◌≤◌, length, get_or, drop}
use Rattle.laws.specs.Lists.{tabulate}
use Rattle.names.specs.Features.{features_of}
use Rattle.words.specs.Words.{name_id, name_size}
use Rattle.index.specs.Good.{most_names}
use Rattle.sizes.specs.Method.{shared_with}
use Rattle.search.specs.Answers.{rows_in, search_of, Columns, least_for, places_given, Answer}
use Rattle.rows.specs.declared.Row.{Row}

-- ---- rows as the rule has them

-- the row of the name at place i
abbrev pub row_of : List ℕ → ℕ → ℕ → ℕ → List ℕ → ℕ → Row
row_of w m p q query i = record { id = name_id w i; shared = shared_with w query i; size = name_size w i; least = least_for w m p q query i }

-- the rows of the names at the places
abbrev pub records_of : List ℕ → ℕ → ℕ → ℕ → List ℕ → List ℕ → List Row
records_of w m p q query places = map (row_of w m p q query) places

-- a lent list of rows afterwards: what is given, and after it what stood there
abbrev pub over_rows : List Row → List Row → List Row
over_rows l s = l ++ drop (length l) s

-- what a search leaves in a list that is lent to it
abbrev pub rows_after : List ℕ → ℕ → ℕ → ℕ → ℕ → List ℕ → List Row → List Row
rows_after query m p q allowance w rows = over_rows (records_of w m p q (features_of query) (places_given query m p q allowance w (length rows))) rows

-- ---- records and columns

-- records as columns
abbrev pub columns_in : List Row → Columns
columns_in l =
    record {
      ids = map (λ (r : Row). r.id) l;
      shared = map (λ (r : Row). r.shared) l;
      sizes = map (λ (r : Row). r.size) l;
      least = map (λ (r : Row). r.least) l;
    }

-- row k across the columns; past the end of a column its field is 0
abbrev pub row_across : Columns → ℕ → Row
row_across c k = record { id = get_or c.ids k 0; shared = get_or c.shared k 0; size = get_or c.sizes k 0; least = get_or c.least k 0 }

-- ---- records and cells: a row's fields in order, one row after the other

-- how many cells a row takes
abbrev pub row_cells : ℕ
row_cells = 4

-- the cells of a row
abbrev pub cells_in : Row → List ℕ
cells_in r = r.id ∷ r.shared ∷ r.size ∷ r.least ∷ []

-- the cells of the rows; none of no row
unfoldable pub cells_of : List Row → List ℕ
cells_of [] = []
cells_of (r ∷ l) = cells_in r ++ cells_of l

-- row k of the cells; past their end a field is 0
abbrev pub row_in : List ℕ → ℕ → Row
row_in cells k =
    record {
      id = get_or cells (row_cells * k) 0;
      shared = get_or cells (row_cells * k + 1) 0;
      size = get_or cells (row_cells * k + 2) 0;
      least = get_or cells (row_cells * k + 3) 0;
    }

-- ---- what a search leaves before its rows are records

-- a search with that room, where `row k` is row k of what it leaves: its answer, and the first rows, as many as it gives, are the given ones
pub record Filled (query : List ℕ) (m p q allowance : ℕ) (w : List ℕ) (room : ℕ) (r : Answer) (row : ℕ → Row) : Type 0 where
  pub answer : r ≡ search_of query m p q allowance w room
  pub rows : tabulate row (rows_in r) ≡ records_of w m p q (features_of query) (places_given query m p q allowance w room)
  pub few : rows_in r ≤ most_names
  pub within : rows_in r ≤ room
