-- The one index of given names: the picture of an index as its postings, triples of size, feature and id in ascending order.
-- The posting words are the ids of that list in order; the rows are its runs of equal size and feature; the name words are the names by id.
-- Cited by whoever writes an index. That `words_of` is good, and the only good index of its names, is in proofs/Built.antt and Unique.antt.
-- Assumes nothing.
use Rattle.std.specs.Prelude.{◌≡◌, true, cond, List, [], ◌∷◌, ◌++◌, map, ℕ, ◌+◌, ◌*◌, ◌/◌, ◌%◌, ◌^◌, ◌≤◌, ◌<◌, length, eqb}
use Rattle.laws.specs.Lists.{member, Distinct, Ascending}
use Rattle.laws.specs.Each.{Each}
use Rattle.laws.specs.Sort.{sort_of}
use Rattle.names.specs.Features.{most_features}
use Rattle.words.specs.Words.{size_room, feature_span, key_of}
use Rattle.index.specs.Good.{most_names, largest_id, least_size}

-- ---- a name with its features

pub record Entry : Type 0 where
  pub id : ℕ
  pub features : List ℕ

-- what stands where there is no name
abbrev pub no_entry : Entry
no_entry = record { id = 0; features = [] }

-- its name word: id × 256 + size
abbrev pub word_of : Entry → ℕ
word_of e = e.id * size_room + length e.features

-- ---- a posting as one number, which orders by size, then feature, then id

-- ids are below this
abbrev pub id_span : ℕ
id_span = 2 ^ 16

abbrev pub triple_of : ℕ → ℕ → ℕ → ℕ
triple_of size feature id = key_of size feature * id_span + id

-- the postings of one name
unfoldable pub triples_of : Entry → List ℕ
triples_of e = map (λ (f : ℕ). triple_of (length e.features) f e.id) e.features

-- the postings of all names, name after name
unfoldable pub all_triples : List Entry → List ℕ
all_triples [] = []
all_triples (e ∷ es) = triples_of e ++ all_triples es

-- ---- rows as runs

pub record Row : Type 0 where
  pub key : ℕ
  pub list : List ℕ

-- what stands where there is no row
abbrev pub no_row : Row
no_row = record { key = 0; list = [] }

-- the row of one posting
abbrev pub one_row : ℕ → Row
one_row k = record { key = k / id_span; list = (k % id_span) ∷ [] }

-- a row with one id more at the end of its list
abbrev pub longer_row : Row → ℕ → Row
longer_row r id = record { key = r.key; list = r.list ++ (id ∷ []) }

-- one posting in front of the rows: it joins the first row where that has its key, and is a row of its own otherwise
unfoldable pub join_row : ℕ → List Row → List Row
join_row k [] = one_row k ∷ []
join_row k (r ∷ rs) = cond (eqb (k / id_span) r.key) (record { key = r.key; list = (k % id_span) ∷ r.list } ∷ rs) (one_row k ∷ r ∷ rs)

-- the runs of equal size and feature of an ascending list of postings
unfoldable pub runs_of : List ℕ → List Row
runs_of [] = []
runs_of (k ∷ ks) = join_row k (runs_of ks)

-- the postings of one row
unfoldable pub row_triples : Row → List ℕ
row_triples r = map (λ (id : ℕ). r.key * id_span + id) r.list

-- the postings of rows, row after row: what `runs_of` takes apart
unfoldable pub triples_from : List Row → List ℕ
triples_from [] = []
triples_from (r ∷ rs) = row_triples r ++ triples_from rs

-- a row whose list holds something, ascends and holds ids
pub record RowFit (r : Row) : Type 0 where
  pub some : 1 ≤ length r.list
  pub up : Ascending r.list
  pub ids : (id : ℕ) → member id r.list ≡ true → id < id_span

-- rows that are runs: keys strictly ascending, each row fit
pub record RowsFit (rows : List Row) : Type 0 where
  pub keys : Ascending (map (λ (r : Row). r.key) rows)
  pub each : Each RowFit rows

-- ---- the words

-- the lists end to end
unfoldable pub lists_of : List Row → List ℕ
lists_of [] = []
lists_of (r ∷ rs) = r.list ++ lists_of rs

-- the rows' words, the first list starting at the place
unfoldable pub row_words : ℕ → List Row → List ℕ
row_words place [] = []
row_words place (r ∷ rs) =
    (r.key / feature_span) ∷ (r.key % feature_span) ∷ place ∷ length r.list ∷ row_words (place + length r.list) rs

-- the words of name words and rows
unfoldable pub words_from : List ℕ → List Row → List ℕ
words_from names rows = length names ∷ length rows ∷ length (lists_of rows) ∷ (names ++ (row_words 0 rows ++ lists_of rows))

-- the rows of the names
unfoldable pub rows_of : List Entry → List Row
rows_of es = runs_of (sort_of (all_triples es))

-- the index of names given by ascending id
unfoldable pub words_of : List Entry → List ℕ
words_of es = words_from (map word_of es) (rows_of es)

-- ---- the names that an index can hold

-- one name: its id and its size are within the limits, its features are all different and fit a word
pub record EntryFit (e : Entry) : Type 0 where
  pub id : e.id ≤ largest_id
  pub least : least_size ≤ length e.features
  pub most : length e.features ≤ most_features
  pub distinct : Distinct e.features
  pub below : (f : ℕ) → member f e.features ≡ true → f < feature_span

-- at most 256 names by ascending id, each fit; so of none
pub record Fit (es : List Entry) : Type 0 where
  pub few : length es ≤ most_names
  pub ids : Ascending (map (λ (e : Entry). e.id) es)
  pub each : Each EntryFit es
