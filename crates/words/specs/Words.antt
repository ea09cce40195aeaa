-- How the index words are laid out: the one place that knows where a name, a row and a posting stand.
-- Head words, N names, D rows, P postings of a word each. Everything above reads the words through these, and names no width or place as a number.
-- Past the end of the slice a word is 0.
-- Assumes nothing.
use Rattle.std.specs.Prelude.{List, ℕ, ◌+◌, ◌*◌, ◌/◌, ◌%◌, ◌^◌, length, get_or, take, drop}

-- ---- the head

-- how many words it has
abbrev pub head_width : ℕ
head_width = 3

-- which of them is which
abbrev pub name_count_at : ℕ
name_count_at = 0

abbrev pub row_count_at : ℕ
row_count_at = 1

abbrev pub posting_count_at : ℕ
posting_count_at = 2

-- N, how many names
abbrev pub name_count : List ℕ → ℕ
name_count w = get_or w name_count_at 0

-- D, how many rows
abbrev pub row_count : List ℕ → ℕ
row_count w = get_or w row_count_at 0

-- P, how many postings
abbrev pub posting_count : List ℕ → ℕ
posting_count w = get_or w posting_count_at 0

-- ---- a name: id × 256 + size

-- how many words a name has
abbrev pub name_width : ℕ
name_width = 1

-- the sizes that a name's word has room for are below this
abbrev pub size_room : ℕ
size_room = 256

-- where the names start, and where name i starts
abbrev pub names_start : ℕ
names_start = head_width

abbrev pub name_start : ℕ → ℕ
name_start i = names_start + name_width * i

unfoldable pub name_word : List ℕ → ℕ → ℕ
name_word w i = get_or w (name_start i) 0

unfoldable pub name_id : List ℕ → ℕ → ℕ
name_id w i = name_word w i / size_room

unfoldable pub name_size : List ℕ → ℕ → ℕ
name_size w i = name_word w i % size_room

-- ---- a row: size, feature, place, count

-- how many words a row has
abbrev pub row_width : ℕ
row_width = 4

-- which of them is which
abbrev pub size_column : ℕ
size_column = 0

abbrev pub feature_column : ℕ
feature_column = 1

abbrev pub place_column : ℕ
place_column = 2

abbrev pub length_column : ℕ
length_column = 3

-- where the rows start
abbrev pub rows_start : List ℕ → ℕ
rows_start w = name_start (name_count w)

-- where row r starts
abbrev pub row_start : List ℕ → ℕ → ℕ
row_start w r = rows_start w + row_width * r

unfoldable pub row_size : List ℕ → ℕ → ℕ
row_size w r = get_or w (row_start w r) 0

unfoldable pub row_feature : List ℕ → ℕ → ℕ
row_feature w r = get_or w (row_start w r + feature_column) 0

unfoldable pub row_place : List ℕ → ℕ → ℕ
row_place w r = get_or w (row_start w r + place_column) 0

unfoldable pub row_length : List ℕ → ℕ → ℕ
row_length w r = get_or w (row_start w r + length_column) 0

-- ---- rows cut out of the words

-- m rows from row a on
abbrev pub rows_cut : List ℕ → ℕ → ℕ → List ℕ
rows_cut w a m = take (row_width * m) (drop (row_start w a) w)

-- how many rows such a part has; words after the last whole row are no row
unfoldable pub part_rows : List ℕ → ℕ
part_rows rows = length rows / row_width

unfoldable pub part_feature : List ℕ → ℕ → ℕ
part_feature rows r = get_or rows (feature_column + row_width * r) 0

unfoldable pub part_place : List ℕ → ℕ → ℕ
part_place rows r = get_or rows (place_column + row_width * r) 0

unfoldable pub part_length : List ℕ → ℕ → ℕ
part_length rows r = get_or rows (length_column + row_width * r) 0

-- ---- a row by one number

-- features are below this
abbrev pub feature_span : ℕ
feature_span = 2 ^ 32

-- a size and a feature as one number
abbrev pub key_of : ℕ → ℕ → ℕ
key_of size feature = size * feature_span + feature

-- a row's size and feature as one number, by which the rows ascend
unfoldable pub row_key : List ℕ → ℕ → ℕ
row_key w r = key_of (row_size w r) (row_feature w r)

-- ---- a posting

-- where the postings start
abbrev pub postings_start : List ℕ → ℕ
postings_start w = rows_start w + row_width * row_count w

unfoldable pub posting : List ℕ → ℕ → ℕ
posting w k = get_or w (postings_start w + k) 0

-- where row r's list starts among the words
abbrev pub list_start : List ℕ → ℕ → ℕ
list_start w r = postings_start w + row_place w r

-- row r's list: as many words as its count from its place on
unfoldable pub list_at : List ℕ → ℕ → List ℕ
list_at w r = take (row_length w r) (drop (list_start w r) w)

-- how many words the index takes: head, names, rows and postings
abbrev pub total : List ℕ → ℕ
total w = postings_start w + posting_count w
