-- The words of an index with one name more or less, by place: which words are put in, or taken out, and which are then worked out anew.
-- Places of rows' words are counted from the first row, places of postings from the first posting. The laws are in proofs/Placed.antt, of a name more
-- in proofs/CutsAdded.antt and WordsAdded.antt, of a name less in proofs/CutsWithdrawn.antt and CutsNoted.antt.
-- Assumes nothing.
use Rattle.std.specs.Prelude.{◌≡◌, Bool, cond, ◌&&◌, List, [], ◌∷◌, ◌++◌, map, ℕ, zero, suc, ◌+◌, ◌*◌, ◌-◌, ◌/◌, ◌%◌, length, get_or, take, drop, set, replicate, eqb}
use Rattle.laws.specs.Lists.{member}
use Rattle.words.specs.Words.{name_count_at, row_count_at, posting_count_at, name_start, row_width, length_column, feature_span, key_of}
use Rattle.index_writer.specs.Built.{Row, no_row, lists_of}
use Rattle.binary_search.specs.Seats.{place_of}
use Rattle.changes.specs.Others.{others_of}
use Rattle.changes.specs.Rows.{keys_in}

-- ---- rows' words, but for the places of their lists

-- the words are those of the rows, whatever stands where a list's place is due
unfoldable pub RowsAs : List Row → List ℕ → Type 0
RowsAs [] ws = ws ≡ []
RowsAs (r ∷ rs) ws =
    (place : ℕ) × (rest : List ℕ)
    × (ws ≡ (r.key / feature_span) ∷ (r.key % feature_span) ∷ place ∷ length r.list ∷ rest)
    × RowsAs rs rest

-- the words are those of the rows, whatever stands where a list's place is due, with one less in the count of each row whose key passes the test
unfoldable pub RowsShort : (ℕ → Bool) → List Row → List ℕ → Type 0
RowsShort t [] ws = ws ≡ []
RowsShort t (r ∷ rs) ws =
    (place : ℕ) × (count : ℕ) × (rest : List ℕ)
    × (ws ≡ (r.key / feature_span) ∷ (r.key % feature_span) ∷ place ∷ count ∷ rest)
    × (length r.list ≡ count + cond (t r.key) 1 0)
    × RowsShort t rs rest

-- the test that a row is of the size and one of the features
abbrev pub of_features : ℕ → List ℕ → ℕ → Bool
of_features size fs k = eqb (k / feature_span) size && member (k % feature_span) fs

-- the words of so many rows with the places of their lists worked out anew, the first at `place`, and one more in the count of each row of the size
-- whose feature is among the features
unfoldable pub placed_from : ℕ → ℕ → ℕ → List ℕ → List ℕ → List ℕ
placed_from zero place size fs ws = ws
placed_from (suc n) place size fs [] = []
placed_from (suc n) place size fs (s ∷ []) = s ∷ []
placed_from (suc n) place size fs (s ∷ f ∷ []) = s ∷ f ∷ []
placed_from (suc n) place size fs (s ∷ f ∷ p ∷ []) = s ∷ f ∷ p ∷ []
placed_from (suc n) place size fs (s ∷ f ∷ p ∷ c ∷ ws) =
    let m = c + cond (eqb s size && member f fs) 1 0 in s ∷ f ∷ place ∷ m ∷ placed_from n (place + m) size fs ws

-- ---- a name more

-- whether there is a row of the size and the feature, and how many rows stand before it
abbrev pub has_row : ℕ → List Row → ℕ → Bool
has_row size rows f = member (key_of size f) (keys_in rows)

abbrev pub row_seat : ℕ → List Row → ℕ → ℕ
row_seat size rows f = place_of (key_of size f) (keys_in rows)

-- where the words of the rows that are new go, and which they are: the place and the count are 0, and worked out afterwards
unfoldable pub row_cuts : ℕ → List Row → List ℕ → List ℕ
row_cuts size rows [] = []
row_cuts size rows (f ∷ fs) = cond (has_row size rows f) [] (replicate row_width (row_width * row_seat size rows f)) ++ row_cuts size rows fs

unfoldable pub new_rows : ℕ → List Row → List ℕ → List ℕ
new_rows size rows [] = []
new_rows size rows (f ∷ fs) = cond (has_row size rows f) [] (size ∷ f ∷ 0 ∷ 0 ∷ []) ++ new_rows size rows fs

-- where the id goes among the postings, for a feature
abbrev pub posting_seat : ℕ → ℕ → List Row → ℕ → ℕ
posting_seat size id rows f =
    let i = row_seat size rows f in length (lists_of (take i rows)) + cond (has_row size rows f) (place_of id (get_or rows i no_row).list) 0

unfoldable pub posting_cuts : ℕ → ℕ → List Row → List ℕ → List ℕ
posting_cuts size id rows fs = map (posting_seat size id rows) fs

-- ---- a name less

-- the row without the id
abbrev pub thin_row : ℕ → Row → Row
thin_row id r = record { key = r.key; list = others_of id r.list }

-- the first k rows without the id, the others as they were
abbrev pub thin_to : ℕ → ℕ → List Row → List Row
thin_to id k rows = map (thin_row id) (take k rows) ++ drop k rows

-- the words with one less in the count of each of the first k rows whose list holds the id, the rows' words starting at `start`
unfoldable pub thinned_to : ℕ → ℕ → ℕ → List Row → List ℕ → List ℕ
thinned_to zero start id rows w = w
thinned_to (suc k) start id rows w =
    let v = thinned_to k start id rows w in
    let at = start + row_width * k + length_column in
    cond (member id (get_or rows k no_row).list) (set v at (get_or v at 0 - 1)) v

-- places in parts that stand end to end, a part for each row: which in its own part, and how long that is
unfoldable pub cuts_of : (Row → List ℕ) → (Row → ℕ) → List Row → List ℕ
cuts_of own width [] = []
cuts_of own width (r ∷ rs) = own r ++ map (λ (p : ℕ). width r + p) (cuts_of own width rs)

-- the places of the words of the rows whose lists are empty
abbrev pub empty_words : Row → List ℕ
empty_words r = cond (eqb (length r.list) 0) (0 ∷ 1 ∷ 2 ∷ 3 ∷ []) []

abbrev pub empty_cuts : List Row → List ℕ
empty_cuts rows = cuts_of empty_words (λ (r : Row). row_width) rows

-- the places at which the id stands among the postings
abbrev pub id_place : ℕ → Row → List ℕ
id_place id r = cond (member id r.list) (place_of id r.list ∷ []) []

abbrev pub id_cuts : ℕ → List Row → List ℕ
id_cuts id rows = cuts_of (id_place id) (λ (r : Row). length r.list) rows

-- ---- the whole

-- where the words of a name more go, in an index of n names and these rows: the name's word before the name at the place, the new rows' words among
-- the rows', and the id among the postings
abbrev pub add_cuts : ℕ → ℕ → ℕ → ℕ → List Row → List ℕ → List ℕ
add_cuts n place size id rows fs =
    name_start place
    ∷ (map (λ (p : ℕ). name_start n + p) (row_cuts size rows fs)
    ++ map (λ (p : ℕ). name_start n + row_width * length rows + p) (posting_cuts size id rows fs))

-- and which they are, the first being the name's word
abbrev pub add_words : ℕ → ℕ → ℕ → List Row → List ℕ → List ℕ
add_words word size id rows fs = word ∷ (new_rows size rows fs ++ replicate (length fs) id)

-- where the words stand that go with a name, of the words in which the id is no longer counted
abbrev pub withdraw_cuts : ℕ → ℕ → ℕ → List Row → List ℕ
withdraw_cuts n place id rows =
    name_start place
    ∷ (map (λ (p : ℕ). name_start n + p) (empty_cuts (map (thin_row id) rows))
    ++ map (λ (p : ℕ). name_start n + row_width * length rows + p) (id_cuts id rows))

-- what is left to do once words were put in or taken out: the three head words set, for so many names, rows and postings, and the rows' words worked
-- out anew
abbrev pub settled : ℕ → ℕ → ℕ → ℕ → List ℕ → List ℕ → List ℕ
settled n d p size fs ws =
    let w = set (set (set ws name_count_at n) row_count_at d) posting_count_at p in
    let on = drop (name_start n) w in
    take (name_start n) w ++ (placed_from d 0 size fs (take (row_width * d) on) ++ drop (row_width * d) on)
