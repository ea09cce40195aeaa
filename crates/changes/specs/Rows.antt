-- Rows by ascending key, with the postings of one name more and with those of one less. The laws are in proofs/: of one posting in Put.antt,
-- of a name's in Added.antt, Later.antt and Counts.antt, of one name less in Withdrawn.antt.
-- Assumes nothing.
use Rattle.std.specs.Prelude.{cond, List, [], ◌∷◌, map, ℕ, eqb, ltb}
use Rattle.laws.specs.Sort.{insert}
use Rattle.words.specs.Words.{key_of}
use Rattle.index_writer.specs.Built.{Row}
use Rattle.changes.specs.Others.{others_of}

-- the keys, in order
abbrev pub keys_in : List Row → List ℕ
keys_in rows = map (λ (r : Row). r.key) rows

-- ---- one name more

-- the row of one id
abbrev pub lone_row : ℕ → ℕ → Row
lone_row key id = record { key = key; list = id ∷ [] }

-- a row with the id put into its list
abbrev pub row_with : ℕ → Row → Row
row_with id r = record { key = r.key; list = insert id r.list }

-- the id put into the list of the row of that key; where there is no such row, a new row before the first whose key is above, or at the end
unfoldable pub put_posting : ℕ → ℕ → List Row → List Row
put_posting key id [] = lone_row key id ∷ []
put_posting key id (r ∷ rs) =
    let later = put_posting key id rs in
    cond (ltb r.key key) (r ∷ later) (cond (eqb r.key key) (row_with id r ∷ rs) (lone_row key id ∷ r ∷ rs))

-- one posting for each feature of a name of that size, the last feature first
unfoldable pub with_postings : ℕ → List ℕ → ℕ → List Row → List Row
with_postings size [] id rows = rows
with_postings size (f ∷ fs) id rows = put_posting (key_of size f) id (with_postings size fs id rows)

-- ---- one name less

-- a row in front of rows; none where its list is empty
unfoldable pub kept_row : ℕ → List ℕ → List Row → List Row
kept_row key [] rs = rs
kept_row key (x ∷ l) rs = record { key = key; list = x ∷ l } ∷ rs

-- the id taken out of every list; a row whose list is then empty goes
unfoldable pub without_postings : ℕ → List Row → List Row
without_postings id [] = []
without_postings id (r ∷ rs) = kept_row r.key (others_of id r.list) (without_postings id rs)
