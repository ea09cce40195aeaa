-- One row where an id goes: where it lies, what it leaves of the words, and the places that are noted. The laws are in proofs/Laws.antt and Rows.antt.
-- Assumes nothing.
use Rattle.std.specs.Prelude.{Bool, cond, ◌&&◌, List, [], ◌∷◌, ℕ, ◌+◌, ◌-◌, ◌^◌, ◌≤◌, length, set, eqb}
use Rattle.laws.specs.Lists.{member, Ascending}
use Rattle.words.specs.Words.{row_width, length_column, row_start, row_place, row_length, list_start, list_at}
use Rattle.binary_search.specs.Seats.{place_of}

-- row r's words and its list lie within the words, their places fit 32 bits, and the list ascends
pub record RowLies (w : List ℕ) (r : ℕ) : Type 0 where
  pub row : row_start w r + row_width ≤ length w
  pub list : list_start w r + row_length w r ≤ length w
  pub words : row_start w r + row_width ≤ 2 ^ 32
  pub postings : row_place w r + row_length w r ≤ 2 ^ 32
  pub up : Ascending (list_at w r)

-- whether row r's list holds the id, and whether it holds nothing else
abbrev pub holds_id : List ℕ → ℕ → ℕ → Bool
holds_id w r id = member id (list_at w r)

abbrev pub holds_only : List ℕ → ℕ → ℕ → Bool
holds_only w r id = holds_id w r id && eqb (row_length w r) 1

-- the words with one less in row r's count, where its list holds the id
abbrev pub thin_at : List ℕ → ℕ → ℕ → List ℕ
thin_at w r id = cond (holds_id w r id) (set w (row_start w r + length_column) (row_length w r - 1)) w

-- the place of the id among the postings, where row r's list holds it
abbrev pub id_at : List ℕ → ℕ → ℕ → List ℕ
id_at w r id = cond (holds_id w r id) ((row_place w r + place_of id (list_at w r)) ∷ []) []

-- the places of row r's words, where its list holds nothing but the id
abbrev pub empty_at : List ℕ → ℕ → ℕ → List ℕ
empty_at w r id =
    cond (holds_only w r id) (row_start w r ∷ (row_start w r + 1) ∷ (row_start w r + 2) ∷ (row_start w r + 3) ∷ []) []
