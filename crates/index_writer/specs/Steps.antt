-- What the steps of the writer hand on: the parts of its contracts that are not a single equation.
-- Assumes nothing.
use Rattle.std.specs.Prelude.{◌≡◌, Bool, true, cond, not, List, [], ◌∷◌, ℕ, zero, suc, ◌+◌, ◌*◌, ◌-◌, ◌/◌, ◌≤◌, length, get_or, take, set, eqb, leb}
use Rattle.std.proofs.lemmas.List.Edits.{sets}
use Rattle.words.specs.Words.{row_width}
use Rattle.index_writer.specs.Built.{id_span, runs_of, row_words}
use Rattle.index_writer.specs.Keys.{place_span, size_at, feature_at}

-- the feature and the size of a key as one number: two keys are of one row exactly if these are equal
abbrev pub run_key : List ℕ → ℕ → ℕ
run_key names k = feature_at k * place_span + size_at names k

-- whether the posting at place i begins a row: the first does, and one whose size and feature are not those of the posting before it
unfoldable pub begins_row : List ℕ → ℕ → Bool
begins_row ks zero = true
begins_row ks (suc j) = not (eqb (get_or ks j 0 / id_span) (get_or ks (suc j) 0 / id_span))

-- the words with a new row after d others; as they were where there is no room
unfoldable pub new_row : ℕ → ℕ → ℕ → List ℕ → ℕ → List ℕ
new_row size feature place out d =
    cond (leb (row_width * d + 4) (length out)) (sets out (row_width * d) (size ∷ feature ∷ place ∷ 1 ∷ [])) out

-- the words with one more in the count of the last of d rows; as they were where there was no room
unfoldable pub grown_row : List ℕ → ℕ → List ℕ
grown_row out d = cond (leb (row_width * d) (length out)) (set out (row_width * d - 1) (get_or out (row_width * d - 1) 0 + 1)) out

-- the first i postings have d rows, and these stand at the start of the words where there is room for them
pub record RowsAt (ks : List ℕ) (i d : ℕ) (out : List ℕ) : Type 0 where
  pub count : d ≡ length (runs_of (take i ks))
  pub words : row_width * d ≤ length out → take (row_width * d) out ≡ row_words 0 (runs_of (take i ks))
