-- Worked examples, by computation: two given rows over three that stood there, none over them, the first two rows of four columns, and two rows as
-- cells and back.
-- Assumes nothing.
use mathlib.Core.Path.{◌≡◌, refl}
use mathlib.Core.List.{List, [], ◌∷◌}
use Prim.Native.Nat.{ℕ}
use Rattle.laws.specs.Lists.{tabulate}
use Rattle.rows.specs.declared.Row.{Row}
use Rattle.search.specs.Answers.{as_columns}
use Rattle.rows.specs.Rows.{over_rows, row_across, row_in, cells_of}

row : ℕ → ℕ → ℕ → ℕ → Row
row i c y t = record { id = i; shared = c; size = y; least = t }

-- what stood there
stood : List Row
stood = row 7 7 7 7 ∷ row 8 8 8 8 ∷ row 9 9 9 9 ∷ []

behind_kept : over_rows (row 10 6 6 4 ∷ row 11 4 7 4 ∷ []) stood ≡ row 10 6 6 4 ∷ row 11 4 7 4 ∷ row 9 9 9 9 ∷ []
unfolding row stood
behind_kept = refl

none_given : over_rows [] stood ≡ stood
none_given = refl

columns : tabulate (row_across (as_columns (10 ∷ 11 ∷ 0 ∷ []) (6 ∷ 4 ∷ 0 ∷ []) (6 ∷ 7 ∷ 0 ∷ []) (4 ∷ 4 ∷ 0 ∷ []))) 2 ≡ row 10 6 6 4 ∷ row 11 4 7 4 ∷ []
unfolding row tabulate
columns = refl

cells : cells_of (row 10 6 6 4 ∷ row 11 4 7 4 ∷ []) ≡ 10 ∷ 6 ∷ 6 ∷ 4 ∷ 11 ∷ 4 ∷ 7 ∷ 4 ∷ []
unfolding row cells_of
cells = refl

read_cells : tabulate (row_in (10 ∷ 6 ∷ 6 ∷ 4 ∷ 11 ∷ 4 ∷ 7 ∷ 4 ∷ 0 ∷ 0 ∷ 0 ∷ 0 ∷ [])) 2 ≡ row 10 6 6 4 ∷ row 11 4 7 4 ∷ []
unfolding row tabulate
read_cells = refl
