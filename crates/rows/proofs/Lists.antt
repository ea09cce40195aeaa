-- Laws on lists of rows: rows written over a list. Cited by the proofs of `put_rows` and `search_rows`.
-- Assumes nothing.
use mathlib.Core.Path.{◌≡◌, sym, ap, ◌∙◌}
use mathlib.Core.List.{List, [], ◌++◌}
use Prim.Native.Nat.{ℕ}
use lib.ListN.{drop}
use Rattle.laws.specs.Lists.{tabulate}
use Rattle.laws.proofs.Lists.{length_tabulate}
use Rattle.rows.specs.declared.Row.{Row}
use Rattle.rows.specs.Rows.{over_rows, row_in}

-- any row, for what stands past an end
abbrev pub no_row : Row
no_row = row_in [] 0

-- the first k rows over the list l
abbrev pub rows_over : (ℕ → Row) → ℕ → List Row → List Row
rows_over f k l = tabulate f k ++ drop k l

-- ---- the rows of an answer

-- the first n rows over the list, where they are the given ones
pub rows_given_lem : (f : ℕ → Row) (n : ℕ) (l given : List Row) → tabulate f n ≡ given → rows_over f n l ≡ over_rows given l
rows_given_lem f n l given e =
    ap (λ (k : ℕ). tabulate f n ++ drop k l) (sym (length_tabulate f n)) ∙ ap (λ (g : List Row). over_rows g l) e
