-- Where the rows of a size stand: after all rows of smaller sizes.
-- Assumes nothing.
use Rattle.std.specs.Prelude.{List, ℕ, ◌+◌, ◌-◌, ◌*◌, ltb}
use Rattle.laws.specs.Below.{count_below}
use Rattle.words.specs.Words.{row_count, row_size, row_start, row_width}
use Rattle.lists.specs.Part.{Span}

-- how many rows have a size below this one
unfoldable pub rows_under : List ℕ → ℕ → ℕ
rows_under w size = count_below (row_count w) (λ (r : ℕ). ltb (row_size w r) size)

-- the part of the words that is the rows of a size
unfoldable pub size_span : List ℕ → ℕ → Span
size_span w size = record { start = row_start w (rows_under w size); count = row_width * (rows_under w (size + 1) - rows_under w size) }
