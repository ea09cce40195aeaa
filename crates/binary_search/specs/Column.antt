-- A column of words: those that stand a fixed width apart. A list is a column of width 1.
-- Assumes nothing.
use Rattle.std.specs.Prelude.{List, ℕ, ◌+◌, ◌*◌, ◌≤◌, ◌<◌, get_or}

-- the i-th word of the column that starts at `first`; 0 past the end of the words
unfoldable pub column_at : List ℕ → ℕ → ℕ → ℕ → ℕ
column_at words first width i = get_or words (first + width * i) 0

-- of the first n numbers none is above a later one
unfoldable pub Rising : (ℕ → ℕ) → ℕ → Type 0
Rising f n = (i j : ℕ) → i ≤ j → j < n → f i ≤ f j
