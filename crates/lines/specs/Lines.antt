-- The lines of bytes, which are cut after each line feed. A last stretch without a line feed is a line too; no line follows a final line feed.
-- Assumes nothing.
use Rattle.std.specs.Prelude.{cond, List, [], ◌∷◌, ◌++◌, ℕ, ◌+◌, get_or, eqb}

abbrev pub line_feed : ℕ
line_feed = 10

-- a byte in front of the first line; a line of its own where there is none
unfoldable pub join_line : ℕ → List (List ℕ) → List (List ℕ)
join_line b [] = (b ∷ []) ∷ []
join_line b (l ∷ ls) = (b ∷ l) ∷ ls

-- a line feed ends its line; none of no bytes
unfoldable pub lines_of : List ℕ → List (List ℕ)
lines_of [] = []
lines_of (b ∷ s) = let ls = lines_of s in cond (eqb b line_feed) ((b ∷ []) ∷ ls) (join_line b ls)

-- how many bytes the first line has, its line feed included; 0 of no bytes
unfoldable pub line_length : List ℕ → ℕ
line_length [] = 0
line_length (b ∷ s) = let n = line_length s in 1 + cond (eqb b line_feed) 0 n

-- line i, counted from 0; no bytes where there are not so many
abbrev pub nth_line : List ℕ → ℕ → List ℕ
nth_line s i = get_or (lines_of s) i []

-- lines, or any lists, one after the other; nothing of no lists
unfoldable pub joined : {A : Type 0} → List (List A) → List A
joined [] = []
joined (l ∷ ls) = l ++ joined ls
