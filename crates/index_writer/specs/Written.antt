-- Words after an index was written into them.
-- Assumes nothing.
use Rattle.std.specs.Prelude.{Bool, cond, List, ◌++◌, ℕ, ◌-◌, length, replicate, leb}

-- every bit set: what stands in a word that holds nothing of an index
abbrev pub blank : ℕ
blank = 4294967295

-- whether the words of a list fit so many
abbrev pub fits_in : ℕ → List ℕ → Bool
fits_in room l = leb (length l) room

-- the words of a list, then blanks to the length
abbrev pub pad_to : ℕ → List ℕ → List ℕ
pad_to n l = l ++ replicate (n - length l) blank

-- so many words afterwards: the index and then blanks, or blanks alone where it does not fit
unfoldable pub written_in : ℕ → List ℕ → List ℕ
written_in room index = cond (fits_in room index) (pad_to room index) (replicate room blank)
