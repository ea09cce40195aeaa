-- The features of a name: its grams, each with its number among the equal ones.
-- The gram length g and the count w of characters' values are parameters here; `features_of` sets them to three and 256.
-- The layers above use only that a name's features are all different and how many there are (proofs/Laws.antt).
-- Assumes nothing.
use Rattle.std.specs.Prelude.{cond, List, [], ◌++◌, ℕ, zero, suc, ◌+◌, ◌-◌, ◌*◌, length, get_or, replicate, eqb}
use Rattle.laws.specs.Lists.{tabulate}
use Rattle.names.specs.Names.{longest, judge_of}

-- ---- a gram

-- the name with g − 1 zeros before it and g − 1 after it
unfoldable pub padded : ℕ → List ℕ → List ℕ
padded g s = replicate (g - 1) 0 ++ (s ++ replicate (g - 1) 0)

-- the k characters of l from place i on as one number at base w, the first one highest; past the end a character is 0
unfoldable pub packed : ℕ → List ℕ → ℕ → ℕ → ℕ
packed w l i zero = 0
packed w l i (suc k) = packed w l i k * w + get_or l (i + k) 0

-- the gram at place i: g characters in a row
unfoldable pub gram_at : ℕ → ℕ → List ℕ → ℕ → ℕ
gram_at g w s i = packed w (padded g s) i g

-- a name of n characters has this many grams
abbrev pub size_of : ℕ → ℕ → ℕ
size_of g n = n + (g - 1)

-- ---- its number

-- how often v stands among the first k values of f
unfoldable pub times_in : (ℕ → ℕ) → ℕ → ℕ → ℕ
times_in f v zero = 0
times_in f v (suc k) = times_in f v k + cond (eqb (f k) v) 1 0

-- the i-th value's number: 1 for the first of its kind, 2 for the second, ..
unfoldable pub number_at : (ℕ → ℕ) → ℕ → ℕ
number_at f i = times_in f (f i) i + 1

-- ---- a feature

-- a number is below this, so that gram and number can be told from the feature
abbrev pub numbers : ℕ
numbers = 256

-- the i-th of f with its number after it
unfoldable pub numbered : (ℕ → ℕ) → ℕ → ℕ
numbered f i = f i * numbers + number_at f i

-- the features of any string of characters, in order of appearance, by gram length and count of characters' values
unfoldable pub features_by : ℕ → ℕ → List ℕ → List ℕ
features_by g w s = tabulate (numbered (gram_at g w s)) (size_of g (length s))

-- the length of a gram
abbrev pub gram_length : ℕ
gram_length = 3

-- a character is a byte
abbrev pub characters : ℕ
characters = 256

-- the most features that a name has
abbrev pub most_features : ℕ
most_features = size_of gram_length longest

-- the features of a name; none where the name is refused
unfoldable pub features_of : List ℕ → List ℕ
features_of s = cond (eqb (judge_of s) 0) (features_by gram_length characters s) []
