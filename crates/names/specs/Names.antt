-- What a name is, and the number that judges one. Every layer that meets a name or a query asks `judge_of`, or puts `name_cases` among its own cases.
-- Assumes nothing.
use Rattle.std.specs.Prelude.{Bool, ◌||◌, List, [], ◌∷◌, ℕ, length, get_or, eqb, ltb}
use Rattle.laws.specs.Lists.{member}
use Rattle.laws.specs.Below.{any_below}
use Rattle.laws.specs.Cases.{Case, case, first_case}

-- the most bytes that a name has
abbrev pub longest : ℕ
longest = 200

-- a control character: a byte below 32, such as a tab, or the delete code 127
abbrev pub is_control : ℕ → Bool
is_control b = ltb b 32 || eqb b 127

-- whether one stands anywhere in the name
unfoldable pub has_control : List ℕ → Bool
has_control s = any_below (length s) (λ (i : ℕ). is_control (get_or s i 0))

-- the refusals of a name, in the order in which they are judged: no byte at all, more than the longest, a 0 byte anywhere, any other control character
abbrev pub name_cases : List ℕ → List Case
name_cases s = case 1 (eqb (length s) 0) ∷ case 2 (ltb longest (length s)) ∷ case 3 (member 0 s) ∷ case 12 (has_control s) ∷ []

-- the number of a name: the first refusal that applies, or 0 for a good name
unfoldable pub judge_of : List ℕ → ℕ
judge_of s = first_case (name_cases s)
