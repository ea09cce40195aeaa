-- The places of the answers, as the code finds them in the table of counts by a name's place. Cited by the contracts of the code's parts.
-- Assumes nothing.
use Rattle.std.specs.Prelude.{List, ℕ, get_or, leb}
use Rattle.laws.specs.Below.{passing_below}

-- the places below n whose count is at least 1, in order
unfoldable pub places_in : List ℕ → ℕ → List ℕ
places_in answers n = passing_below n (λ (i : ℕ). leb 1 (get_or answers i 0))
