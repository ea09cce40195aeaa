-- Worked figures, by computation: six entries of ids 10 and 11 in weeks 0 and 1, with a missing reading, a 0, and a pair whose only reading is missing.
-- Assumes nothing.
use mathlib.Core.Path.{◌≡◌, refl}
use mathlib.Core.List.{List, [], ◌∷◌}
use Prim.Native.Nat.{ℕ}
use Rattle.laws.specs.Lists.{member, sum_of}
use Rattle.laws.specs.Sort.{insert, sort_of}
use Rattle.weeks.specs.Pairs.{week_of, pair_of, entry_of, missing, once_of, pairs_of, amount, tally, columns_of, as_columns}

abbrev entry : ℕ → ℕ → ℕ → ℕ
entry id day reading = entry_of (pair_of id (week_of day)) reading

-- days 6 and 7 are of two weeks
abbrev some : List ℕ
some = entry 11 0 missing ∷ entry 10 7 90 ∷ entry 10 6 missing ∷ entry 10 0 45 ∷ entry 10 13 0 ∷ entry 10 6 7 ∷ []

-- 10 has 45 + 7 of two readings in week 0 and 90 + 0 of two in week 1; 11 has a pair and no reading
pub worked : columns_of some ≡ as_columns (10 ∷ 10 ∷ 11 ∷ []) (0 ∷ 1 ∷ 0 ∷ []) (52 ∷ 90 ∷ 0 ∷ []) (2 ∷ 2 ∷ 0 ∷ [])
unfolding pairs_of sort_of insert once_of member sum_of amount tally
worked = refl
