-- Worked figures of an import: a log of six lines with one of each outcome, a missing reading, a 0 and two weeks; and the lines at which a log is refused.
-- What each search answers is given here: the figures of a search are in `statements`. The same log is run by the program `importer`.
-- Assumes nothing.
use Rattle.std.specs.Prelude.{◌≡◌, List, [], ◌∷◌, ◌++◌, map, ℕ}
use Rattle.search.specs.Answers.{Found, Refused as SearchRefused}
use Rattle.weeks.specs.Pairs.{missing, columns_of, as_columns}
use Rattle.importer.specs.declared.Outcome.{Outcome}
use Rattle.importer.specs.declared.Outcome.TheVariants.{Belongs, Unresolved, Ambiguous, Refused}
use Rattle.importer.specs.Import.{outcome_from, case_of, value_of, entry_from, judged_from}

-- AB on day 0 with 45 is listed alone, under 20; LANE is listed with LANES, under 10 and 11; ZZ not at all; no name at all is refused with 1; then AB on
-- day 6 without a reading and on day 7 with a reading of 0
abbrev pub outcomes : List Outcome
outcomes =
    outcome_from (Found 1 4 1 2) (20 ∷ [])
    ∷ outcome_from (Found 2 10 1 2) (10 ∷ 11 ∷ [])
    ∷ outcome_from (Found 0 0 1 2) []
    ∷ outcome_from (SearchRefused 1 0) []
    ∷ outcome_from (Found 1 4 1 2) (20 ∷ [])
    ∷ outcome_from (Found 1 4 1 2) (20 ∷ [])
    ∷ []

-- their entries, by day and reading
abbrev pub entries : List ℕ
entries =
    entry_from (Belongs 20) 0 45 ++ entry_from Ambiguous 0 1 ++ entry_from Unresolved 0 2 ++ entry_from (Refused 1) 0 3 ++ entry_from (Belongs 20) 6 missing ++ entry_from (Belongs 20) 7 0

-- proved by `figures_right`
abbrev pub FiguresRight : Type 0
FiguresRight = (outcomes ≡ Belongs 20 ∷ Ambiguous ∷ Unresolved ∷ Refused 1 ∷ Belongs 20 ∷ Belongs 20 ∷ [])
    × (map case_of outcomes ≡ 1 ∷ 3 ∷ 2 ∷ 4 ∷ 1 ∷ 1 ∷ [])
    × (map value_of outcomes ≡ 20 ∷ 0 ∷ 0 ∷ 1 ∷ 20 ∷ 20 ∷ [])
    -- 45 in week 0, of one reading; 0 in week 1, of one reading too
    × (columns_of entries ≡ as_columns (20 ∷ 20 ∷ []) (0 ∷ 1 ∷ []) (45 ∷ 0 ∷ []) (1 ∷ 1 ∷ []))
    -- a first line that is no frame, and one after 1,024 others, which is not read
    × (judged_from 0 ([] ∷ []) ≡ record { number = 11; line = 1 })
    × (judged_from 1024 ([] ∷ []) ≡ record { number = 10; line = 1025 })
