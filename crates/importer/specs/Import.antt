-- The import of a log: the outcome of each line, the entries of the lines that belong, the refusals of the whole, and what is written where.
-- What a 4C frame is: specs/Frames.antt of `log_frames`; a search: specs/Answers.antt of `search`; the pairs of entries: specs/Pairs.antt of `weeks`.
-- Assumes nothing.
use Rattle.std.specs.Prelude.{Bool, cond, not, ◌&&◌, List, [], ◌∷◌, ◌++◌, map, Result, Ok, Err, ℕ, ◌+◌, min, length, get_or, eqb, leb}
use Rattle.refusals.specs.declared.LineRefusal.{LineRefusal}
use Rattle.refusals.specs.Refusals.{refusal_number}
use Rattle.laws.specs.Cases.{Case, case, first_case}
use Rattle.lines.specs.Lines.{lines_of}
use Rattle.fields.specs.Layouts.{is_frame, fields_in, name_in}
use Rattle.log_frames.specs.Frames.{log_frame}
use Rattle.words.specs.Words.{name_id}
use Rattle.index.specs.Good.{most_names}
use Rattle.search.specs.Answers.{Answer, Found, Refused as SearchRefused, search_of, places_given}
use Rattle.weeks.specs.Pairs.{week_of, pair_of, entry_of, pairs_of, Columns, room_of, columns_of, over, columns_over}
use Rattle.importer.specs.declared.Settings.{Settings}
use Rattle.importer.specs.declared.Outcome.{Outcome}
use Rattle.importer.specs.declared.Outcome.TheVariants.{Belongs, Unresolved, Ambiguous, Refused}
use Rattle.importer.specs.declared.Imported.{Imported as Answered}

-- ---- what every search is made with

abbrev pub settings : ℕ → ℕ → ℕ → ℕ → Settings
settings measure p q allowance = record { measure = measure; p = p; q = q; allowance = allowance }

-- ---- a line

abbrev pub day_in : List ℕ → ℕ
day_in line = get_or (fields_in log_frame line) 0 0

-- in hundredths of a milligram per litre
abbrev pub reading_in : List ℕ → ℕ
reading_in line = get_or (fields_in log_frame line) 1 0

abbrev pub typed_in : List ℕ → List ℕ
typed_in line = name_in log_frame line

-- ---- its outcome

-- each line's search has room for as many rows
abbrev pub row_room : ℕ
row_room = most_names

-- by the answer of its search and the ids of the names listed: the one, none, several; a refused search with its number, whatever is listed
unfoldable pub outcome_from : Answer → List ℕ → Outcome
outcome_from (SearchRefused number touches) ids = Refused number
outcome_from (Found rows touches p q) [] = Unresolved
outcome_from (Found rows touches p q) (id ∷ []) = Belongs id
outcome_from (Found rows touches p q) (id ∷ other ∷ ids) = Ambiguous

module _ (words : List ℕ) (s : Settings) where
  abbrev pub answer_to : List ℕ → Answer
  answer_to name = search_of name s.measure s.p s.q s.allowance words row_room

  abbrev pub listed_for : List ℕ → List ℕ
  listed_for name = map (name_id words) (places_given name s.measure s.p s.q s.allowance words row_room)

  unfoldable pub outcome_of : List ℕ → Outcome
  outcome_of line = outcome_from (answer_to (typed_in line)) (listed_for (typed_in line))

-- an outcome as the two numbers of a 4F frame: its case, and the id after 1, the number after 4, 0 otherwise
abbrev pub case_of : Outcome → ℕ
case_of (Belongs id) = 1
case_of Unresolved = 2
case_of Ambiguous = 3
case_of (Refused number) = 4

abbrev pub value_of : Outcome → ℕ
value_of (Belongs id) = id
value_of Unresolved = 0
value_of Ambiguous = 0
value_of (Refused number) = number

-- ---- the lines that belong

-- the entry of a line that belongs to an id; none of any other
unfoldable pub entry_from : Outcome → ℕ → ℕ → List ℕ
entry_from (Belongs id) day reading = entry_of (pair_of id (week_of day)) reading ∷ []
entry_from Unresolved day reading = []
entry_from Ambiguous day reading = []
entry_from (Refused number) day reading = []

module _ (words : List ℕ) (s : Settings) where
  abbrev pub entry_in : List ℕ → List ℕ
  entry_in line = entry_from (outcome_of words s line) (day_in line) (reading_in line)

  -- of all lines, in their order
  unfoldable pub entries_of : List (List ℕ) → List ℕ
  entries_of [] = []
  entries_of (l ∷ ls) = entry_in l ++ entries_of ls

-- ---- the refusals of the whole

abbrev pub most_lines : ℕ
most_lines = 1024

-- of the line after `count` others, in the order in which they are judged: one line too many, which is not read; no 4C frame
abbrev pub line_cases : ℕ → List ℕ → List Case
line_cases count line = case 10 (leb most_lines count) ∷ case 11 (not (is_frame log_frame line)) ∷ []

unfoldable pub judge_line : ℕ → List ℕ → ℕ
judge_line count line = first_case (line_cases count line)

-- the number of the first line that is refused, and its place, from 1; 0 and 0 where none is
pub record Verdict : Type 0 where
  pub number : ℕ
  pub line : ℕ

unfoldable pub judged_from : ℕ → List (List ℕ) → Verdict
judged_from count [] = record { number = 0; line = 0 }
judged_from count (l ∷ ls) =
    let n = judge_line count l in
    let r = judged_from (count + 1) ls in
    cond (eqb n 0) r (record { number = n; line = count + 1 })

abbrev pub verdict_on : List ℕ → Verdict
verdict_on log = judged_from 0 (lines_of log)

-- ---- the whole

-- outcomes as columns
pub record Outcomes : Type 0 where
  pub cases : List ℕ
  pub values : List ℕ

abbrev pub as_outcomes : List ℕ → List ℕ → Outcomes
as_outcomes cases values = record { cases = cases; values = values }

-- there is room for as many outcomes as the shorter has
abbrev pub outcome_room : Outcomes → ℕ
outcome_room o = min (length o.cases) (length o.values)

abbrev pub outcomes_over : List Outcome → Outcomes → Outcomes
outcomes_over given o = record { cases = over (map case_of given) o.cases; values = over (map value_of given) o.values }

-- what an import answers: its number, the line that it is about, from 1, or 0, and how many outcomes and pairs were written; and what the code answers,
-- so set out
pub record Imported : Type 0 where
  pub number : ℕ
  pub line : ℕ
  pub lines : ℕ
  pub pairs : ℕ

abbrev pub imported_in : Result Answered LineRefusal → Imported
imported_in (Ok x) = record { number = 0; line = 0; lines = x.lines; pairs = x.pairs }
imported_in (Err r) = record { number = refusal_number r.refusal; line = r.line; lines = 0; pairs = 0 }

module _ (log words : List ℕ) (s : Settings) where
  abbrev pub outcomes_in : List Outcome
  outcomes_in = map (outcome_of words s) (lines_of log)

  abbrev pub entries_in : List ℕ
  entries_in = entries_of words s (lines_of log)

  -- whether the lines and the pairs have room
  abbrev pub fits_in : ℕ → ℕ → Bool
  fits_in lines pairs = leb (length (lines_of log)) lines && leb (length (pairs_of entries_in)) pairs

  -- the first line that is refused; then 8, with line 0, where there are more lines or pairs than room
  unfoldable pub imported_of : ℕ → ℕ → Imported
  imported_of lines pairs =
      cond (eqb (verdict_on log).number 0)
      (cond (fits_in lines pairs)
      (record { number = 0; line = 0; lines = length (lines_of log); pairs = length (pairs_of entries_in) })
      (record { number = 8; line = 0; lines = 0; pairs = 0 }))
      (record { number = (verdict_on log).number; line = (verdict_on log).line; lines = 0; pairs = 0 })

  -- what is lent, afterwards: the outcomes and the pairs, and after them what stood there; as it was where the whole is refused
  unfoldable pub outcomes_after : Outcomes → Columns → Outcomes
  outcomes_after o c = cond (eqb (imported_of (outcome_room o) (room_of c)).number 0) (outcomes_over outcomes_in o) o

  unfoldable pub pairs_after : Outcomes → Columns → Columns
  pairs_after o c = cond (eqb (imported_of (outcome_room o) (room_of c)).number 0) (columns_over (columns_of entries_in) c) c
