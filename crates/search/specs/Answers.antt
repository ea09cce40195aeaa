-- What a search answers: the order of refusals, the rows, and the number and values of each case.
-- Assumes nothing.
use Rattle.std.specs.Prelude.{◌≡◌, Result, Ok, Err, cond, not, List, [], ◌∷◌, ◌++◌, map, ℕ, min, length, drop, ltb, eqb}
use Rattle.laws.specs.Cases.{Case, case, first_case}
use Rattle.names.specs.Names.{name_cases}
use Rattle.names.specs.Features.{features_of}
use Rattle.likeness.specs.Measures.{good_measure, good_threshold}
use Rattle.likeness.specs.Least.{least_count}
use Rattle.likeness.specs.Terms.{lowest_terms}
use Rattle.words.specs.Words.{name_id, name_size}
use Rattle.index.specs.Good.{good_of}
use Rattle.sizes.specs.Method.{touches_of, shared_with, answers_of}
use Rattle.refusals.specs.declared.Refusal.{Refusal}
use Rattle.refusals.specs.Refusals.{refusal_number}
use Rattle.search.specs.declared.Found.{Found as FoundOut}
use Rattle.search.specs.declared.Refused.{Refused as RefusedOut}

-- ---- an answer, as the number and values that the rule sets out

-- rows, touches and the threshold where it is answered, a number and touches where it is refused
pub data Answer : Type 0 where
  Found : ℕ → ℕ → ℕ → ℕ → Answer
  Refused : ℕ → ℕ → Answer

-- what the code answers, set out
abbrev pub answer_in : Result FoundOut RefusedOut → Answer
answer_in (Ok x) = Found x.rows x.touches x.p x.q
answer_in (Err x) = Refused (refusal_number x.refusal) x.touches

-- what is refused before its work is counted has no touches
abbrev pub before_work : Refusal → RefusedOut
before_work r = record { refusal = r; touches = 0 }

-- 0 where answered
abbrev pub number_in : Answer → ℕ
number_in (Found rows touches p q) = 0
number_in (Refused number touches) = number

-- a refusal reports no rows
abbrev pub rows_in : Answer → ℕ
rows_in (Found rows touches p q) = rows
rows_in (Refused number touches) = 0

abbrev pub touches_in : Answer → ℕ
touches_in (Found rows touches p q) = touches
touches_in (Refused number touches) = touches

-- a refusal reports the threshold as 0/0
abbrev pub threshold_p : Answer → ℕ
threshold_p (Found rows touches p q) = p
threshold_p (Refused number touches) = 0

abbrev pub threshold_q : Answer → ℕ
threshold_q (Found rows touches p q) = q
threshold_q (Refused number touches) = 0

-- ---- what is judged before the search

-- the refusals of a question, in the order in which they are judged: the query's, then the measure, then the threshold
abbrev pub question_cases : List ℕ → ℕ → ℕ → ℕ → List Case
question_cases query m p q = name_cases query ++ (case 4 (not (good_measure m)) ∷ case 5 (not (good_threshold p q)) ∷ [])

-- the number of a question: the first refusal that applies, or 0
unfoldable pub question_of : List ℕ → ℕ → ℕ → ℕ → ℕ
question_of query m p q = first_case (question_cases query m p q)

-- the refusals of a search of any words before its work is counted: the question's, then the index
abbrev pub refusal_cases : List ℕ → ℕ → ℕ → ℕ → List ℕ → List Case
refusal_cases query m p q w = question_cases query m p q ++ (case 6 (not (good_of w)) ∷ [])

unfoldable pub refusal_of : List ℕ → ℕ → ℕ → ℕ → List ℕ → ℕ
refusal_of query m p q w = first_case (refusal_cases query m p q w)

-- ---- the search of a good index: 7 where the touches exceed the allowance, then 8 where the answers exceed the room

module _ (query : List ℕ) (m p q allowance : ℕ) (w : List ℕ) (room : ℕ) where
  unfoldable pub search_good_of : Answer
  search_good_of =
      cond (ltb allowance (touches_of w m p q (features_of query)))
      (Refused 7 allowance)
      (cond (ltb room (length (answers_of w m p q (features_of query))))
      (Refused 8 (touches_of w m p q (features_of query)))
      (Found (length (answers_of w m p q (features_of query))) (touches_of w m p q (features_of query)) (lowest_terms p q).p (lowest_terms p q).q))

  -- the search of any words
  unfoldable pub search_of : Answer
  search_of = cond (eqb (refusal_of query m p q w) 0) search_good_of (Refused (refusal_of query m p q w) 0)

-- ---- the names that are given

-- the places of the names that an answer gives: all answers where it is answered, none where it is refused
unfoldable pub given_by : Answer → List ℕ → List ℕ
given_by (Found rows touches p q) places = places
given_by (Refused number touches) places = []

-- ---- the columns

-- rows as columns: row k is place k of each
pub record Columns : Type 0 where
  pub ids : List ℕ
  pub shared : List ℕ
  pub sizes : List ℕ
  pub least : List ℕ

abbrev pub as_columns : List ℕ → List ℕ → List ℕ → List ℕ → Columns
as_columns ids shared sizes least = record { ids = ids; shared = shared; sizes = sizes; least = least }

-- there is room for as many rows as the shortest has
abbrev pub room_of : Columns → ℕ
room_of c = min (length c.ids) (min (length c.shared) (min (length c.sizes) (length c.least)))

-- how narrowly a name got in: the least count of its size, for the query's features
abbrev pub least_for : List ℕ → ℕ → ℕ → ℕ → List ℕ → ℕ → ℕ
least_for w m p q query i = least_count m p q (length query) (name_size w i)

-- the rows of the names at some places: of the words, the measure and the threshold, the query's features and the places among the names
abbrev pub columns_of : List ℕ → ℕ → ℕ → ℕ → List ℕ → List ℕ → Columns
columns_of w m p q query places =
    record {
      ids = map (name_id w) places;
      shared = map (shared_with w query) places;
      sizes = map (name_size w) places;
      least = map (least_for w m p q query) places;
    }

-- a lent column afterwards: what is given, and after it what stood there
abbrev pub over : List ℕ → List ℕ → List ℕ
over l s = l ++ drop (length l) s

abbrev pub columns_over : Columns → Columns → Columns
columns_over given c =
    record {
      ids = over given.ids c.ids;
      shared = over given.shared c.shared;
      sizes = over given.sizes c.sizes;
      least = over given.least c.least;
    }

-- ---- a search of any words, whole

module _ (query : List ℕ) (m p q allowance : ℕ) (w : List ℕ) where
  -- the places of the names that it gives
  abbrev pub places_given : ℕ → List ℕ
  places_given room = given_by (search_of query m p q allowance w room) (answers_of w m p q (features_of query))

  -- what it leaves in columns that are lent to it
  abbrev pub columns_after : Columns → Columns
  columns_after c = columns_over (columns_of w m p q (features_of query) (places_given (room_of c))) c

  -- what it answers, and what it leaves
  pub record Searched (before after : Columns) (r : Answer) : Type 0 where
    pub answer : r ≡ search_of query m p q allowance w (room_of before)
    pub columns : after ≡ columns_after before
