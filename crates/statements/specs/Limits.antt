-- Longer names: a good index under the limits that stood when a name had at most 64 bytes, and under those of names of 200. `good_within` (specs/Good.antt
-- of `index`) is what a good index is, by its largest size and its most postings; nothing else of it has changed. Proved in proofs/Limits.antt.
-- Assumes nothing.
use Rattle.std.specs.Prelude.{◌≡◌, true, false, not, List, [], ◌∷◌, ◌++◌, ℕ, ◌≤◌, ◌<◌, length, ltb}
use Rattle.laws.specs.Cases.{Case, case, first_case}
use Rattle.words.specs.Words.{name_count, posting_count, name_size}
use Rattle.index.specs.Good.{good_of, Good, good_within, Inside}
use Rattle.search.specs.Answers.{question_cases}

-- ---- the limits of before

-- a name of 64 bytes has 66 features
abbrev pub former_largest : ℕ
former_largest = 66

-- and 256 such names have so many postings
abbrev pub former_most : ℕ
former_most = 16896

-- a good index, as a lookup of before judges it: what it refuses, it refuses with 6
abbrev pub GoodBefore : List ℕ → Type 0
GoodBefore w = good_within former_largest former_most w ≡ true

abbrev pub RefusedBefore : List ℕ → Type 0
RefusedBefore w = good_within former_largest former_most w ≡ false

-- the most bytes that a name had then
abbrev pub former_longest : ℕ
former_longest = 64

-- what a lookup of before refuses of a question: a query of more than 64 bytes, and what is refused now. That its 2 stands first here changes no number:
-- where it applies, neither an empty query nor a 2 of now comes before it
abbrev pub question_before : List ℕ → ℕ → ℕ → ℕ → List Case
question_before query m p q = case 2 (ltb former_longest (length query)) ∷ question_cases query m p q

-- and then of the words
abbrev pub index_before : List ℕ → List Case
index_before w = case 6 (not (good_within former_largest former_most w)) ∷ []

-- the number that its search gives before the work is counted; 0 where it goes on
abbrev pub number_before : List ℕ → ℕ → ℕ → ℕ → List ℕ → ℕ
number_before query m p q w = first_case (question_before query m p q ++ index_before w)

-- it refuses the words with 6, whatever is asked that it does not refuse for itself
abbrev pub SixBefore : List ℕ → Type 0
SixBefore w = (query : List ℕ) (m p q : ℕ) → first_case (question_before query m p q) ≡ 0 → number_before query m p q w ≡ 6

-- it refuses nothing but the question
abbrev pub SearchedBefore : List ℕ → Type 0
SearchedBefore w = (query : List ℕ) (m p q : ℕ) → number_before query m p q w ≡ first_case (question_before query m p q)

-- ---- the limits of before and of now

pub record Limits (w : List ℕ) : Type 0 where
  -- a good index is one under the limits of now: sizes to 202, and 51,712 postings
  pub now : good_of w ≡ good_within 202 51712 w
  -- an index that was good stays good
  pub stays : GoodBefore w → Good w
  -- one that holds a larger size is refused by a lookup of before, and so is one with more postings
  pub larger_size : (i : ℕ) → i < name_count w → former_largest < name_size w i → RefusedBefore w
  pub more_postings : former_most < posting_count w → RefusedBefore w
  -- of the good indexes of now it refuses no other
  pub no_other : Good w → Inside former_largest former_most w → GoodBefore w
  -- the number with which it refuses those is 6, and of the others it refuses nothing but the question
  pub larger_six : (i : ℕ) → i < name_count w → former_largest < name_size w i → SixBefore w
  pub postings_six : former_most < posting_count w → SixBefore w
  pub searched : Good w → Inside former_largest former_most w → SearchedBefore w
  -- and of any limits, larger ones let pass what smaller ones do
  pub wider : (largest most largest' most' : ℕ) → largest ≤ largest' → most ≤ most' → good_within largest most w ≡ true
      → good_within largest' most' w ≡ true

-- proved by `longer`
abbrev pub Longer : Type 0
Longer = (w : List ℕ) → Limits w
