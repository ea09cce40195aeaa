-- The demands on a search, in full: what a reader has to believe, and nothing of how it is shown. What each demand assumes stands here too:
-- `Searches`, `Fractions`, `SameFrames`, `Beyond`, `Listings`, `Builds`, `EndToEnd` and `Frames` are types with nothing left open, and each is proved
-- as it stands by a theorem of proofs/.
-- The functions `search` and `search_rows` answer `answer` and leave `after`, for every input, by their contracts; the first is lent `columns`,
-- the second `records`, and all that is said of a search is said of both.
-- A list of bytes is a list of numbers below 256; every lent slice of bytes is one.
-- Assumes nothing.
use Rattle.std.specs.Prelude.{◌≡◌, ◌↔◌, Ok, Bool, true, false, cond, List, [], ◌∷◌, ◌++◌, map, ℕ, ◌+◌, ◌-◌, ◌*◌, ◌≤◌, ◌<◌, length, get_or, take, drop, replicate, eqb, ltb}
use Rattle.laws.specs.Lists.{member, Ascending, count_of, sum_of}
use Rattle.laws.specs.Filter.{filter_of}
use Rattle.laws.specs.Cases.{Case, case, first_case}
use Rattle.names.specs.Features.{features_of}
use Rattle.names.specs.Shared.{shared_of}
use Rattle.likeness.specs.Measures.{measure_of}
use Rattle.likeness.specs.Sizes.{is_searched}
use Rattle.likeness.specs.Least.{least_count}
use Rattle.likeness.specs.Fractions.{FractionLe, numerator, denominator, raised}
use Rattle.likeness.specs.Terms.{lowest_terms}
use Rattle.words.specs.Words.{name_count, name_id, name_size, total}
use Rattle.index.specs.Good.{Good, most_postings}
use Rattle.index_writer.specs.Built.{words_of}
use Rattle.lists.specs.Lists.{list_in, features_in}
use Rattle.hex_digits.specs.Lines.{Bytes}
use Rattle.fields.specs.Layouts.{is_frame, name_in, line_of, read_of, buffer_of, longest_name}
use Rattle.frames.specs.declared.Name.{Name}
use Rattle.frames.specs.declared.Query.{Query}
use Rattle.frames.specs.Frames.{name_frame, query_frame, row_frame, end_frame, refusal_frame, layouts, name_out, query_out, row_out, end_out, refusal_out, a_name, a_query, a_row, an_end, a_refusal}
use Rattle.lines.specs.Lines.{lines_of, nth_line}
use Rattle.register.specs.Build.{id_in, name_of, entry_of, judge_nth, most_words, built_of, words_after}
use Rattle.candidates.specs.Method.{signatures, signature_postings}
use Rattle.sizes.specs.Method.{names_of, lists_for, remaining, touches_of_size, touches_of, answers_of}
use Rattle.search.specs.Answers.{number_in, rows_in, touches_in, threshold_p, threshold_q, refusal_cases, search_of, given_by, Columns, room_of, columns_of, columns_over}
use Rattle.search.specs.Answers.{Answer}
use Rattle.search.specs.Answers.{Refused}
use Rattle.rows.specs.Rows.{records_of, over_rows, columns_in, row_across}
use Rattle.rows.specs.declared.Row.{Row as Record}
use Rattle.answers.specs.Output.{answer_of}

-- ---- rows that are lent

-- a way to lend rows; A is what is lent
pub record Lending (A : Type 0) : Type 0 where
  -- how many rows there is room for
  pub room : A → ℕ
  -- the rows that stand there, as columns
  pub rows : A → Columns
  -- what stands after the first n rows
  pub behind : ℕ → A → A
  -- what stands there once the rows of some names are written: of the words, the measure and the threshold, the query's features and the names' places
  -- among the names
  pub written : List ℕ → ℕ → ℕ → ℕ → List ℕ → List ℕ → A → A

-- columns, as they are lent to `search`
abbrev pub columns : Lending Columns
columns =
    record {
      room = room_of;
      rows = λ (c : Columns). c;
      behind = λ (n : ℕ) (c : Columns). record { ids = drop n c.ids; shared = drop n c.shared; sizes = drop n c.sizes; least = drop n c.least };
      written = λ (w : List ℕ) (m p q : ℕ) (query places : List ℕ) (c : Columns). columns_over (columns_of w m p q query places) c;
    }

-- a list of records, as it is lent to `search_rows`, has room for as many rows as it has records
abbrev pub records : Lending (List Record)
records =
    record {
      room = λ (l : List Record). length l;
      rows = columns_in;
      behind = λ (n : ℕ) (l : List Record). drop n l;
      written = λ (w : List ℕ) (m p q : ℕ) (query places : List ℕ) (l : List Record). over_rows (records_of w m p q query places) l;
    }

-- ---- a search

-- everything that a search is given
pub record Question (A : Type 0) : Type 0 where
  pub query : List ℕ
  pub measure : ℕ
  pub p : ℕ
  pub q : ℕ
  pub allowance : ℕ
  pub words : List ℕ
  pub lent : A

-- a statement of every question, with columns and with records
abbrev pub Every : ((A : Type 0) → Lending A → Question A → Type 0) → Type 0
Every P = ((a : Question Columns) → P Columns columns a) × ((a : Question (List Record)) → P (List Record) records a)

-- the answer
abbrev pub answer : {A : Type 0} → Lending A → Question A → Answer
answer s a = search_of a.query a.measure a.p a.q a.allowance a.words (s.room a.lent)

-- its number; 0 where it is answered
abbrev pub number : {A : Type 0} → Lending A → Question A → ℕ
number s a = number_in (answer s a)

-- the steps of the method on these words, counted
abbrev pub steps : {A : Type 0} → Question A → ℕ
steps a = touches_of a.words a.measure a.p a.q (features_of a.query)

-- the places among the names of those that the method lists
abbrev pub found : {A : Type 0} → Question A → List ℕ
found a = answers_of a.words a.measure a.p a.q (features_of a.query)

-- what is lent, afterwards
abbrev pub after : {A : Type 0} → Lending A → Question A → A
after s a = s.written a.words a.measure a.p a.q (features_of a.query) (given_by (answer s a) (found a)) a.lent

-- ---- demand 1: a list or a numbered refusal

-- the refusals, in the order in which they are judged: first those that are judged before the work is counted. They are the query's (1, 2, 3, 12: specs/Names.antt
-- of `names`), the measure's and the threshold's (4, 5) and the index's (6: specs/Answers.antt of `search`)
abbrev pub before_work : {A : Type 0} → Question A → List Case
before_work a = refusal_cases a.query a.measure a.p a.q a.words

-- then those that the count and the list decide
abbrev pub after_work : {A : Type 0} → Lending A → Question A → List Case
after_work s a =
    case 7 (ltb a.allowance (steps a))
    ∷ case 8 (ltb (s.room a.lent) (length (found a)))
    ∷ []

abbrev pub refusals : {A : Type 0} → Lending A → Question A → List Case
refusals s a = before_work a ++ after_work s a

-- the question is answered: no refusal applies
abbrev pub Answered : {A : Type 0} → Lending A → Question A → Type 0
Answered s a = first_case (refusals s a) ≡ 0

-- the work of the question is counted: no refusal applies that is judged before that
abbrev pub Counted : {A : Type 0} → Question A → Type 0
Counted a = first_case (before_work a) ≡ 0

-- the question is refused before its work is counted
abbrev pub RefusedBefore : {A : Type 0} → Lending A → Question A → Type 0
RefusedBefore s a = (number s a ≡ first_case (before_work a)) × (number s a ≡ 0 → ⊥)

-- the touches that go with a number: with an answer and with 8 all steps, with 7 the allowance, with any other none
abbrev pub touches_with : {A : Type 0} → Question A → ℕ → ℕ
touches_with a n = cond (eqb n 0) (steps a) (cond (eqb n 8) (steps a) (cond (eqb n 7) a.allowance 0))

pub record Demand1 {A : Type 0} (s : Lending A) (a : Question A) : Type 0 where
  -- every question has its number, and it is the first that the table has for it
  pub judged : number s a ≡ first_case (refusals s a)
  -- the touches that are reported are those that go with it
  pub touched : touches_in (answer s a) ≡ touches_with a (number s a)
  -- no refusal has the number 0
  pub numbered : (touches : ℕ) → answer s a ≡ Refused 0 touches → ⊥
  -- the rows that are reported are as many as the names that are given, and within the room
  pub given : rows_in (answer s a) ≡ length (given_by (answer s a) (found a))
  pub within : rows_in (answer s a) ≤ s.room a.lent
  -- a refusal reports no rows, and the threshold as 0/0
  pub nothing : (number s a ≡ 0 → ⊥) → (rows_in (answer s a) ≡ 0) × (threshold_p (answer s a) ≡ 0) × (threshold_q (answer s a) ≡ 0)
  -- and writes none: all that is lent is what it was
  pub kept : (number s a ≡ 0 → ⊥) → after s a ≡ a.lent

-- ---- demand 2: listed exactly if similar

-- how many of the query's features the name at place i stands for
abbrev pub shared_by : {A : Type 0} → Question A → ℕ → ℕ
shared_by a i = shared_of (features_of a.query) (features_in a.words (name_id a.words i))

-- the similarity of sizes x and y with c shared features reaches the threshold, as exact fractions; the cosine by squares
abbrev pub Reaches : {A : Type 0} → Question A → ℕ → ℕ → ℕ → Type 0
Reaches a x y c =
    FractionLe
    (raised (measure_of a.measure) a.p)
    (raised (measure_of a.measure) a.q)
    (numerator (measure_of a.measure) c)
    (denominator (measure_of a.measure) x y c)

-- the least count at size y: the first count from 1 that is similar there
abbrev pub least_at : {A : Type 0} → Question A → ℕ → ℕ
least_at a y = least_count a.measure a.p a.q (length (features_of a.query)) y

-- row j of some columns is a name's: its id, its true shared count and size, and the least count at that size
abbrev pub TrueRow : {A : Type 0} → Question A → Columns → ℕ → Type 0
TrueRow a c j =
    (i : ℕ)
    × (i < name_count a.words)
    × (get_or c.ids j 0 ≡ name_id a.words i)
    × (get_or c.shared j 0 ≡ shared_by a i)
    × (get_or c.sizes j 0 ≡ name_size a.words i)
    × (get_or c.least j 0 ≡ least_at a (name_size a.words i))

-- row j of what is left
abbrev pub row_at : {A : Type 0} → Lending A → Question A → ℕ → Record
row_at s a j = row_across (s.rows (after s a)) j

-- the ids of the rows
abbrev pub row_ids : {A : Type 0} → Lending A → Question A → List ℕ
row_ids s a = take (rows_in (answer s a)) (s.rows (after s a)).ids

pub record Demand2 {A : Type 0} (s : Lending A) (a : Question A) : Type 0 where
  -- a name of the index is listed exactly if its similarity reaches the threshold
  pub exactly : (i : ℕ) → i < name_count a.words
      → (member (name_id a.words i) (row_ids s a) ≡ true)
      ↔ Reaches a (length (features_of a.query)) (name_size a.words i) (shared_by a i)
  -- each row is a name's, with its true shared count and size, and the least count at that size
  pub true_rows : (j : ℕ) → j < rows_in (answer s a) → TrueRow a (s.rows (after s a)) j
  -- so a row's least count is that of the query's size and the row's size
  pub least : (j : ℕ) → j < rows_in (answer s a) → (row_at s a j).least ≡ least_at a (row_at s a j).size
  -- it is at least 1, and at most the row's shared count
  pub reached : (j : ℕ) → j < rows_in (answer s a) → (1 ≤ (row_at s a j).least) × ((row_at s a j).least ≤ (row_at s a j).shared)
  -- rows of one size have one least count
  pub same_size : (j k : ℕ) → j < rows_in (answer s a) → k < rows_in (answer s a) → (row_at s a j).size ≡ (row_at s a k).size
      → (row_at s a j).least ≡ (row_at s a k).least
  -- two programs agree on a row: a true row of any other columns with the same id has the same shared count, size and least count
  pub agreed : (c : Columns) (k : ℕ) → TrueRow a c k → (j : ℕ) → j < rows_in (answer s a) → get_or c.ids k 0 ≡ (row_at s a j).id
      → row_across c k ≡ row_at s a j
  -- by ascending id, and so once each
  pub ascending : Ascending (row_ids s a)
  -- as many as the answer says, and within the room
  pub rows : length (row_ids s a) ≡ rows_in (answer s a)
  pub fits : rows_in (answer s a) ≤ s.room a.lent
  -- what is lent beyond the rows is as it was
  pub beyond : s.behind (rows_in (answer s a)) (after s a) ≡ s.behind (rows_in (answer s a)) a.lent
  -- the threshold is reported in lowest terms
  pub lowest : (threshold_p (answer s a) ≡ (lowest_terms a.p a.q).p) × (threshold_q (answer s a) ≡ (lowest_terms a.p a.q).q)

-- ---- demand 3: the work

-- the same question with another allowance
abbrev pub with_allowance : {A : Type 0} → ℕ → Question A → Question A
with_allowance n a =
    record {
      query = a.query;
      measure = a.measure;
      p = a.p;
      q = a.q;
      allowance = n;
      words = a.words;
      lent = a.lent;
    }

-- at size y the lists of the query's features in their order, the signature postings S and the candidates C
abbrev pub lists_at : {A : Type 0} → Question A → ℕ → List (List ℕ)
lists_at a y = lists_for a.words y (features_of a.query)

abbrev pub postings_at : {A : Type 0} → Question A → ℕ → ℕ
postings_at a y = signature_postings (lists_at a y) (least_at a y)

abbrev pub candidates_at : {A : Type 0} → Question A → ℕ → ℕ
candidates_at a y = remaining a.words y (lists_at a y) (least_at a y) 0

pub record Demand3 {A : Type 0} (s : Lending A) (a : Question A) : Type 0 where
  -- 7 comes exactly when the allowance is below the count of the method's steps
  pub seven : (number s a ≡ 7) ↔ (a.allowance < steps a)
  -- an answer reports that count
  pub counted : number s a ≡ 0 → touches_in (answer s a) ≡ steps a
  -- a larger allowance never alters an answer or a list
  pub larger : (n : ℕ) → a.allowance ≤ n → number s a ≡ 0
      → (answer s (with_allowance n a) ≡ answer s a) × (after s (with_allowance n a) ≡ after s a)
  -- a searched size costs at most S + C·(t − 1), which is at most x times the names of that size; any other costs nothing
  pub a_size : (y : ℕ) → 0 < y → is_searched a.measure a.p a.q (length (features_of a.query)) y ≡ true
      → (touches_of_size a.words a.measure a.p a.q (features_of a.query) y
      ≤ postings_at a y + candidates_at a y * (least_at a y - 1))
      × (postings_at a y + candidates_at a y * (least_at a y - 1) ≤ length (features_of a.query) * names_of a.words y)
  pub no_size : (y : ℕ) → is_searched a.measure a.p a.q (length (features_of a.query)) y ≡ false
      → touches_of_size a.words a.measure a.p a.q (features_of a.query) y ≡ 0
  -- all sizes together at most x times the names, and at most 51,712
  pub in_all : steps a ≤ length (features_of a.query) * name_count a.words
  pub most : steps a ≤ most_postings
  -- S is the smallest total of any x − t + 1 of the query's features
  pub smallest : (y : ℕ) (chosen : ℕ → Bool)
      → count_of chosen (features_of a.query) ≡ signatures (length (features_of a.query)) (least_at a y)
      → postings_at a y ≤ sum_of (map (λ (f : ℕ). length (list_in a.words y f)) (filter_of chosen (features_of a.query)))

-- ---- the three together

pub record Demands (A : Type 0) (s : Lending A) (a : Question A) : Type 0 where
  -- of every question
  pub one : Demand1 s a
  -- of an answered one, whose query is bytes
  pub two : Bytes a.query → Answered s a → Demand2 s a
  -- of one whose work is counted, whose query is bytes
  pub three : Bytes a.query → Counted a → Demand3 s a

-- proved by `searches`
abbrev pub Searches : Type 0
Searches = Every Demands

-- ---- equal fractions

-- the same question with another threshold
abbrev pub with_threshold : {A : Type 0} → ℕ → ℕ → Question A → Question A
with_threshold p q a =
    record {
      query = a.query;
      measure = a.measure;
      p = p;
      q = q;
      allowance = a.allowance;
      words = a.words;
      lent = a.lent;
    }

-- a threshold that is not refused
abbrev pub GoodThreshold : ℕ → ℕ → Type 0
GoodThreshold p q = (1 ≤ p) × (p ≤ q) × (q ≤ 1000)

-- two good thresholds that are one fraction give one answer and one list
abbrev pub SameFraction : (A : Type 0) → Lending A → Question A → Type 0
SameFraction A s a = (p q : ℕ) → GoodThreshold a.p a.q → GoodThreshold p q → a.p * q ≡ p * a.q
    → (answer s (with_threshold p q a) ≡ answer s a) × (after s (with_threshold p q a) ≡ after s a)

-- proved by `fractions`
abbrev pub Fractions : Type 0
Fractions = Every SameFraction

-- and one answer in frames: two 51 lines that differ in the threshold alone, and there not in the fraction, are answered with the same lines,
-- from any words. Proved by `same_frames`
abbrev pub SameFrames : Type 0
SameFrames = (words query : List ℕ) (measure p q p' q' allowance : ℕ) → Bytes query → length query ≤ longest_name → measure < 256 → allowance < 4294967296
    → GoodThreshold p q → GoodThreshold p' q' → p * q' ≡ p' * q
    → answer_of words (line_of query_frame (measure ∷ p ∷ q ∷ allowance ∷ []) query)
    ≡ answer_of words (line_of query_frame (measure ∷ p' ∷ q' ∷ allowance ∷ []) query)

-- ---- words beyond the total

-- the same question, asked of other words
abbrev pub with_words : {A : Type 0} → List ℕ → Question A → Question A
with_words words a =
    record {
      query = a.query;
      measure = a.measure;
      p = a.p;
      q = a.q;
      allowance = a.allowance;
      words = words;
      lent = a.lent;
    }

-- words that agree on the first 3 + N + 4D + P give one answer and one list, whatever stands beyond those
abbrev pub SameWords : (A : Type 0) → Lending A → Question A → Type 0
SameWords A s a = (other : List ℕ) → total a.words ≤ length other → take (total a.words) a.words ≡ take (total a.words) other
    → (answer s (with_words other a) ≡ answer s a) × (after s (with_words other a) ≡ after s a)

-- proved by `beyond`
abbrev pub Beyond : Type 0
Beyond = Every SameWords

-- ---- names, and an index that holds them

-- names as one who asks may know them: how many there are, and of each, counted from 0, its id and its features
pub record Names : Type 0 where
  pub count : ℕ
  pub id : ℕ → ℕ
  pub features : ℕ → List ℕ

-- the words hold these names: one for each, in order, with its id, its size, and just its features
pub record Holds (words : List ℕ) (names : Names) : Type 0 where
  pub count : name_count words ≡ names.count
  pub id : (i : ℕ) → i < names.count → name_id words i ≡ names.id i
  pub size : (i : ℕ) → i < names.count → name_size words i ≡ length (names.features i)
  pub features : (i f : ℕ) → i < names.count → member f (features_in words (names.id i)) ≡ member f (names.features i)

-- how many of the query's features name i has
abbrev pub shared_with_name : {A : Type 0} → Names → Question A → ℕ → ℕ
shared_with_name names a i = shared_of (features_of a.query) (names.features i)

-- listed are exactly those of the names that are similar by their features, each with its true shared count and size and the least count at that size,
-- by ascending id
pub record Listing {A : Type 0} (s : Lending A) (names : Names) (a : Question A) : Type 0 where
  pub exactly : (i : ℕ) → i < names.count
      → (member (names.id i) (row_ids s a) ≡ true)
      ↔ Reaches a (length (features_of a.query)) (length (names.features i)) (shared_with_name names a i)
  pub true_rows : (j : ℕ) → j < rows_in (answer s a)
      → (i : ℕ)
      × (i < names.count)
      × (get_or (s.rows (after s a)).ids j 0 ≡ names.id i)
      × (get_or (s.rows (after s a)).shared j 0 ≡ shared_with_name names a i)
      × (get_or (s.rows (after s a)).sizes j 0 ≡ length (names.features i))
      × (get_or (s.rows (after s a)).least j 0 ≡ least_at a (length (names.features i)))
  pub ascending : Ascending (row_ids s a)
  -- names with the same features, as equal names under two ids have them, are listed both or neither
  pub twins : (i j : ℕ) → i < names.count → j < names.count → names.features i ≡ names.features j
      → (member (names.id i) (row_ids s a) ≡ true)
      ↔ (member (names.id j) (row_ids s a) ≡ true)

-- so of every answered search of words that hold the names: proved by `listings`
abbrev pub Listings : Type 0
Listings = (names : Names) → Every (λ A s a. Holds a.words names → Bytes a.query → Answered s a → Listing s names a)

-- ---- a build

-- an accepted build
abbrev pub Accepted : List ℕ → List ℕ → Type 0
Accepted register words = (built_of register (length words)).number ≡ 0

-- the same question, asked of the words that a build leaves
abbrev pub of_built : {A : Type 0} → List ℕ → List ℕ → Question A → Question A
of_built register words a = with_words (words_after register words) a

-- the names of a register's lines, by their own features
abbrev pub of_register : List ℕ → Names
of_register register =
    record {
      count = length (lines_of register);
      id = λ (i : ℕ). id_in (nth_line register i);
      features = λ (i : ℕ). features_of (name_of (nth_line register i));
    }

-- line i of the register, from 0, is judged after the lines before it: 11, 1, 2, 3, 12, 9, 10 in that order, or 0
pub record Building (register words : List ℕ) : Type 0 where
  -- the first bad line decides: its number, and its place counted from 1
  pub bad_line : (i : ℕ) → i < length (lines_of register) → ((j : ℕ) → j < i → judge_nth register j ≡ 0) → (judge_nth register i ≡ 0 → ⊥)
      → built_of register (length words) ≡ record { number = judge_nth register i; line = i + 1 }
  -- without one it is 8 and line 0 where the index does not fit, and otherwise 0 and 0
  pub no_room : ((j : ℕ) → j < length (lines_of register) → judge_nth register j ≡ 0) → length words < length (words_of (map entry_of (lines_of register)))
      → built_of register (length words) ≡ record { number = 8; line = 0 }
  pub room : ((j : ℕ) → j < length (lines_of register) → judge_nth register j ≡ 0) → length (words_of (map entry_of (lines_of register))) ≤ length words
      → built_of register (length words) ≡ record { number = 0; line = 0 }
  -- so many words are room for every register
  pub enough : most_words ≤ length words → (built_of register (length words)).number ≡ 8 → ⊥
  -- accepted words are a good index, and hold the names of the lines
  pub good : Accepted register words → Good (words_after register words)
  pub holds : Accepted register words → Holds (words_after register words) (of_register register)
  -- a refused build sets every word, and every search of those words is refused before its work is counted
  pub every_word : (Accepted register words → ⊥) → words_after register words ≡ replicate (length words) 4294967295
  pub refused : (Accepted register words → ⊥) → Every (λ A s a. RefusedBefore s (of_built register words a))

-- proved by `builds`
abbrev pub Builds : Type 0
Builds = (register words : List ℕ) → Building register words

-- ---- end to end

-- so of every answered search of an accepted register's index, and of the names of its lines: proved by `end_to_end`
abbrev pub EndToEnd : Type 0
EndToEnd = (register words : List ℕ)
    → Every (λ A s a. Bytes a.query → Accepted register words → Answered s (of_built register words a) → Listing s (of_register register) (of_built register words a))

-- ---- the frames

-- what is written reads back, and a good line that was read is written again: proved by `frames`
pub record Frames : Type 0 where
  pub name_back : (id : ℕ) (name : List ℕ) (room : ℕ) → id < 65536 → Bytes name → length name ≤ longest_name → length name ≤ room
      → read_of name_frame (line_of name_frame (id ∷ []) name) room ≡ name_out (a_name id (length name))
  pub query_back : (measure p q allowance : ℕ) (query : List ℕ) (room : ℕ) → measure < 256 → p < 65536 → q < 65536 → allowance < 4294967296
      → Bytes query → length query ≤ longest_name → length query ≤ room
      → read_of query_frame (line_of query_frame (measure ∷ p ∷ q ∷ allowance ∷ []) query) room
      ≡ query_out (a_query measure p q allowance (length query))
  -- and the lent buffer starts with the name or the query; what stood after that is kept
  pub name_buffer : (id : ℕ) (name buffer : List ℕ) → id < 65536 → Bytes name → length name ≤ longest_name → length name ≤ length buffer
      → buffer_of name_frame (line_of name_frame (id ∷ []) name) buffer ≡ name ++ drop (length name) buffer
  pub query_buffer : (measure p q allowance : ℕ) (query buffer : List ℕ) → measure < 256 → p < 65536 → q < 65536 → allowance < 4294967296
      → Bytes query → length query ≤ longest_name → length query ≤ length buffer
      → buffer_of query_frame (line_of query_frame (measure ∷ p ∷ q ∷ allowance ∷ []) query) buffer ≡ query ++ drop (length query) buffer
  pub row_back : (id shared size least : ℕ) → id < 65536 → shared < 256 → size < 256 → least < 256
      → read_of row_frame (line_of row_frame (id ∷ shared ∷ size ∷ least ∷ []) []) 0 ≡ row_out (a_row id shared size least)
  pub end_back : (rows touches p q : ℕ) → rows < 65536 → touches < 4294967296 → p < 65536 → q < 65536
      → read_of end_frame (line_of end_frame (rows ∷ touches ∷ p ∷ q ∷ []) []) 0 ≡ end_out (an_end rows touches p q)
  pub refusal_back : (number touches : ℕ) → number < 256 → touches < 4294967296
      → read_of refusal_frame (line_of refusal_frame (number ∷ touches ∷ []) []) 0 ≡ refusal_out (a_refusal number touches)
  pub name_again : (l : List ℕ) (room : ℕ) (r : Name) → name_out (Ok r) ≡ read_of name_frame l room
      → line_of name_frame (r.id ∷ []) (name_in name_frame l) ≡ l
  pub query_again : (l : List ℕ) (room : ℕ) (r : Query) → query_out (Ok r) ≡ read_of query_frame l room
      → line_of query_frame (r.measure ∷ r.p ∷ r.q ∷ r.allowance ∷ []) (name_in query_frame l) ≡ l
  pub row_again : (l : List ℕ) (id shared size least : ℕ) → row_out (a_row id shared size least) ≡ read_of row_frame l 0
      → line_of row_frame (id ∷ shared ∷ size ∷ least ∷ []) [] ≡ l
  pub end_again : (l : List ℕ) (rows touches p q : ℕ) → end_out (an_end rows touches p q) ≡ read_of end_frame l 0
      → line_of end_frame (rows ∷ touches ∷ p ∷ q ∷ []) [] ≡ l
  pub refusal_again : (l : List ℕ) (number touches : ℕ) → refusal_out (a_refusal number touches) ≡ read_of refusal_frame l 0
      → line_of refusal_frame (number ∷ touches ∷ []) [] ≡ l
  -- no line is a frame of two kinds
  pub one_kind : (l : List ℕ) (i j : ℕ) → i < 5 → j < 5 → is_frame (get_or layouts i row_frame) l ≡ true → is_frame (get_or layouts j row_frame) l ≡ true → i ≡ j
