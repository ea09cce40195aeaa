-- Many queries at once: where each lies among the bytes, what it is answered, how far a call comes, and what it leaves in every column.
-- What one search answers, and which names it gives, is in the crate `search`, specs/Answers.antt. Assumes nothing.
use Rattle.std.specs.Prelude.{◌≡◌, Bool, cond, ◌&&◌, List, [], ◌∷◌, ◌++◌, ℕ, zero, suc, ◌+◌, ◌-◌, min, length, get_or, take, drop, leb, ltb, eqb}
use Rattle.laws.specs.Lists.{tabulate}
use Rattle.laws.specs.Below.{sum_below}
use Rattle.laws.specs.First.{first_from}
use Rattle.names.specs.Features.{features_of}
use Rattle.index.specs.Good.{most_names}
use Rattle.sizes.specs.Method.{answers_of}
use Rattle.search.specs.Answers.{Answer, Refused, number_in, rows_in, touches_in, search_of, given_by, Columns, room_of, columns_of, over, columns_over}
use Rattle.refusals.specs.Refusals.{outcome_number}
use Rattle.queries.specs.declared.Come.{Come as ComeOut}

-- ---- what a call answers, as the numbers that the rule sets out

-- 0 where every query has its outcome and 8 otherwise, how many have, and how many rows there are
pub record Come : Type 0 where
  pub number : ℕ
  pub queries : ℕ
  pub rows : ℕ

-- what the code answers, set out
abbrev pub come_in : ComeOut → Come
come_in c = record { number = outcome_number c.outcome; queries = c.queries; rows = c.rows }

-- ---- columns of outcomes

-- outcome k is place k of each: the number of query k, where its rows end, and its touches
pub record Outcomes : Type 0 where
  pub numbers : List ℕ
  pub until : List ℕ
  pub touches : List ℕ

abbrev pub as_outcomes : List ℕ → List ℕ → List ℕ → Outcomes
as_outcomes numbers until touches = record { numbers = numbers; until = until; touches = touches }

abbrev pub outcomes_over : Outcomes → Outcomes → Outcomes
outcomes_over given o =
    record { numbers = over given.numbers o.numbers; until = over given.until o.until; touches = over given.touches o.touches }

-- ---- columns of rows

-- the lists f 0, f 1, .. f (n − 1), one after the other; nothing where n is 0
unfoldable pub join_below : ℕ → (ℕ → List ℕ) → List ℕ
join_below zero f = []
join_below (suc n) f = join_below n f ++ f n

-- a column afterwards where what is given goes over it from a place on
abbrev pub over_from : ℕ → List ℕ → List ℕ → List ℕ
over_from at l s = take at s ++ over l (drop at s)

abbrev pub columns_from : ℕ → Columns → Columns → Columns
columns_from at given c =
    record {
      ids = over_from at given.ids c.ids;
      shared = over_from at given.shared c.shared;
      sizes = over_from at given.sizes c.sizes;
      least = over_from at given.least c.least;
    }

-- ---- one query: the bytes from one place to another

-- they lie in order and within what there is
abbrev pub lies_in : List ℕ → ℕ → ℕ → Bool
lies_in bytes from to = leb from to && leb to (length bytes)

abbrev pub part_of : List ℕ → ℕ → ℕ → List ℕ
part_of bytes from to = take (to - from) (drop from bytes)

module _ (bytes : List ℕ) (from to : ℕ) (m p q allowance : ℕ) (w : List ℕ) where
  -- what it is answered with so much room: 11 where it does not lie in the bytes, and otherwise what its search answers
  unfoldable pub answer_for : ℕ → Answer
  answer_for room = cond (lies_in bytes from to) (search_of (part_of bytes from to) m p q allowance w room) (Refused 11 0)

  -- the rows that an answer to it gives
  unfoldable pub rows_given : Answer → Columns
  rows_given r = columns_of w m p q (features_of (part_of bytes from to)) (given_by r (answers_of w m p q (features_of (part_of bytes from to))))

-- ---- all of them: query k goes from the end of the one before it, or 0, to the k-th of the ends

-- so many numbers at most are queries, and so many rows, that 32 bits can say how many
abbrev pub most : ℕ
most = 4294967295

-- how many rows there is room for, and how many of the queries
abbrev pub row_room : Columns → ℕ
row_room c = min (room_of c) most

abbrev pub query_room : List ℕ → Outcomes → ℕ
query_room ends o = min (min (length ends) (min (length o.numbers) (min (length o.until) (length o.touches)))) most

module _ (bytes ends : List ℕ) (m p q allowance : ℕ) (w : List ℕ) where
  abbrev pub start_at : ℕ → ℕ
  start_at k = get_or (0 ∷ ends) k 0

  -- what query k is answered: every search has room enough
  unfoldable pub answer_at : ℕ → Answer
  answer_at k = answer_for bytes (start_at k) (get_or ends k 0) m p q allowance w most_names

  unfoldable pub columns_at : ℕ → Columns
  columns_at k = rows_given bytes (start_at k) (get_or ends k 0) m p q allowance w (answer_at k)

  -- how many rows the first k queries have
  unfoldable pub rows_before : ℕ → ℕ
  rows_before k = sum_below k (λ (j : ℕ). rows_in (answer_at j))

  -- the outcomes and the rows of the first k queries
  abbrev pub outcomes_below : ℕ → Outcomes
  outcomes_below k =
      record {
        numbers = tabulate (λ (j : ℕ). number_in (answer_at j)) k;
        until = tabulate (λ (j : ℕ). rows_before (j + 1)) k;
        touches = tabulate (λ (j : ℕ). touches_in (answer_at j)) k;
      }

  abbrev pub columns_below : ℕ → Columns
  columns_below k =
      record {
        ids = join_below k (λ (j : ℕ). (columns_at j).ids);
        shared = join_below k (λ (j : ℕ). (columns_at j).shared);
        sizes = join_below k (λ (j : ℕ). (columns_at j).sizes);
        least = join_below k (λ (j : ℕ). (columns_at j).least);
      }

  -- how far a call comes with that room, of n queries: to the first whose rows have no room behind those before it
  unfoldable pub reached_of : ℕ → ℕ → ℕ
  reached_of room n = first_from (λ (k : ℕ). ltb room (rows_before (k + 1))) n 0

  abbrev pub reached_in : Outcomes → Columns → ℕ
  reached_in o c = reached_of (row_room c) (query_room ends o)

  -- the answer to the call: 0 where every query has its outcome, 8 otherwise; how many have, and how many rows
  unfoldable pub come_of : Outcomes → Columns → Come
  come_of o c = record { number = cond (eqb (reached_in o c) (length ends)) 0 8; queries = reached_in o c; rows = rows_before (reached_in o c) }

  -- every place of the columns afterwards
  abbrev pub outcomes_after : Outcomes → Columns → Outcomes
  outcomes_after o c = outcomes_over (outcomes_below (reached_in o c)) o

  abbrev pub columns_after : Outcomes → Columns → Columns
  columns_after o c = columns_over (columns_below (reached_in o c)) c

  -- what it answers, and what it leaves
  pub record Asked (o o' : Outcomes) (c c' : Columns) (r : Come) : Type 0 where
    pub come : r ≡ come_of o c
    pub outcomes : o' ≡ outcomes_after o c
    pub columns : c' ≡ columns_after o c
