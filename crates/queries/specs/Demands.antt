-- The demands on many queries at once, in full: what a reader has to believe, and nothing of how it is shown.
-- `search_many` answers `come_of` and leaves `outcomes_after` and `columns_after` (specs/Queries.antt), for every input, by its contract. `Demands` is a type
-- with nothing left open, proved as it stands by `demands` of proofs/Demands.antt. Assumes nothing.
use Rattle.std.specs.Prelude.{◌≡◌, ◌⊎◌, false, List, ℕ, ◌+◌, ◌*◌, ◌≤◌, ◌<◌, length, get_or, take, drop}
use Rattle.index.specs.Good.{most_names}
use Rattle.search.specs.Answers.{Refused, number_in, rows_in, touches_in, search_of, Columns}
use Rattle.queries.specs.Queries.{Outcomes, lies_in, part_of, start_at, answer_at, columns_at, rows_before, row_room, query_room, reached_in, come_of, outcomes_after, columns_after}

-- a part of a column: so many places from one on
abbrev pub part_at : ℕ → ℕ → List ℕ → List ℕ
part_at from n l = take n (drop from l)

module _ (bytes ends : List ℕ) (m p q allowance : ℕ) (w : List ℕ) where
  -- ---- one query

  pub record Query (k : ℕ) : Type 0 where
    -- where it lies in the bytes it is answered as by a search of its own with room for every name, and otherwise 11
    pub alone : start_at bytes ends m p q allowance w k ≤ get_or ends k 0 → get_or ends k 0 ≤ length bytes
        → answer_at bytes ends m p q allowance w k ≡ search_of (part_of bytes (start_at bytes ends m p q allowance w k) (get_or ends k 0)) m p q allowance w most_names
    pub outside : lies_in bytes (start_at bytes ends m p q allowance w k) (get_or ends k 0) ≡ false → answer_at bytes ends m p q allowance w k ≡ Refused 11 0
    -- no query is refused for want of room
    pub not_room : number_in (answer_at bytes ends m p q allowance w k) ≡ 8 → ⊥

  -- ---- what stands in the columns afterwards

  pub record Stands (o : Outcomes) (c : Columns) (k : ℕ) : Type 0 where
    pub number : get_or (outcomes_after bytes ends m p q allowance w o c).numbers k 0 ≡ number_in (answer_at bytes ends m p q allowance w k)
    pub until : get_or (outcomes_after bytes ends m p q allowance w o c).until k 0 ≡ rows_before bytes ends m p q allowance w (k + 1)
    pub touches : get_or (outcomes_after bytes ends m p q allowance w o c).touches k 0 ≡ touches_in (answer_at bytes ends m p q allowance w k)
    -- from where the rows of the queries before it end to where its own end stand the rows of its search, all of them
    pub length_of : rows_before bytes ends m p q allowance w (k + 1) ≡ rows_before bytes ends m p q allowance w k + rows_in (answer_at bytes ends m p q allowance w k)
    pub ids : part_at (rows_before bytes ends m p q allowance w k) (rows_in (answer_at bytes ends m p q allowance w k)) (columns_after bytes ends m p q allowance w o c).ids
        ≡ (columns_at bytes ends m p q allowance w k).ids
    pub shared : part_at (rows_before bytes ends m p q allowance w k) (rows_in (answer_at bytes ends m p q allowance w k)) (columns_after bytes ends m p q allowance w o c).shared
        ≡ (columns_at bytes ends m p q allowance w k).shared
    pub sizes : part_at (rows_before bytes ends m p q allowance w k) (rows_in (answer_at bytes ends m p q allowance w k)) (columns_after bytes ends m p q allowance w o c).sizes
        ≡ (columns_at bytes ends m p q allowance w k).sizes
    pub least : part_at (rows_before bytes ends m p q allowance w k) (rows_in (answer_at bytes ends m p q allowance w k)) (columns_after bytes ends m p q allowance w o c).least
        ≡ (columns_at bytes ends m p q allowance w k).least

  -- ---- the whole call

  pub record Call (o : Outcomes) (c : Columns) : Type 0 where
    -- what it says that there is lies within what was lent
    pub places : (come_of bytes ends m p q allowance w o c).queries ≤ query_room ends o
    pub rows : (come_of bytes ends m p q allowance w o c).rows ≤ row_room c
    -- 0 exactly where every query has its outcome
    pub all : (come_of bytes ends m p q allowance w o c).number ≡ 0 → (come_of bytes ends m p q allowance w o c).queries ≡ length ends
    pub not_all : (come_of bytes ends m p q allowance w o c).queries ≡ length ends → (come_of bytes ends m p q allowance w o c).number ≡ 0
    -- it ends early only for want of a place, or of room for the rows of the query that it came to
    pub early : reached_in bytes ends m p q allowance w o c < length ends
        → (reached_in bytes ends m p q allowance w o c ≡ query_room ends o) ⊎ (row_room c < rows_before bytes ends m p q allowance w (reached_in bytes ends m p q allowance w o c + 1))
    -- with a place for each and room for 256 rows each it never does
    pub enough : length ends ≤ query_room ends o → length ends * most_names ≤ row_room c → (come_of bytes ends m p q allowance w o c).number ≡ 0
    -- every query that it came past has its outcome and its rows
    pub stands : (k : ℕ) → k < reached_in bytes ends m p q allowance w o c → Stands o c k

-- proved by `demands`
abbrev pub Demands : Type 0
Demands = (bytes ends : List ℕ) (m p q allowance : ℕ) (w : List ℕ)
    → ((k : ℕ) → Query bytes ends m p q allowance w k) × ((o : Outcomes) (c : Columns) → Call bytes ends m p q allowance w o c)
