-- Readings by id and week. An entry is a reading that belongs to an id in a week; a pair is an id and a week. Which pairs there are, and the sum and the
-- count of the readings of each, over the entries in any order.
-- Assumes nothing.
use Rattle.std.specs.Prelude.{Bool, cond, not, ◌&&◌, List, [], ◌∷◌, ◌++◌, map, Result, Ok, Err, ℕ, ◌+◌, ◌*◌, ◌/◌, ◌%◌, min, length, drop, eqb, leb}
use Rattle.laws.specs.Lists.{member, sum_of}
use Rattle.laws.specs.Sort.{sort_of}
use Rattle.refusals.specs.declared.Refusal.{Refusal}
use Rattle.refusals.specs.Refusals.{refusal_number}

-- ---- an entry

-- a week is seven days, from day 0 on
abbrev pub week_of : ℕ → ℕ
week_of day = day / 7

-- how many weeks, and how many readings, there can be
abbrev pub span : ℕ
span = 65536

-- the reading that says that there is none
abbrev pub missing : ℕ
missing = 65535

-- an id and a week as one number, so that pairs are ordered by id and then by week; and both of them again
abbrev pub pair_of : ℕ → ℕ → ℕ
pair_of id week = id * span + week

abbrev pub id_in : ℕ → ℕ
id_in pair = pair / span

abbrev pub week_in : ℕ → ℕ
week_in pair = pair % span

-- an entry as one number, its pair before its reading; and both of them again
abbrev pub entry_of : ℕ → ℕ → ℕ
entry_of pair reading = pair * span + reading

abbrev pub pair_in : ℕ → ℕ
pair_in entry = entry / span

abbrev pub reading_in : ℕ → ℕ
reading_in entry = entry % span

-- whether the entry has a reading; 0 is one
abbrev pub present : ℕ → Bool
present entry = not (eqb (reading_in entry) missing)

-- ---- the pairs of entries

-- each number of the list once
unfoldable pub once_of : List ℕ → List ℕ
once_of [] = []
once_of (x ∷ l) = let r = once_of l in cond (member x l) r (x ∷ r)

-- the pairs that have an entry, ascending, once each
unfoldable pub pairs_of : List ℕ → List ℕ
pairs_of entries = sort_of (once_of (map pair_in entries))

-- what an entry adds to the sum of a pair, and to its count: nothing where it is of another pair or its reading is missing
unfoldable pub amount : ℕ → ℕ → ℕ
amount pair entry = cond (eqb (pair_in entry) pair && present entry) (reading_in entry) 0

unfoldable pub tally : ℕ → ℕ → ℕ
tally pair entry = cond (eqb (pair_in entry) pair && present entry) 1 0

-- the sum and the count of the readings present of a pair
abbrev pub sum_for : List ℕ → ℕ → ℕ
sum_for entries pair = sum_of (map (amount pair) entries)

abbrev pub count_for : List ℕ → ℕ → ℕ
count_for entries pair = sum_of (map (tally pair) entries)

-- ---- the pairs as columns

-- pair k is place k of each
pub record Columns : Type 0 where
  pub ids : List ℕ
  pub weeks : List ℕ
  pub sums : List ℕ
  pub counts : List ℕ

abbrev pub as_columns : List ℕ → List ℕ → List ℕ → List ℕ → Columns
as_columns ids weeks sums counts = record { ids = ids; weeks = weeks; sums = sums; counts = counts }

-- there is room for as many pairs as the shortest has
abbrev pub room_of : Columns → ℕ
room_of c = min (min (length c.ids) (length c.weeks)) (min (length c.sums) (length c.counts))

-- the columns of the pairs of some entries
abbrev pub columns_of : List ℕ → Columns
columns_of entries =
    record {
      ids = map id_in (pairs_of entries);
      weeks = map week_in (pairs_of entries);
      sums = map (sum_for entries) (pairs_of entries);
      counts = map (count_for entries) (pairs_of entries);
    }

-- a lent column afterwards: what is given, and after it what stood there
abbrev pub over : List ℕ → List ℕ → List ℕ
over l s = l ++ drop (length l) s

abbrev pub columns_over : Columns → Columns → Columns
columns_over given c =
    record {
      ids = over given.ids c.ids;
      weeks = over given.weeks c.weeks;
      sums = over given.sums c.sums;
      counts = over given.counts c.counts;
    }

-- ---- the answer

-- what writing pairs answers: its number, and how many there are; and what the code answers, so set out
pub record Paired : Type 0 where
  pub number : ℕ
  pub pairs : ℕ

abbrev pub paired_in : Result ℕ Refusal → Paired
paired_in (Ok n) = record { number = 0; pairs = n }
paired_in (Err r) = record { number = refusal_number r; pairs = 0 }

-- whether the pairs have room
abbrev pub fits : List ℕ → ℕ → Bool
fits entries room = leb (length (pairs_of entries)) room

-- 8 and no pairs where they have not
unfoldable pub paired_of : List ℕ → ℕ → Paired
paired_of entries room = cond (fits entries room) (record { number = 0; pairs = length (pairs_of entries) }) (record { number = 8; pairs = 0 })

-- the columns afterwards; as they were where the pairs have no room
unfoldable pub columns_after : List ℕ → Columns → Columns
columns_after entries c = cond (fits entries (room_of c)) (columns_over (columns_of entries) c) c
