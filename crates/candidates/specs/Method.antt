-- The two phases of one size, on plain lists: who is a candidate after each list, and what the signatures cost.
-- Where this departs from the paper: a candidate that reaches the least count stays, because a row needs its full shared count; candidates
-- are accepted after the last feature and not only in the paper's second loop, which is empty where the least count is 1; the signatures end
-- at x − t, as in the paper's loop and not its prose; the pruning bound adds what is left, as in its loop.
-- Assumes nothing.
use Rattle.std.specs.Prelude.{Bool, ◌&&◌, List, map, ℕ, zero, suc, ◌+◌, ◌-◌, length, take, leb}
use Rattle.laws.specs.Lists.{member, count_of, sum_of}

-- how many of the lists hold the id
unfoldable pub held_by : List (List ℕ) → ℕ → ℕ
held_by ls id = count_of (λ (l : List ℕ). member id l) ls

-- how many of x lists are signatures: x − t + 1
abbrev pub signatures : ℕ → ℕ → ℕ
signatures x t = (x - t) + 1

-- the postings of the first n lists
abbrev pub postings_of : List (List ℕ) → ℕ → ℕ
postings_of ls n = sum_of (map length (take n ls))

-- the postings of the signature lists
unfoldable pub signature_postings : List (List ℕ) → ℕ → ℕ
signature_postings ls t = postings_of ls (signatures (length ls) t)

-- whether the id is still a candidate after d later features. At first: met in a signature list. The later feature at place k, counted
-- from 0 in the whole order, tests each remaining candidate, and drops it after the test where its count plus x − k − 1 is below t
unfoldable pub remains : List (List ℕ) → ℕ → ℕ → ℕ → Bool
remains ls t zero id = leb 1 (held_by (take (signatures (length ls) t) ls) id)
remains ls t (suc d) id =
    remains ls t d id
    && leb t (held_by (take (signatures (length ls) t + suc d) ls) id + (length ls - (signatures (length ls) t + suc d)))

-- how many features come after the signatures
abbrev pub later_count : List (List ℕ) → ℕ → ℕ
later_count ls t = length ls - signatures (length ls) t
