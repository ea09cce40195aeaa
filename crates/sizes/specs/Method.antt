-- The counted search, step by step, on plain lists. What it lists is joined to the measures in proofs/Laws.antt.
-- What one size does with its lists in order, and where it departs from the paper: specs/Method.antt of `candidates`.
-- Assumes nothing.
use Rattle.std.specs.Prelude.{Bool, cond, ◌&&◌, List, map, ℕ, ◌+◌, ◌%◌, length, eqb}
use Rattle.laws.specs.Below.{sum_below, count_below, passing_below}
use Rattle.laws.specs.Sort.{sort_of}
use Rattle.names.specs.Features.{most_features}
use Rattle.likeness.specs.Sizes.{is_searched}
use Rattle.likeness.specs.Least.{least_count}
use Rattle.words.specs.Words.{name_count, name_id, name_size, feature_span, key_of}
use Rattle.lists.specs.Lists.{list_in}
use Rattle.candidates.specs.Method.{held_by, signature_postings, remains, later_count}

-- ---- one size: the lists of the query's features, in their order

-- the query's features by the length of their list at the size, then by feature number
unfoldable pub ordered_for : List ℕ → ℕ → List ℕ → List ℕ
ordered_for w y query =
    map (λ (k : ℕ). k % feature_span) (sort_of (map (λ (f : ℕ). key_of (length (list_in w y f)) f) query))

-- their lists, in that order
unfoldable pub lists_for : List ℕ → ℕ → List ℕ → List (List ℕ)
lists_for w y query = map (list_in w y) (ordered_for w y query)

-- how many names have the size
abbrev pub names_of : List ℕ → ℕ → ℕ
names_of w y = count_below (name_count w) (λ (i : ℕ). eqb (name_size w i) y)

-- how many names of the size remain after d later features
unfoldable pub remaining : List ℕ → ℕ → List (List ℕ) → ℕ → ℕ → ℕ
remaining w y ls t d = count_below (name_count w) (λ (i : ℕ). eqb (name_size w i) y && remains ls t d (name_id w i))

-- the touches of one size: one for each posting of a signature list, and for each later feature one for each remaining candidate
unfoldable pub touches_at : List ℕ → ℕ → List (List ℕ) → ℕ → ℕ
touches_at w y ls t = signature_postings ls t + sum_below (later_count ls t) (remaining w y ls t)

-- how many of the query's features name i has
unfoldable pub shared_with : List ℕ → List ℕ → ℕ → ℕ
shared_with w query i = held_by (lists_for w (name_size w i) query) (name_id w i)

-- ---- all sizes

-- the sizes to go through are below this
abbrev pub sizes_end : ℕ
sizes_end = most_features + 1

module _ (w : List ℕ) (m p q : ℕ) (query : List ℕ) where
  -- the touches of size y; none where it isn't searched
  unfoldable pub touches_of_size : ℕ → ℕ
  touches_of_size y =
      cond (is_searched m p q (length query) y) (touches_at w y (lists_for w y query) (least_count m p q (length query) y)) 0

  -- the touches of all searched sizes
  unfoldable pub touches_of : ℕ
  touches_of = sum_below sizes_end touches_of_size

  -- whether name i is an answer: its size is searched, and it is left after the last feature
  unfoldable pub listed : ℕ → Bool
  listed i =
      let y = name_size w i in
      let ls = lists_for w y query in
      let t = least_count m p q (length query) y in
      is_searched m p q (length query) y && remains ls t (later_count ls t) (name_id w i)

  -- the places among the names of all answers, in the names' order, which is that of the ids
  unfoldable pub answers_of : List ℕ
  answers_of = passing_below (name_count w) listed
