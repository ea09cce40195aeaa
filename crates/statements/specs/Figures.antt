-- The worked figures of the rule, as one table: what the definitions give, and what it should be.
-- Proved together in proofs/Figures.antt. A new figure is one more row here.
-- Assumes nothing.
use Rattle.std.specs.Prelude.{◌≡◌, Bool, true, ◌&&◌, cond, not, List, [], ◌∷◌, ℕ, length, eqb, leb}
use Rattle.laws.specs.Below.{count_below}
use Rattle.names.specs.Names.{judge_of}
use Rattle.names.specs.Features.{features_of}
use Rattle.names.specs.Shared.{shared_of}
use Rattle.likeness.specs.Measures.{is_similar}
use Rattle.likeness.specs.Sizes.{is_searched}
use Rattle.likeness.specs.Least.{least_count}
use Rattle.likeness.specs.Terms.{lowest_terms}
use Rattle.index_writer.specs.Built.{Entry, words_of}
use Rattle.sizes.specs.Method.{sizes_end, shared_with, touches_of_size, touches_of, answers_of}
use Rattle.search.specs.Answers.{number_in, search_of, least_for}

-- ---- the names of the figures

abbrev pub lane : List ℕ
lane = 76 ∷ 65 ∷ 78 ∷ 69 ∷ []

abbrev pub lanes : List ℕ
lanes = 76 ∷ 65 ∷ 78 ∷ 69 ∷ 83 ∷ []

abbrev pub plane : List ℕ
plane = 80 ∷ 76 ∷ 65 ∷ 78 ∷ 69 ∷ []

abbrev pub aaa : List ℕ
aaa = 65 ∷ 65 ∷ 65 ∷ []

abbrev pub aaaa : List ℕ
aaaa = 65 ∷ 65 ∷ 65 ∷ 65 ∷ []

abbrev pub ab : List ℕ
ab = 65 ∷ 66 ∷ []

abbrev pub ac : List ℕ
ac = 65 ∷ 67 ∷ []

-- ---- the indexes of the figures

abbrev pub entry : ℕ → List ℕ → Entry
entry i name = record { id = i; features = features_of name }

-- LANE, LANES and PLANE under ids 10, 11 and 12
abbrev pub lanes_index : List ℕ
lanes_index = words_of (entry 10 lane ∷ entry 11 lanes ∷ entry 12 plane ∷ [])

-- the sole name AC
abbrev pub ac_index : List ℕ
ac_index = words_of (entry 1 ac ∷ [])

-- ---- the table

-- a figure: what is computed, and what it should be
pub record Figure : Type 0 where
  pub is : ℕ
  pub should : ℕ

-- how many features two names share
abbrev pub shares : List ℕ → List ℕ → ℕ → Figure
shares a b n = record { is = shared_of (features_of a) (features_of b); should = n }

-- how many features a name has
abbrev pub sized : List ℕ → ℕ → Figure
sized a n = record { is = length (features_of a); should = n }

-- the number that a name is judged with
abbrev pub judged : List ℕ → ℕ → Figure
judged a n = record { is = judge_of a; should = n }

-- 1 where the measure finds s shared features of the sizes x and y enough for p/q, 0 where it doesn't
abbrev pub alike : ℕ → ℕ → ℕ → ℕ → ℕ → ℕ → ℕ → Figure
alike m p q x y s n = record { is = cond (is_similar m p q x y s) 1 0; should = n }

-- the least count of a query of x features and a name of y
abbrev pub least : ℕ → ℕ → ℕ → ℕ → ℕ → ℕ → Figure
least m p q x y n = record { is = least_count m p q x y; should = n }

-- exactly the sizes from low to high are searched for a query of x features: how many sizes, of all up to the largest, are judged otherwise
abbrev pub searched_from : ℕ → ℕ → ℕ → ℕ → ℕ → ℕ → Figure
searched_from m p q x low high =
    record {
      is = count_below sizes_end (λ (y : ℕ). not (eqb (cond (is_searched m p q x y) 1 0) (cond (leb low y && leb y high) 1 0)));
      should = 0;
    }

-- the two numbers of a threshold in lowest terms
abbrev pub lowest_p : ℕ → ℕ → ℕ → Figure
lowest_p p q n = record { is = (lowest_terms p q).p; should = n }

abbrev pub lowest_q : ℕ → ℕ → ℕ → Figure
lowest_q p q n = record { is = (lowest_terms p q).q; should = n }

-- the touches of one size, and of all
abbrev pub touches_at_size : List ℕ → ℕ → ℕ → ℕ → List ℕ → ℕ → ℕ → Figure
touches_at_size w m p q query y n = record { is = touches_of_size w m p q (features_of query) y; should = n }

abbrev pub touches : List ℕ → ℕ → ℕ → ℕ → List ℕ → ℕ → Figure
touches w m p q query n = record { is = touches_of w m p q (features_of query); should = n }

-- how many names are listed, and how many features the name at a place shares
abbrev pub lists : List ℕ → ℕ → ℕ → ℕ → List ℕ → ℕ → Figure
lists w m p q query n = record { is = length (answers_of w m p q (features_of query)); should = n }

abbrev pub shares_at : List ℕ → List ℕ → ℕ → ℕ → Figure
shares_at w query i n = record { is = shared_with w (features_of query) i; should = n }

-- the least count of the row of the name at a place
abbrev pub least_at : List ℕ → ℕ → ℕ → ℕ → List ℕ → ℕ → ℕ → Figure
least_at w m p q query i n = record { is = least_for w m p q (features_of query) i; should = n }

-- the number of a search with an allowance and room for three rows, 0 where it is answered
abbrev pub answers : List ℕ → ℕ → ℕ → ℕ → List ℕ → ℕ → ℕ → Figure
answers w m p q query allowance n = record { is = number_in (search_of query m p q allowance w 3); should = n }

abbrev pub figures : List Figure
figures =
    sized lane 6
    ∷ sized lanes 7
    ∷ sized plane 7
    ∷ shares lane lanes 4
    ∷ shares lane plane 4
    ∷ sized aaa 5
    ∷ sized aaaa 6
    ∷ shares aaa aaaa 5
    ∷ judged (76 ∷ 9 ∷ 78 ∷ []) 12
    ∷ judged (31 ∷ []) 12
    ∷ judged (65 ∷ 127 ∷ []) 12
    ∷ judged (9 ∷ 0 ∷ []) 3
    ∷ judged (32 ∷ 126 ∷ 128 ∷ 255 ∷ []) 0
    ∷ alike 1 8 13 6 7 4 1
    ∷ alike 1 9 13 6 7 4 0
    ∷ alike 2 4 9 6 7 4 1
    ∷ alike 3 617 1000 6 7 4 1
    ∷ alike 3 618 1000 6 7 4 0
    ∷ alike 4 2 3 6 7 4 1
    ∷ least 3 7 10 8 9 6
    ∷ searched_from 3 7 10 8 4 16
    ∷ lowest_p 70 100 7
    ∷ lowest_q 70 100 10
    ∷ lists ac_index 1 1 4 ab 1
    ∷ shares_at ac_index ab 0 1
    ∷ touches ac_index 1 1 4 ab 1
    ∷ touches_at_size lanes_index 1 8 13 lane 6 6
    ∷ touches_at_size lanes_index 1 8 13 lane 7 9
    ∷ touches lanes_index 1 8 13 lane 15
    ∷ lists lanes_index 1 8 13 lane 3
    ∷ least_at lanes_index 1 8 13 lane 0 4
    ∷ least_at lanes_index 1 8 13 lane 1 4
    ∷ least_at lanes_index 1 8 13 lane 2 4
    ∷ answers lanes_index 1 8 13 lane 15 0
    ∷ answers lanes_index 1 8 13 lane 14 7
    ∷ []

-- every figure is what it should be; so of no figures
unfoldable pub all_right : List Figure → Bool
all_right [] = true
all_right (f ∷ l) = eqb f.is f.should && all_right l

-- proved by `figures_right`
abbrev pub FiguresRight : Type 0
FiguresRight = all_right figures ≡ true
