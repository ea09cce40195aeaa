-- What the code's parts are held to: the least counts by size, the lists of a size as the code finds them, one size, all sizes, and the
-- answers by a name's place. What follows the least counts goes by a table of them, and knows no measure; that it is the method's by the
-- table of a search: proofs/Leasts.antt. The tables of the candidates: specs/Tables.antt of `candidates`.
-- Assumes nothing.
use Rattle.std.specs.Prelude.{◌≡◌, Bool, true, false, cond, ◌&&◌, List, ℕ, ◌+◌, ◌-◌, ◌*◌, ◌≤◌, ◌<◌, length, get_or, eqb, leb, ltb}
use Rattle.laws.specs.Lists.{Ascending, tabulate}
use Rattle.laws.specs.Below.{sum_below, count_below}
use Rattle.laws.specs.Each.{Each}
use Rattle.names.specs.Features.{most_features}
use Rattle.likeness.specs.Sizes.{is_searched}
use Rattle.likeness.specs.Least.{least_count}
use Rattle.words.specs.Words.{name_count, row_count, name_id, name_size, row_size, feature_span}
use Rattle.index.specs.Good.{most_names, ids_in}
use Rattle.lists.specs.Lists.{span_in, list_in}
use Rattle.candidates.specs.Method.{remains, later_count}
use Rattle.candidates.specs.Spending.{Spending}
use Rattle.candidates.specs.Tables.{no_counts, kept, remain_table}
use Rattle.sizes.specs.Method.{names_of, lists_for, touches_at, shared_with, sizes_end}

-- ---- the names

-- whether a name has the size
unfoldable pub present_at : List ℕ → ℕ → Bool
present_at w y = leb 1 (names_of w y)

-- no name has this size or a larger one: the last row's and one, as rows ascend by size
unfoldable pub sizes_below : List ℕ → ℕ
sizes_below w = cond (eqb (row_count w) 0) 0 (row_size w (row_count w - 1) + 1)

-- ---- the least counts

-- the least count of a size for a query of x features: 0 where no name has the size, or it isn't searched
unfoldable pub least_at : List ℕ → ℕ → ℕ → ℕ → ℕ → ℕ → ℕ
least_at w m p q x y = cond (leb 1 (names_of w y) && is_searched m p q x y) (least_count m p q x y) 0

-- by size
abbrev pub leasts_of : List ℕ → ℕ → ℕ → ℕ → ℕ → List ℕ
leasts_of w m p q x = tabulate (least_at w m p q x) sizes_end

-- what a table of least counts by size has to be
pub record Reachable (features leasts : List ℕ) : Type 0 where
  -- it has one for each size
  pub long : length leasts ≡ sizes_end
  -- and none that is more than the features
  pub most : (y : ℕ) → y < sizes_end → get_or leasts y 0 ≤ length features

-- ---- the lists of a size

-- where the list of the j-th feature starts
unfoldable pub start_of : List ℕ → ℕ → List ℕ → ℕ → ℕ
start_of w y features j = (span_in w y (get_or features j 0)).start

-- the j-th feature's list length and place as one number, which orders by length, then by place
unfoldable pub small_key : List ℕ → ℕ → List ℕ → ℕ → ℕ
small_key w y features j = length (list_in w y (get_or features j 0)) * 256 + j

-- how many of the first n features' lists have ids: their keys are above 255
unfoldable pub filled_of : List ℕ → ℕ → List ℕ → ℕ → ℕ
filled_of w y features n = count_below n (λ (j : ℕ). ltb 255 (small_key w y features j))

-- ---- one size

-- the tables that are made once and lent to each size: where lists start, their keys and a spare as long, counts, all 0, and the places met
pub record Lent (features starts keys spare counts met : List ℕ) : Type 0 where
  pub starting : length starts ≡ most_features
  pub keyed : length keys ≡ length features
  pub spared : length spare ≡ length features
  pub cleared : counts ≡ no_counts
  pub meeting : length met ≡ most_names

-- its touches where its least count is t; none where that is 0
unfoldable pub touches_for : List ℕ → ℕ → List ℕ → ℕ → ℕ
touches_for w y features t = cond (leb 1 t) (touches_at w y (lists_for w y features) t) 0

-- the answers after it: the counts of those left at their places, and elsewhere what was there; all of that where t is 0
unfoldable pub answers_for : List ℕ → ℕ → List ℕ → ℕ → List ℕ → List ℕ
answers_for w y features t before =
    cond (leb 1 t) (kept (remain_table (ids_in w) (lists_for w y features) t (later_count (lists_for w y features) t)) before) before

-- what one size comes to; past the budget no touch is reported and no answer is changed; otherwise the counts are 0 again
pub record Sized (w : List ℕ) (y : ℕ) (features : List ℕ) (t budget : ℕ) (before after counts : List ℕ) (past : Bool) (touches : ℕ) : Type 0 where
  pub spent : Spending (touches_for w y features t) budget past touches
  pub answers : past ≡ false → after ≡ answers_for w y features t before
  pub cleared : past ≡ false → counts ≡ no_counts
  pub none : past ≡ true → (touches ≡ 0) × (after ≡ before)

-- the features as the code has them: ascending, some and not too many, each below the span
pub record Asked (features : List ℕ) : Type 0 where
  pub some : 1 ≤ length features
  pub few : length features ≤ most_features
  pub rising : Ascending features
  pub small : Each (λ (f : ℕ). f < feature_span) features

-- ---- all sizes, by their least counts

module _ (w leasts features : List ℕ) where
  -- the touches of size y
  unfoldable pub touches_by : ℕ → ℕ
  touches_by y = touches_for w y features (get_or leasts y 0)

  -- whether name i is an answer: the least count of its size isn't 0, and it is left after the last feature
  unfoldable pub listed_by : ℕ → Bool
  listed_by i =
      let y = name_size w i in
      let ls = lists_for w y features in
      let t = get_or leasts y 0 in
      leb 1 t && remains ls t (later_count ls t) (name_id w i)

  -- whether the name at place i is an answer of a size below y; never past the last name
  unfoldable pub answered_at : ℕ → ℕ → Bool
  answered_at y i = ltb i (name_count w) && (ltb (name_size w i) y && listed_by i)

  -- the shared counts of the answers of the sizes below y; 0 of all others
  unfoldable pub answers_table : ℕ → List ℕ
  answers_table y = tabulate (λ (i : ℕ). cond (answered_at y i) (shared_with w features i) 0) most_names

  -- after all sizes: their answers, or past the budget those of the sizes below the one that no longer fits, and no touch is reported
  pub record Covered (budget : ℕ) (after : List ℕ) (past : Bool) (touches : ℕ) : Type 0 where
    pub spent : Spending (sum_below sizes_end touches_by) budget past touches
    pub answers : past ≡ false → after ≡ answers_table sizes_end
    pub none : past ≡ true → touches ≡ 0
    pub stopped : past ≡ true
        → (y : ℕ) × (sum_below y touches_by ≤ budget) × (budget < sum_below (y + 1) touches_by) × (after ≡ answers_table y)
