-- Words that agree with a good index up to its total are searched alike: the same steps, the same answers, the same counts.
-- Assumes nothing.
use mathlib.Core.Path.{◌≡◌, ap, ap₂, ◌∙◌}
use mathlib.Core.Bool.{cond, ◌&&◌}
use mathlib.Core.List.{List, map}
use Prim.Native.Nat.{ℕ, ◌+◌, ◌%◌, ◌≤◌, ◌<◌}
use lib.ListN.{length, take}
use lib.Dec.{eqb}
use Rattle.laws.specs.Below.{sum_below, passing_below}
use Rattle.laws.specs.Sort.{sort_of}
use Rattle.laws.proofs.Below.{sum_below_ext}
use Rattle.laws.proofs.Passing.{passing_ext}
use Rattle.likeness.specs.Sizes.{is_searched}
use Rattle.likeness.specs.Least.{least_count}
use Rattle.words.specs.Words.{name_count, name_id, name_size, feature_span, key_of, total}
use Rattle.index.specs.Good.{Good}
use Rattle.index.proofs.Total.{names_same, id_same, size_same}
use Rattle.lists.proofs.Total.{list_in_same}
use Rattle.candidates.specs.Method.{held_by, signature_postings, remains, later_count}
use Rattle.sizes.specs.Method.{ordered_for, lists_for, remaining, touches_at, shared_with, sizes_end, touches_of_size, touches_of, listed, answers_of}

module _ (w v : List ℕ) (same : take (total w) w ≡ take (total w) v) (long : total w ≤ length v) (good : Good w) (query : List ℕ) where
  -- the lists of a size, in their order
  lists_same : (y : ℕ) → lists_for v y query ≡ lists_for w y query
  unfolding lists_for ordered_for
  lists_same y =
      ap (λ (l : ℕ → List ℕ). map l (map (λ (k : ℕ). k % feature_span) (sort_of (map (λ (f : ℕ). key_of (length (l f)) f) query))))
      (λ t f. list_in_same w v same long good y f t)

  remaining_same : (y : ℕ) (ls : List (List ℕ)) (t d : ℕ) → remaining v y ls t d ≡ remaining w y ls t d
  unfolding remaining
  remaining_same y ls t d =
      ap (λ (n : ℕ). sum_below n (λ (i : ℕ). cond (eqb (name_size v i) y && remains ls t d (name_id v i)) 1 0)) (names_same w v same long)
      ∙ sum_below_ext (name_count w) _ _
      (λ i h. ap₂ (λ (a b : ℕ). cond (eqb a y && remains ls t d b) 1 0) (size_same w v same long i h) (id_same w v same long i h))

  at_same : (y : ℕ) (ls : List (List ℕ)) (t : ℕ) → touches_at v y ls t ≡ touches_at w y ls t
  unfolding touches_at
  at_same y ls t =
      ap (λ (n : ℕ). signature_postings ls t + n) (sum_below_ext (later_count ls t) _ _ (λ d h. remaining_same y ls t d))

  -- how many of the query's features a name has
  pub shared_same : (i : ℕ) → i < name_count w → shared_with v query i ≡ shared_with w query i
  unfolding shared_with
  shared_same i h =
      ap₂ (λ (y n : ℕ). held_by (lists_for v y query) n) (size_same w v same long i h) (id_same w v same long i h)
      ∙ ap (λ (ls : List (List ℕ)). held_by ls (name_id w i)) (lists_same (name_size w i))

  module _ (m p q : ℕ) where
    size_touches_same : (y : ℕ) → touches_of_size v m p q query y ≡ touches_of_size w m p q query y
    unfolding touches_of_size
    size_touches_same y =
        ap (λ (n : ℕ). cond (is_searched m p q (length query) y) n 0)
        (at_same y (lists_for v y query) (least_count m p q (length query) y)
        ∙ ap (λ (ls : List (List ℕ)). touches_at w y ls (least_count m p q (length query) y)) (lists_same y))

    -- the steps of the method
    pub touches_same : touches_of v m p q query ≡ touches_of w m p q query
    unfolding touches_of
    touches_same = sum_below_ext sizes_end _ _ (λ y h. size_touches_same y)

    listed_same : (i : ℕ) → i < name_count w → listed v m p q query i ≡ listed w m p q query i
    unfolding listed
    listed_same i h =
        ap₂ (λ (y n : ℕ).
        is_searched m p q (length query) y
        && remains (lists_for v y query) (least_count m p q (length query) y) (later_count (lists_for v y query) (least_count m p q (length query) y)) n)
        (size_same w v same long i h) (id_same w v same long i h)
        ∙ ap (λ (ls : List (List ℕ)).
        is_searched m p q (length query) (name_size w i)
        && remains ls (least_count m p q (length query) (name_size w i)) (later_count ls (least_count m p q (length query) (name_size w i))) (name_id w i))
        (lists_same (name_size w i))

    -- the places of the answers
    pub answers_same : answers_of v m p q query ≡ answers_of w m p q query
    unfolding answers_of
    answers_same =
        ap (λ (n : ℕ). passing_below n (listed v m p q query)) (names_same w v same long)
        ∙ passing_ext (name_count w) (listed v m p q query) (listed w m p q query) listed_same
