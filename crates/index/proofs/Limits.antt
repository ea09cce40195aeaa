-- A good index under any limits on the largest size and the most postings: what lies inside the limits, and that nothing else hangs on them.
-- Assumes nothing.
use mathlib.Core.Path.{◌≡◌, refl}
use mathlib.Core.Bool.{Bool, true, ◌&&◌}
use mathlib.Core.List.{List}
use Prim.Native.Nat.{ℕ, ◌<◌}
use lib.ListN.{length}
use lib.Dec.{leb}
use borrow.Author.Tests.{leb-true, le-leb}
use Rattle.laws.specs.Below.{all_below}
use Rattle.laws.proofs.Below.{and_left, and_right, and_both, all_at, all_of}
use Rattle.names.specs.Features.{most_features}
use Rattle.words.specs.Words.{head_width, name_count, posting_count, name_id, name_size, total}
use Rattle.index.specs.Good.{most_names, most_postings, largest_id, least_size, head_within, head_good, name_within, name_good, ids_good, names_good, rows_good, lists_good, good_of, good_within, Inside}

pub good_limits : (w : List ℕ) → good_of w ≡ good_within most_features most_postings w
unfolding good_of good_within head_good names_good name_good
good_limits w = refl

module _ (w : List ℕ) (largest most : ℕ) (g : good_within largest most w ≡ true) where
  abbrev names : Bool
  names = all_below (name_count w) (name_within largest w)

  lists_left : head_within most w && (names && ids_good w) && rows_good w ≡ true
  unfolding good_within
  lists_left = and_left (head_within most w && (names && ids_good w) && rows_good w) (lists_good w) g

  lists : lists_good w ≡ true
  unfolding good_within
  lists = and_right (head_within most w && (names && ids_good w) && rows_good w) (lists_good w) g

  rows : rows_good w ≡ true
  rows = and_right (head_within most w && (names && ids_good w)) (rows_good w) lists_left

  both : head_within most w && (names && ids_good w) ≡ true
  both = and_left (head_within most w && (names && ids_good w)) (rows_good w) lists_left

  head : head_within most w ≡ true
  head = and_left (head_within most w) (names && ids_good w) both

  ids : ids_good w ≡ true
  ids = and_right names (ids_good w) (and_right (head_within most w) (names && ids_good w) both)

  each : (i : ℕ) → i < name_count w → name_within largest w i ≡ true
  each = all_at (name_count w) (name_within largest w) (and_left names (ids_good w) (and_right (head_within most w) (names && ids_good w) both))

  -- what passes lies inside the limits
  pub within_inside : Inside largest most w
  within_inside =
      let a = leb head_width (length w) && leb (name_count w) most_names in
      record {
        sizes = λ i h. leb-true _ _ (and_right (leb (name_id w i) largest_id && leb least_size (name_size w i)) (leb (name_size w i) largest) (each i h));
        postings = leb-true _ _ (and_right a (leb (posting_count w) most) (and_left (a && leb (posting_count w) most) (leb (total w) (length w)) head));
      }

  -- and passes with any other limits that it lies inside of
  pub within_other : (largest' most' : ℕ) → Inside largest' most' w → good_within largest' most' w ≡ true
  unfolding good_within
  within_other largest' most' o =
      let a = leb head_width (length w) && leb (name_count w) most_names in
      let c = leb (posting_count w) most in
      let d = leb (total w) (length w) in
      and_both _ _
      (and_both _ _
      (and_both _ _
      (and_both _ _ (and_both _ _ (and_left a c (and_left (a && c) d head)) (le-leb (posting_count w) most' o.postings)) (and_right (a && c) d head))
      (and_both _ _
      (all_of (name_count w) (name_within largest' w) (λ i h.
      and_both _ _
      (and_left (leb (name_id w i) largest_id && leb least_size (name_size w i)) (leb (name_size w i) largest) (each i h))
      (le-leb (name_size w i) largest' (o.sizes i h))))
      ids))
      rows)
      lists
