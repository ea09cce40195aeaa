-- Laws of a good index that the layers above cite: its names, its rows' lists, and what is not looked at.
-- Assumes nothing.
use mathlib.Core.Path.{◌≡◌, sym, ap, subst, ◌∙◌}
use mathlib.Core.Bool.{true, false, ◌&&◌}
use mathlib.Core.List.{List}
use Prim.Native.Nat.{ℕ, ◌+◌, ◌≤◌, ◌<◌}
use native.Mathlib.Nat.{min-le_right}
use native.Mathlib.Omega.{arith}
use lib.ListN.{length, take, replicate, length-take, length-replicate, get_or-replicate}
use lib.Seq.{length-take-le}
use lib.Dec.{eqb}
use borrow.Author.Tests.{eqb-true}
use Rattle.laws.specs.Lists.{member, Ascending}
use Rattle.laws.proofs.Below.{and_left, and_right, any_at}
use Rattle.laws.proofs.Tests.{same_test, test_fails}
use Rattle.laws.proofs.Ascending.{rises, rises_apart, ascending_next}
use Rattle.laws.proofs.Members.{member_place}
use Rattle.binary_search.specs.declared.Seat.TheVariants.{At}
use Rattle.binary_search.specs.Seats.{seat_of}
use Rattle.names.specs.Features.{most_features}
use Rattle.words.specs.Words.{head_width, name_count, row_count, posting_count, name_id, name_size, row_size, row_place, row_length, posting, list_at, total}
use Rattle.index.specs.Good.{most_names, most_postings, largest_id, least_size, ids_in, is_name, Good, head_good, names_good, rows_good, lists_good, good_of}
use Rattle.index.specs.Check.{Named}
use Rattle.index.proofs.Total.{total_same, total_good}
use Rattle.index.proofs.Facts.{Whole, good_facts, length_list, list_get_d}
use Rattle.index.proofs.Names.{seat_of_name}

-- ---- the head

-- at most the most names and postings, and all of it within the slice
pub good_names_most : (w : List ℕ) → Good w → name_count w ≤ most_names
good_names_most w g = (good_facts w g).head.names

pub good_postings_most : (w : List ℕ) → Good w → posting_count w ≤ most_postings
good_postings_most w g = (good_facts w g).head.postings

pub good_three : (w : List ℕ) → Good w → head_width ≤ length w
good_three w g = (good_facts w g).head.three

pub good_within_lem : (w : List ℕ) → Good w → total w ≤ length w
good_within_lem w g = (good_facts w g).head.within

-- ---- the names

pub good_ids : (w : List ℕ) → Good w → (i j : ℕ) → i < j → j < name_count w → name_id w i < name_id w j
good_ids w g = rises (name_count w) (name_id w) (good_facts w g).names.next

-- a name has one place
pub good_ids_apart : (w : List ℕ) → Good w → (i j : ℕ) → i < name_count w → j < name_count w → name_id w i ≡ name_id w j → i ≡ j
good_ids_apart w g = rises_apart (name_count w) (name_id w) (good_ids w g)

pub good_name_within : (w : List ℕ) → Good w → (i : ℕ) → i < name_count w
    → (name_id w i ≤ largest_id) × (least_size ≤ name_size w i) × (name_size w i ≤ most_features)
good_name_within w g i l = let n = (good_facts w g).names in (n.id i l, n.least i l, n.most i l)

-- its head and its names are good
pub good_named : (w : List ℕ) → Good w → Named w
unfolding good_of
good_named w g =
    let a = and_left (head_good w && names_good w) (rows_good w) (and_left (head_good w && names_good w && rows_good w) (lists_good w) g) in
    record { head = and_left (head_good w) (names_good w) a; names = and_right (head_good w) (names_good w) a }

-- the name at an id's seat has the id
pub good_seat : (w : List ℕ) → Good w → (id i : ℕ) → seat_of (ids_in w) id ≡ At i → (i < name_count w) × (name_id w i ≡ id)
good_seat w g = seat_of_name w (good_named w g)

-- ---- the lists, row by row

is_name_lem : (w : List ℕ) (y x : ℕ) → is_name w y x ≡ true → (i : ℕ) × (i < name_count w) × (name_id w i ≡ x) × (name_size w i ≡ y)
unfolding is_name
is_name_lem w y x t =
    let v = any_at (name_count w) (λ (i : ℕ). eqb (name_id w i) x && eqb (name_size w i) y) t in
    let a = eqb (name_id w v.0) x in
    let b = eqb (name_size w v.0) y in
    (v.0, v.1, eqb-true (name_id w v.0) x (and_left a b v.2), eqb-true (name_size w v.0) y (and_right a b v.2))

module _ (w : List ℕ) (g : Good w) where
  facts : Whole w
  facts = good_facts w g

  length_row : (r : ℕ) → r < row_count w → length (list_at w r) ≡ row_length w r
  length_row r l = length_list w facts.rows r l facts.head.within

  pub row_ascending : (r : ℕ) → r < row_count w → Ascending (list_at w r)
  row_ascending r l =
      ascending_next (list_at w r)
      (λ i m.
      let n = length_row r l in
      let a = list_get_d w r i (omega arith) in
      let b = list_get_d w r (i + 1) (omega arith) in
      let h = facts.lists.next r l i (omega arith) in
      omega arith)

  -- every id of row r's list is a name of the row's size
  pub row_named : (r id : ℕ) → r < row_count w → member id (list_at w r) ≡ true
      → (i : ℕ) × (i < name_count w) × (name_id w i ≡ id) × (name_size w i ≡ row_size w r)
  row_named r id l m =
      let n = length_row r l in
      let p = member_place id (list_at w r) m in
      let h = p.1 in
      let e : posting w (row_place w r + p.0) ≡ id = sym (list_get_d w r p.0 (omega arith)) ∙ p.2 in
      is_name_lem w (row_size w r) id (subst (λ (x : ℕ). is_name w (row_size w r) x ≡ true) e (facts.lists.named r l p.0 (omega arith)))

-- ---- what is not looked at, and what is never good

-- a good index is judged by its words up to the total
pub good_total : (w v : List ℕ) → take (total w) w ≡ take (total w) v → total w ≤ length v → Good w → Good v
good_total w v same long g = total_good w v same long g

-- so words that agree on them have one verdict
pub verdict_total : (w v : List ℕ) → take (total w) w ≡ take (total w) v → total w ≤ length v → good_of v ≡ good_of w
verdict_total w v same long =
    same_test (good_of v) (good_of w)
    (λ g. good_total v w (ap (λ (n : ℕ). take n v) alike ∙ sym same ∙ ap (λ (n : ℕ). take n w) (sym alike)) enough g)
    (good_total w v same long)
  where
    alike : total v ≡ total w
    alike = total_same w v same long

    -- what agrees is as long
    enough : total v ≤ length w
    enough =
        let e = alike in
        let a : length (take (total w) v) ≡ total w = length-take-le (total w) v long in
        let b = ap length same in
        let c = length-take (total w) w in
        omega (arith, min-le_right (total w) (length w))

-- words that are all 4,294,967,295 are not good, however many
pub refused_not_good : (n : ℕ) → good_of (replicate n 4294967295) ≡ false
refused_not_good n =
    let w : List ℕ = replicate n 4294967295 in
    test_fails (good_of w)
    (λ g.
    let h = (good_facts w g).head in
    let three = h.three in
    let names = h.names in
    let long : length w ≡ n = length-replicate n 4294967295 in
    let first : name_count w ≡ 4294967295 = get_or-replicate n 0 4294967295 0 (omega arith) in
    omega arith)
