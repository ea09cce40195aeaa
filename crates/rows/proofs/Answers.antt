-- Laws of a search's answer and of its columns: how many rows it gives, that room for all names is room enough, and the columns' rows as records.
-- Cited by the proof of `fill_columns`.
-- Assumes nothing.
use mathlib.Core.Path.{◌≡◌, refl, sym, ap, subst, ◌∙◌}
use mathlib.Core.Logic.{⊎_elim}
use mathlib.Core.Bool.{Bool, true, false, cond}
use mathlib.Core.List.{List, ◌++◌, map}
use Prim.Native.Nat.{ℕ, ◌≤◌, ◌<◌, min}
use native.Mathlib.Nat.{min-eq_left, min-eq_right, min-le_right}
use native.Mathlib.Omega.{arith}
use lib.ListN.{length, get_or, take, drop, length-append, length-map, get_or-append}
use lib.Seq.{length-take-le}
use lib.Dec.{ltb, eqb}
use borrow.Author.Tests.{le-ltb, ltb-false, eqb-true}
use Rattle.laws.specs.Lists.{tabulate}
use Rattle.laws.proofs.Order.{le_or_lt}
use Rattle.laws.proofs.Images.{get_d_map_lt, tabulate_of}
use Rattle.names.specs.Features.{features_of}
use Rattle.likeness.specs.Terms.{lowest_terms}
use Rattle.words.specs.Words.{name_id, name_size}
use Rattle.index.specs.Good.{most_names, good_of}
use Rattle.index.proofs.Laws.{good_names_most}
use Rattle.sizes.specs.Method.{shared_with, touches_of, answers_of}
use Rattle.search.specs.Answers.{rows_in, refusal_of, search_good_of, search_of, given_by, Columns, room_of, least_for, columns_of, columns_over, places_given, Searched, Answer, Found, Refused}
use Rattle.search.proofs.Outcomes.{admitted}
use Rattle.search.proofs.Listed.{answers_most}
use Rattle.rows.specs.Rows.{row_of, records_of, row_across, Filled}
use Rattle.rows.proofs.Lists.{no_row}

-- ---- how many answers there are

module _ (w : List ℕ) (m p q : ℕ) (query : List ℕ) where
  -- at most as many as a good index has names
  pub answers_few : good_of w ≡ true → length (answers_of w m p q query) ≤ most_names
  answers_few g =
      let a = answers_most w m p q query in
      let b = good_names_most w g in
      omega arith

-- ---- the cases of an answer

-- what is not refused before the search has a good index
refusal_good : (s : List ℕ) (m p q : ℕ) (w : List ℕ) → refusal_of s m p q w ≡ 0 → good_of w ≡ true
refusal_good s m p q w e = (admitted s m p q w e).good

module _ (s : List ℕ) (m p q allowance : ℕ) (w : List ℕ) where
  abbrev answers : List ℕ
  answers = answers_of w m p q (features_of s)

  -- an answer has as many rows as it gives names, and there is room for them
  abbrev pub Outcome : ℕ → Answer → Type 0
  Outcome room r = (rows_in r ≡ length (given_by r answers)) × (rows_in r ≤ room) × (rows_in r ≤ most_names)

  refused_outcome : (room number touches : ℕ) → Outcome room (Refused number touches)
  unfolding given_by
  refused_outcome room number touches = (refl, omega arith, omega arith)

  good_outcome : (room : ℕ) → good_of w ≡ true → Outcome room (search_good_of s m p q allowance w room)
  unfolding search_good_of given_by
  good_outcome room g = by_tests (ltb allowance (touches_of w m p q (features_of s))) (ltb room (length answers)) refl
    where
      by_tests : (a b : Bool) → ltb room (length answers) ≡ b
          → Outcome room (cond a (Refused 7 allowance) (cond b (Refused 8 (touches_of w m p q (features_of s))) (Found (length answers) (touches_of w m p q (features_of s)) (lowest_terms p q).p (lowest_terms p q).q)))
      by_tests true b e = refused_outcome room 7 allowance
      by_tests false true e = refused_outcome room 8 (touches_of w m p q (features_of s))
      by_tests false false e = (refl, ltb-false room (length answers) e, answers_few w m p q (features_of s) g)

  pub outcome : (room : ℕ) → Outcome room (search_of s m p q allowance w room)
  unfolding search_of
  outcome room = by_refusal (eqb (refusal_of s m p q w) 0) refl
    where
      by_refusal : (b : Bool) → eqb (refusal_of s m p q w) 0 ≡ b → Outcome room (cond b (search_good_of s m p q allowance w room) (Refused (refusal_of s m p q w) 0))
      by_refusal true e = good_outcome room (refusal_good s m p q w (eqb-true (refusal_of s m p q w) 0 e))
      by_refusal false e = refused_outcome room (refusal_of s m p q w) 0

  -- room for all names is room enough
  same_test : (room n : ℕ) → n ≤ most_names → ltb (min room most_names) n ≡ ltb room n
  same_test room n h =
      ⊎_elim
      (λ (a : most_names ≤ room).
      let b : n ≤ room = omega arith in
      ap (λ (k : ℕ). ltb k n) (min-eq_right a) ∙ le-ltb most_names n h ∙ sym (le-ltb room n b))
      (λ (a : room < most_names). let b : room ≤ most_names = omega arith in ap (λ (k : ℕ). ltb k n) (min-eq_left b))
      (le_or_lt most_names room)

  good_room : (room : ℕ) → good_of w ≡ true → search_good_of s m p q allowance w (min room most_names) ≡ search_good_of s m p q allowance w room
  unfolding search_good_of
  good_room room g =
      ap (λ (b : Bool). cond (ltb allowance (touches_of w m p q (features_of s))) (Refused 7 allowance)
      (cond b (Refused 8 (touches_of w m p q (features_of s))) (Found (length answers) (touches_of w m p q (features_of s)) (lowest_terms p q).p (lowest_terms p q).q)))
      (same_test room (length answers) (answers_few w m p q (features_of s) g))

  pub room_enough : (room : ℕ) → search_of s m p q allowance w (min room most_names) ≡ search_of s m p q allowance w room
  unfolding search_of
  room_enough room = by_refusal (eqb (refusal_of s m p q w) 0) refl
    where
      refused : Answer
      refused = Refused (refusal_of s m p q w) 0

      by_refusal : (b : Bool) → eqb (refusal_of s m p q w) 0 ≡ b
          → cond b (search_good_of s m p q allowance w (min room most_names)) refused ≡ cond b (search_good_of s m p q allowance w room) refused
      by_refusal true e = good_room room (refusal_good s m p q w (eqb-true (refusal_of s m p q w) 0 e))
      by_refusal false e = refl

-- ---- the columns' rows

-- columns with what stands after them
abbrev pub columns_then : Columns → Columns → Columns
columns_then c x = record { ids = c.ids ++ x.ids; shared = c.shared ++ x.shared; sizes = c.sizes ++ x.sizes; least = c.least ++ x.least }

-- an entry of a column that starts with the places' values
column_entry : (f : ℕ → ℕ) (places l rest : List ℕ) (k : ℕ) → k < length places → get_or ((map f places ++ l) ++ rest) k 0 ≡ f (get_or places k 0)
column_entry f places l rest k h =
    let e : length (map f places) ≡ length places = length-map places f in
    let a = length-append (map f places) l in
    get_or-append (map f places ++ l) rest 0 k (let b : k < length (map f places ++ l) = omega arith in b)
    ∙ get_or-append (map f places) l 0 k (let b : k < length (map f places) = omega arith in b)
    ∙ get_d_map_lt f places k 0 0 h

-- columns that start with the places' rows have those rows
pub columns_rows : (w : List ℕ) (m p q : ℕ) (query places : List ℕ) (c x : Columns)
    → tabulate (row_across (columns_then (columns_over (columns_of w m p q query places) c) x)) (length places) ≡ records_of w m p q query places
columns_rows w m p q query places c x =
    sym (tabulate_of (row_across filled) (length places) no_row (records_of w m p q query places) (length-map places (row_of w m p q query))
    (λ k h. get_d_map_lt (row_of w m p q query) places k 0 no_row h ∙ sym (same k h)))
  where
    filled : Columns
    filled = columns_then (columns_over (columns_of w m p q query places) c) x

    same : (k : ℕ) → k < length places → row_across filled k ≡ row_of w m p q query (get_or places k 0)
    same k h = λ t. record {
      id = column_entry (name_id w) places (drop (length (map (name_id w) places)) c.ids) x.ids k h t;
      shared = column_entry (shared_with w query) places (drop (length (map (shared_with w query) places)) c.shared) x.shared k h t;
      size = column_entry (name_size w) places (drop (length (map (name_size w) places)) c.sizes) x.sizes k h t;
      least = column_entry (least_for w m p q query) places (drop (length (map (least_for w m p q query) places)) c.least) x.least k h t;
    }

-- ---- what `fill_columns` leaves

-- a column cut at the room, or at a number within the column where that is less, is as long as the cut
pub length_cut : (n room most : ℕ) (l : List ℕ) → n ≡ min room most → most ≤ length l → length (take n l) ≡ n
length_cut n room most l e f = let h = min-le_right room most in length-take-le n l (let g : n ≤ length l = omega arith in g)

pub cut_counted : (n room most : ℕ) (l : List ℕ) → n ≡ min room most → most ≤ length l → n ≡ length (take n l)
cut_counted n room most l e f = sym (length_cut n room most l e f)

room_cut : (c : Columns) (n : ℕ) → length c.ids ≡ n → length c.shared ≡ n → length c.sizes ≡ n → length c.least ≡ n → room_of c ≡ n
room_cut c n e f g i =
    let h : n ≤ n = omega arith in
    (λ t. min (e t) (min (f t) (min (g t) (i t)))) ∙ ap (λ (k : ℕ). min n (min n k)) (min-eq_left h) ∙ ap (λ (k : ℕ). min n k) (min-eq_left h) ∙ min-eq_left h

-- a search of columns that are cut at the room, with whatever stands after the cuts
pub filled : (s : List ℕ) (m p q allowance : ℕ) (w : List ℕ) (room n : ℕ) (r : Answer) (before after rest : Columns) → n ≡ min room most_names
    → Searched s m p q allowance w before after r → length before.ids ≡ n → length before.shared ≡ n → length before.sizes ≡ n → length before.least ≡ n
    → Filled s m p q allowance w room r (row_across (columns_then after rest))
filled s m p q allowance w room n r before after rest cut e li lh lz ll = record {
  answer = right;
  rows =
      (λ t. tabulate (row_across (columns_then (e.columns t) rest)) (counted t))
      ∙ columns_rows w m p q (features_of s) (places_given s m p q allowance w (room_of before)) before rest
      ∙ ap (λ (x : Answer). records_of w m p q (features_of s) (given_by x (answers_of w m p q (features_of s)))) same;
  few = comes.2;
  within = comes.1;
}
  where
    same : search_of s m p q allowance w (room_of before) ≡ search_of s m p q allowance w room
    same = ap (search_of s m p q allowance w) (room_cut before n li lh lz ll ∙ cut) ∙ room_enough s m p q allowance w room

    right : r ≡ search_of s m p q allowance w room
    right = e.answer ∙ same

    comes : Outcome s m p q allowance w room r
    comes = subst (Outcome s m p q allowance w room) (sym right) (outcome s m p q allowance w room)

    counted : rows_in r ≡ length (places_given s m p q allowance w (room_of before))
    counted = comes.0 ∙ ap (λ (x : Answer). length (given_by x (answers_of w m p q (features_of s)))) e.answer
