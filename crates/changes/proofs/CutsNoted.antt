-- The places that are taken out with a name, noted row by row: one row more, how many there are, and which rows of a good index have any.
-- Cited by whoever withdraws a name in place.
-- Assumes nothing.
use mathlib.Core.Path.{◌≡◌, refl, sym, ap, ap₂, ◌∙◌}
use mathlib.Core.Bool.{Bool, true, false, cond}
use mathlib.Core.List.{List, [], ◌∷◌, ◌++◌, map, map-append, append_assoc, append-nil}
use Prim.Native.Nat.{ℕ, ◌+◌, ◌*◌, ◌≤◌, ◌<◌}
use native.Mathlib.Nat.{add-zero}
use native.Mathlib.Numerals.{add-one}
use native.Mathlib.Omega.{arith}
use lib.ListN.{length, get_or, take, drop, set, length-append, length-map}
use lib.Seq.{take-length, drop-length, take-suc, drop-cons, length-take-le}
use lib.Dec.{eqb}
use borrow.Author.Tests.{eq-eqb, ne_eqb}
use Rattle.laws.specs.Lists.{member, Ascending, count_of}
use Rattle.laws.specs.Each.{Each}
use Rattle.laws.proofs.Images.{count_tabulate}
use Rattle.laws.proofs.Members.{each_first, each_rest}
use Rattle.names.specs.Features.{most_features}
use Rattle.words.specs.Words.{name_count, name_id, name_size, row_count, row_width, row_size}
use Rattle.index.specs.Good.{lists_with, Good}
use Rattle.lists.proofs.Laws.{holder_size}
use Rattle.index_writer.specs.Built.{Row, no_row, lists_of, RowFit}
use Rattle.index_writer.specs.Contents.{row_in, all_rows_in, Narrow}
use Rattle.index_writer.proofs.Plain.{good_plain}
use Rattle.index_writer.proofs.Holders.{rows_fit}
use Rattle.binary_search.specs.Seats.{place_of}
use Rattle.changes.specs.Others.{others_of}
use Rattle.changes.specs.Cuts.{RowsAs, thin_row, thin_to, cuts_of, empty_words, empty_cuts, id_place, id_cuts, withdraw_cuts}
use Rattle.changes.proofs.Lists.{map_take, others_none}
use Rattle.changes.proofs.Placed.{count_at, count_set}
use Rattle.changes.proofs.Taken.{length_others}
use Rattle.changes.proofs.CutsWithdrawn.{cuts_few, cuts_one, empty_append, id_append, length_id, length_withdraw}

-- ---- row by row

-- no row yet
pub empty_nil : (id : ℕ) (rows : List Row) → empty_cuts (map (thin_row id) (take 0 rows)) ≡ []
unfolding cuts_of
empty_nil id rows = refl

pub id_nil : (id : ℕ) (rows : List Row) → id_cuts id (take 0 rows) ≡ []
unfolding cuts_of
id_nil id rows = refl

-- all of them
pub thin_all : (id : ℕ) (rows : List Row) → thin_to id (length rows) rows ≡ map (thin_row id) rows
thin_all id rows = ap₂ (λ (a b : List Row). map (thin_row id) a ++ b) (take-length rows) (drop-length rows) ∙ append-nil (map (thin_row id) rows)

-- row k of rows of which the first k are without the id
module _ (id : ℕ) (rows : List Row) (k : ℕ) (h : k < length rows) where
  abbrev row : Row
  row = get_or rows k no_row

  one_more : take (k + 1) rows ≡ take k rows ++ (row ∷ [])
  one_more = ap (λ (n : ℕ). take n rows) (add-one k) ∙ take-suc rows k no_row h

  abbrev before : List Row
  before = map (thin_row id) (take k rows)

  thin_more : map (thin_row id) (take (k + 1) rows) ≡ before ++ (thin_row id row ∷ [])
  thin_more = ap (map (thin_row id)) one_more ∙ map-append (thin_row id) (take k rows) (row ∷ [])

  length_before : length before ≡ k
  length_before = length-map (take k rows) (thin_row id) ∙ length-take-le k rows (omega arith)

  now_around : thin_to id k rows ≡ before ++ row ∷ drop (k + 1) rows
  now_around = ap (λ (l : List Row). before ++ l) (drop-cons rows k no_row h ∙ ap (λ (n : ℕ). row ∷ drop n rows) (sym (add-one k)))

  next_around : thin_to id (k + 1) rows ≡ before ++ thin_row id row ∷ drop (k + 1) rows
  next_around = ap (λ (l : List Row). l ++ drop (k + 1) rows) thin_more ∙ append_assoc before (thin_row id row ∷ []) (drop (k + 1) rows)

  -- the words
  module _ (ws : List ℕ) (f : RowsAs (thin_to id k rows) ws) where
    around : RowsAs (before ++ row ∷ drop (k + 1) rows) ws
    around = rw now_around at f

    pub thin_count : get_or ws (row_width * k + 3) 0 ≡ length row.list
    thin_count = rw length_before at (count_at before row (drop (k + 1) rows) ws around)

    -- they stay where the id is not in the list
    pub thin_passed : member id row.list ≡ false → RowsAs (thin_to id (k + 1) rows) ws
    thin_passed n =
        let e : thin_row id row ≡ row = ap (λ (l : List ℕ). record { key = row.key; list = l }) (others_none id row.list n) in
        rw (next_around, e) around

    -- the count is one less where it is
    pub thin_met : member id row.list ≡ true → Ascending row.list → (v : ℕ) → v + 1 ≡ length row.list
        → RowsAs (thin_to id (k + 1) rows) (set ws (row_width * k + 3) v)
    thin_met m up v e =
        let n = length_others id row.list up m in
        let q : v ≡ length (others_of id row.list) = omega arith in
        rw (next_around, q) (rw length_before at (count_set before row (drop (k + 1) rows) ws around (others_of id row.list)))

  -- the places of the words of rows that are then empty: no more, or this row's
  empty_step : empty_cuts (map (thin_row id) (take (k + 1) rows)) ≡ empty_cuts before ++ map (λ (p : ℕ). row_width * k + p) (empty_words (thin_row id row))
  empty_step =
      ap empty_cuts thin_more
      ∙ empty_append before (thin_row id row ∷ [])
      ∙ ap₂ (λ (n : ℕ) (l : List ℕ). empty_cuts before ++ map (λ (p : ℕ). row_width * n + p) l) length_before (cuts_one empty_words (λ (r : Row). row_width) (thin_row id row))

  pub empty_passed : 0 < length (others_of id row.list) → empty_cuts (map (thin_row id) (take (k + 1) rows)) ≡ empty_cuts before
  empty_passed n =
      empty_step
      ∙ ap (λ (b : Bool). empty_cuts before ++ map (λ (p : ℕ). row_width * k + p) (cond b (0 ∷ 1 ∷ 2 ∷ 3 ∷ []) [])) (ne_eqb (length (others_of id row.list)) 0 (λ e. omega arith))
      ∙ append-nil (empty_cuts before)

  pub empty_met : length (others_of id row.list) ≡ 0
      → empty_cuts (map (thin_row id) (take (k + 1) rows))
      ≡ empty_cuts before ++ ((row_width * k) ∷ (row_width * k + 1) ∷ (row_width * k + 2) ∷ (row_width * k + 3) ∷ [])
  empty_met e =
      empty_step
      ∙ ap (λ (b : Bool). empty_cuts before ++ map (λ (p : ℕ). row_width * k + p) (cond b (0 ∷ 1 ∷ 2 ∷ 3 ∷ []) [])) (eq-eqb (length (others_of id row.list)) 0 e)
      ∙ ap (λ (n : ℕ). empty_cuts before ++ (n ∷ (row_width * k + 1) ∷ (row_width * k + 2) ∷ (row_width * k + 3) ∷ [])) (add-zero (row_width * k))

  -- the places of the id: no more, or that in this row's list
  id_step : id_cuts id (take (k + 1) rows) ≡ id_cuts id (take k rows) ++ map (λ (p : ℕ). length (lists_of (take k rows)) + p) (id_place id row)
  id_step =
      ap (id_cuts id) one_more
      ∙ id_append id (take k rows) (row ∷ [])
      ∙ ap (λ (l : List ℕ). id_cuts id (take k rows) ++ map (λ (p : ℕ). length (lists_of (take k rows)) + p) l) (cuts_one (id_place id) (λ (r : Row). length r.list) row)

  pub id_passed : member id row.list ≡ false → id_cuts id (take (k + 1) rows) ≡ id_cuts id (take k rows)
  id_passed n =
      id_step
      ∙ ap (λ (b : Bool). id_cuts id (take k rows) ++ map (λ (p : ℕ). length (lists_of (take k rows)) + p) (cond b (place_of id row.list ∷ []) [])) n
      ∙ append-nil (id_cuts id (take k rows))

  pub id_met : member id row.list ≡ true
      → id_cuts id (take (k + 1) rows) ≡ id_cuts id (take k rows) ++ ((length (lists_of (take k rows)) + place_of id row.list) ∷ [])
  id_met m =
      id_step
      ∙ ap (λ (b : Bool). id_cuts id (take k rows) ++ map (λ (p : ℕ). length (lists_of (take k rows)) + p) (cond b (place_of id row.list ∷ []) [])) m

-- ---- how many places

-- no more for the first rows
pub empty_few : (id : ℕ) (rows : List Row) (k : ℕ) → length (empty_cuts (map (thin_row id) (take k rows))) ≤ length (empty_cuts (map (thin_row id) rows))
empty_few id rows k = rw (map_take (thin_row id) k rows) (cuts_few empty_words (λ (r : Row). row_width) (map (thin_row id) rows) k)

pub id_few : (id : ℕ) (rows : List Row) (k : ℕ) → length (id_cuts id (take k rows)) ≤ length (id_cuts id rows)
id_few id rows k = cuts_few (id_place id) (λ (r : Row). length r.list) rows k

-- a row that is then empty held the id
pub empty_most : (id : ℕ) (rows : List Row) → Each RowFit rows → length (empty_cuts (map (thin_row id) rows)) ≤ row_width * count_of (λ (r : Row). member id r.list) rows
unfolding cuts_of count_of
empty_most id [] f = omega arith
empty_most id (r ∷ rs) f =
    let later = empty_cuts (map (thin_row id) rs) in
    let a = length-append (empty_words (thin_row id r)) (map (λ (p : ℕ). row_width + p) later) in
    let b = length-map later (λ (p : ℕ). row_width + p) in
    let c = empty_most id rs (each_rest RowFit r rs f) in
    let d = by_test (member id r.list) refl in
    omega arith
  where
    at_most : (b : Bool) → length {A = ℕ} (cond b (0 ∷ 1 ∷ 2 ∷ 3 ∷ []) []) ≤ row_width
    at_most true = omega arith
    at_most false = omega arith

    by_test : (b : Bool) → member id r.list ≡ b → length (empty_words (thin_row id r)) ≤ row_width * cond b 1 0
    by_test true m = at_most (eqb (length (others_of id r.list)) 0)
    by_test false m =
        let e = ap length (others_none id r.list m) in
        let s = (each_first RowFit r rs f).some in
        rw (ne_eqb (length (others_of id r.list)) 0 (λ q. omega arith)) (omega arith)

-- ---- in a good index

module _ (w : List ℕ) (g : Good w) (i id : ℕ) (name : i < name_count w) (e : name_id w i ≡ id) where
  -- a row that holds the id of a name has that name's size
  pub holds_size : (r : ℕ) → r < row_count w → member id (row_in w r).list ≡ true → row_size w r ≡ name_size w i
  holds_size r b m = holder_size w g i name r b (rw e m)

  -- as many rows hold it as the name's size
  pub holders : count_of (λ (r : Row). member id r.list) (all_rows_in w) ≡ name_size w i
  unfolding all_rows_in lists_with
  holders = count_tabulate (λ (r : Row). member id r.list) (row_in w) (row_count w) ∙ (rw (← e) ((good_plain w g).held i name))

  -- so there are few places to take out
  pub withdraw_few : Narrow w → (n place : ℕ) → length (withdraw_cuts n place id (all_rows_in w)) ≤ 1 + (row_width + 1) * most_features
  withdraw_few narrow n place =
      let a = length_withdraw n place id (all_rows_in w) in
      let b = length_id id (all_rows_in w) in
      let c = empty_most id (all_rows_in w) (rows_fit w g narrow).each in
      let d = holders in
      let f = (good_plain w g).most i name in
      omega arith
