-- The words of an index with one name less: what stays of the words where the places of specs/Cuts.antt are taken out.
-- How the places are noted row by row is in CutsNoted.antt. Cited by whoever withdraws a name in place.
-- Assumes nothing.
use mathlib.Core.Path.{◌≡◌, refl, sym, ap, ap₂, ◌∙◌}
use mathlib.Core.Bool.{Bool, true, false, cond, not}
use mathlib.Core.List.{List, [], ◌∷◌, ◌++◌, map, map-id, append_assoc, append-nil}
use Prim.Native.Nat.{ℕ, suc, ◌+◌, ◌*◌, ◌/◌, ◌%◌, ◌≤◌, ◌<◌}
use native.Mathlib.Nat.{zero-add}
use native.Mathlib.Omega.{arith}
use lib.ListN.{length, get_or, take, drop, take-append-drop, length-append, length-map}
use lib.Dec.{eqb}
use borrow.Author.Tests.{ne_eqb}
use Rattle.laws.specs.Lists.{member, AllAbove, Ascending, count_of, sum_of}
use Rattle.laws.specs.Each.{Each}
use Rattle.laws.proofs.Filter.{filter_nil, filter_append}
use Rattle.laws.proofs.Members.{each_nil, each_cons, each_first, each_rest, each_of}
use Rattle.laws.proofs.Sort.{ascending_nil, ascending_one}
use Rattle.splicing.specs.Splice.{taken_at, take_out}
use Rattle.splicing.proofs.Laws.{length_take_out, take_out_parts}
use Rattle.words.specs.Words.{head_width, name_start, row_width, feature_span}
use Rattle.index_writer.specs.Built.{Row, no_row, lists_of, row_words, words_from, RowFit}
use Rattle.index_writer.proofs.Read.{length_row_words}
use Rattle.binary_search.specs.Seats.{place_of}
use Rattle.changes.specs.Others.{others_of}
use Rattle.changes.specs.Rows.{kept_row, without_postings}
use Rattle.changes.specs.Cuts.{RowsAs, thin_row, cuts_of, empty_words, empty_cuts, id_place, id_cuts, withdraw_cuts, settled}
use Rattle.changes.proofs.Withdrawn.{lists_withdrawn}
use Rattle.changes.proofs.Placed.{rows_as_words, rows_as_length, short_same, settled_words}
use Rattle.changes.proofs.Taken.{ascending_parts, below_parts, shift_parts, others_taken, own_place}

-- ---- places in parts that stand end to end

module _ (own : Row → List ℕ) (width : Row → ℕ) where
  abbrev cuts : List Row → List ℕ
  cuts rows = cuts_of own width rows

  -- how long the parts are together
  abbrev widths : List Row → ℕ
  widths rows = sum_of (map width rows)

  -- the places in a row's own part ascend, and are in it
  abbrev Inside : Row → Type 0
  Inside r = Ascending (own r) × Each (λ (p : ℕ). p < width r) (own r)

  cuts_append : (a b : List Row) → cuts (a ++ b) ≡ cuts a ++ map (λ (p : ℕ). widths a + p) (cuts b)
  unfolding cuts_of sum_of
  cuts_append [] b = sym (map-id (cuts b)) ∙ (λ i. map (λ (p : ℕ). sym (zero-add p) i) (cuts b))
  cuts_append (r ∷ a) b =
      ap (λ (l : List ℕ). own r ++ map (λ (p : ℕ). width r + p) l) (cuts_append a b)
      ∙ ap (λ (l : List ℕ). own r ++ l) (shift_parts (width r) (widths a) (cuts a) (cuts b))
      ∙ sym (append_assoc (own r) (map (λ (p : ℕ). width r + p) (cuts a)) (map (λ (p : ℕ). widths (r ∷ a) + p) (cuts b)))

  -- the first rows have no more
  pub cuts_few : (rows : List Row) (k : ℕ) → length (cuts (take k rows)) ≤ length (cuts rows)
  cuts_few rows k =
      let e = ap (λ (l : List Row). length (cuts l)) (take-append-drop k rows) in
      let a = ap length (cuts_append (take k rows) (drop k rows)) in
      let b = length-append (cuts (take k rows)) (map (λ (p : ℕ). widths (take k rows) + p) (cuts (drop k rows))) in
      omega arith

  pub cuts_one : (r : Row) → cuts (r ∷ []) ≡ own r
  unfolding cuts_of
  cuts_one r = append-nil (own r)

  ascending_cuts : (rows : List Row) → Each Inside rows → Ascending (cuts rows)
  unfolding cuts_of
  ascending_cuts [] h = ascending_nil
  ascending_cuts (r ∷ rs) h =
      let f = each_first Inside r rs h in
      ascending_parts (width r) (own r) (cuts rs) f.1 f.0 (ascending_cuts rs (each_rest Inside r rs h))

  cuts_below : (rows : List Row) → Each Inside rows → Each (λ (p : ℕ). p < widths rows) (cuts rows)
  unfolding cuts_of sum_of
  cuts_below [] h = each_nil (λ (p : ℕ). p < 0)
  cuts_below (r ∷ rs) h = below_parts (width r) (own r) (cuts rs) (each_first Inside r rs h).1 (widths rs) (cuts_below rs (each_rest Inside r rs h))

  -- taken out part by part
  cuts_taken : (r : Row) (rs : List Row) (part rest : List ℕ) → Inside r → length part ≡ width r
      → take_out (cuts (r ∷ rs)) (part ++ rest) ≡ take_out (own r) part ++ take_out (cuts rs) rest
  unfolding cuts_of
  cuts_taken r rs part rest f e =
      ap (λ (n : ℕ). take_out (own r ++ map (λ (p : ℕ). n + p) (cuts rs)) (part ++ rest)) (sym e)
      ∙ take_out_parts (own r) (cuts rs) part rest f.0 (rw e f.1)

-- ---- the words of empty rows

empty_inside : (r : Row) → Inside empty_words (λ (s : Row). row_width) r
unfolding Ascending AllAbove Each
empty_inside r = by_test (eqb (length r.list) 0)
  where
    by_test : (b : Bool) → Ascending (cond b (0 ∷ 1 ∷ 2 ∷ 3 ∷ []) []) × Each (λ (p : ℕ). p < row_width) (cond b (0 ∷ 1 ∷ 2 ∷ 3 ∷ []) [])
    by_test true = omega arith
    by_test false = omega arith

all_inside : (rows : List Row) → Each (Inside empty_words (λ (s : Row). row_width)) rows
all_inside rows = each_of (Inside empty_words (λ (s : Row). row_width)) rows no_row (λ i h. empty_inside (get_or rows i no_row))

empty_widths : (rows : List Row) → sum_of (map (λ (r : Row). row_width) rows) ≡ row_width * length rows
unfolding sum_of
empty_widths [] = refl
empty_widths (r ∷ rs) = let h = empty_widths rs in omega arith

pub ascending_empty : (rows : List Row) → Ascending (empty_cuts rows)
ascending_empty rows = ascending_cuts empty_words (λ (r : Row). row_width) rows (all_inside rows)

pub empty_below : (rows : List Row) → Each (λ (p : ℕ). p < row_width * length rows) (empty_cuts rows)
empty_below rows = rw (← empty_widths rows) (cuts_below empty_words (λ (r : Row). row_width) rows (all_inside rows))

pub empty_append : (a b : List Row) → empty_cuts (a ++ b) ≡ empty_cuts a ++ map (λ (p : ℕ). row_width * length a + p) (empty_cuts b)
empty_append a b =
    cuts_append empty_words (λ (r : Row). row_width) a b
    ∙ ap (λ (n : ℕ). empty_cuts a ++ map (λ (p : ℕ). n + p) (empty_cuts b)) (empty_widths a)

-- without the words of the rows that are then empty, the words are those of the rows with one name less
pub rows_as_taken : (id : ℕ) (rows : List Row) (ws : List ℕ) → RowsAs (map (thin_row id) rows) ws
    → RowsAs (without_postings id rows) (take_out (empty_cuts (map (thin_row id) rows)) ws)
unfolding RowsAs without_postings kept_row cuts_of take_out
rows_as_taken id [] ws a = a
rows_as_taken id (r ∷ rs) ws a = rw step (by_list (others_of id r.list) (rows_as_taken id rs a.1 a.3))
  where
    four : List ℕ → List ℕ
    four l = (r.key / feature_span) ∷ (r.key % feature_span) ∷ a.0 ∷ length l ∷ []

    later : List ℕ
    later = take_out (empty_cuts (map (thin_row id) rs)) a.1

    step : take_out (empty_cuts (map (thin_row id) (r ∷ rs))) ws ≡ take_out (empty_words (thin_row id r)) (four (others_of id r.list)) ++ later
    step =
        ap (take_out (empty_cuts (map (thin_row id) (r ∷ rs)))) a.2
        ∙ cuts_taken empty_words (λ (s : Row). row_width) (thin_row id r) (map (thin_row id) rs) (four (others_of id r.list)) a.1 (empty_inside (thin_row id r)) refl

    by_list : (l : List ℕ) → RowsAs (without_postings id rs) later
        → RowsAs (kept_row r.key l (without_postings id rs)) (take_out (cond (eqb (length l) 0) (0 ∷ 1 ∷ 2 ∷ 3 ∷ []) []) (four l) ++ later)
    by_list [] h = h
    by_list (x ∷ l) h = (a.0, later, rw (ne_eqb (suc (length l)) 0 (λ e. omega arith)), h)

-- how many words are taken out
pub length_empty : (id : ℕ) (rows : List Row)
    → length (empty_cuts (map (thin_row id) rows)) + row_width * length (without_postings id rows) ≡ row_width * length rows
length_empty id rows =
    let thin = map (thin_row id) rows in
    let ws = row_words 0 thin in
    let n = length_row_words 0 thin in
    let m = length-map rows (thin_row id) in
    let b = empty_below thin in
    let e = length_take_out (empty_cuts thin) ws (ascending_empty thin) (rw n b) in
    let f = rows_as_length (without_postings id rows) (take_out (empty_cuts thin) ws) (rows_as_taken id rows ws (rows_as_words 0 thin)) in
    omega arith

-- ---- the places of the id

id_inside : (id : ℕ) (rows : List Row) → Each RowFit rows → Each (Inside (id_place id) (λ (r : Row). length r.list)) rows
unfolding Each
id_inside id [] f = tt
id_inside id (r ∷ rs) f = (own_place id r.list f.0.up, id_inside id rs f.1)

id_widths : (rows : List Row) → sum_of (map (λ (r : Row). length r.list) rows) ≡ length (lists_of rows)
unfolding sum_of lists_of
id_widths [] = refl
id_widths (r ∷ rs) = let h = id_widths rs in let e = length-append r.list (lists_of rs) in omega arith

pub id_append : (id : ℕ) (a b : List Row) → id_cuts id (a ++ b) ≡ id_cuts id a ++ map (λ (p : ℕ). length (lists_of a) + p) (id_cuts id b)
id_append id a b =
    cuts_append (id_place id) (λ (r : Row). length r.list) a b
    ∙ ap (λ (n : ℕ). id_cuts id a ++ map (λ (p : ℕ). n + p) (id_cuts id b)) (id_widths a)

-- one for each row that holds it
pub length_id : (id : ℕ) (rows : List Row) → length (id_cuts id rows) ≡ count_of (λ (r : Row). member id r.list) rows
unfolding cuts_of count_of
length_id id [] = refl
length_id id (r ∷ rs) =
    length-append (id_place id r) (map (λ (p : ℕ). length r.list + p) (id_cuts id rs))
    ∙ ap₂ ◌+◌ (by_test (member id r.list)) (length-map (id_cuts id rs) (λ (p : ℕ). length r.list + p) ∙ length_id id rs)
  where
    by_test : (b : Bool) → length (cond b (place_of id r.list ∷ []) []) ≡ cond b 1 0
    by_test true = refl
    by_test false = refl

module _ (id : ℕ) (rows : List Row) (fit : Each RowFit rows) where
  pub ascending_id : Ascending (id_cuts id rows)
  ascending_id = ascending_cuts (id_place id) (λ (r : Row). length r.list) rows (id_inside id rows fit)

  pub id_below : Each (λ (p : ℕ). p < length (lists_of rows)) (id_cuts id rows)
  id_below = rw (← id_widths rows) (cuts_below (id_place id) (λ (r : Row). length r.list) rows (id_inside id rows fit))

-- the lists without the id
others_lists : (id : ℕ) (rows : List Row) → Each RowFit rows → others_of id (lists_of rows) ≡ take_out (id_cuts id rows) (lists_of rows)
unfolding lists_of cuts_of take_out
others_lists id [] f = filter_nil (λ (y : ℕ). not (eqb y id))
others_lists id (r ∷ rs) f =
    let up = (each_first RowFit r rs f).up in
    filter_append (λ (y : ℕ). not (eqb y id)) r.list (lists_of rs)
    ∙ ap₂ ◌++◌ (others_taken id r.list up) (others_lists id rs (each_rest RowFit r rs f))
    ∙ sym (cuts_taken (id_place id) (λ (s : Row). length s.list) r rs r.list (lists_of rs) (own_place id r.list up) refl)

pub lists_taken : (id : ℕ) (rows : List Row) → Each RowFit rows → lists_of (without_postings id rows) ≡ take_out (id_cuts id rows) (lists_of rows)
lists_taken id rows f = lists_withdrawn id rows ∙ others_lists id rows f

-- as many fewer as there were places
pub length_lists_taken : (id : ℕ) (rows : List Row) → Each RowFit rows → length (id_cuts id rows) + length (lists_of (without_postings id rows)) ≡ length (lists_of rows)
length_lists_taken id rows f =
    ap (λ (l : List ℕ). length (id_cuts id rows) + length l) (lists_taken id rows f)
    ∙ length_take_out (id_cuts id rows) (lists_of rows) (ascending_id id rows f) (id_below id rows f)

-- ---- the whole

module _ (names : List ℕ) (place id : ℕ) (rows : List Row) (low : place < length names) (fit : Each RowFit rows) where
  abbrev gone : List ℕ
  gone = empty_cuts (map (thin_row id) rows)

  abbrev tail : List ℕ
  tail = gone ++ map (λ (p : ℕ). row_width * length rows + p) (id_cuts id rows)

  -- the name's word, and places after the names
  nested : withdraw_cuts (length names) place id rows ≡ (name_start place ∷ []) ++ map (λ (p : ℕ). name_start (length names) + p) tail
  nested = ap (λ (l : List ℕ). name_start place ∷ l) (sym (shift_parts (name_start (length names)) (row_width * length rows) gone (id_cuts id rows)))

  gone_below : Each (λ (p : ℕ). p < row_width * length rows) gone
  gone_below = rw (← length-map rows (thin_row id)) (empty_below (map (thin_row id) rows))

  first_below : Each (λ (p : ℕ). p < name_start (length names)) (name_start place ∷ [])
  first_below = each_cons (λ (p : ℕ). p < name_start (length names)) (name_start place) [] (omega arith) (each_nil (λ (p : ℕ). p < name_start (length names)))

  pub ascending_withdraw : Ascending (withdraw_cuts (length names) place id rows)
  ascending_withdraw =
      rw nested
      (ascending_parts (name_start (length names)) (name_start place ∷ []) tail first_below (ascending_one (name_start place))
      (ascending_parts (row_width * length rows) gone (id_cuts id rows) gone_below (ascending_empty (map (thin_row id) rows)) (ascending_id id rows fit)))

  pub withdraw_below : Each (λ (p : ℕ). p < head_width + length names + row_width * length rows + length (lists_of rows)) (withdraw_cuts (length names) place id rows)
  withdraw_below =
      let e : head_width + length names + row_width * length rows + length (lists_of rows) ≡ name_start (length names) + (row_width * length rows + length (lists_of rows)) = omega arith in
      rw (nested, e)
      (below_parts (name_start (length names)) (name_start place ∷ []) tail first_below (row_width * length rows + length (lists_of rows))
      (below_parts (row_width * length rows) gone (id_cuts id rows) gone_below (length (lists_of rows)) (id_below id rows fit)))

  pub withdraw_taken : (n d p : ℕ) (ws : List ℕ) → RowsAs (map (thin_row id) rows) ws
      → take_out (withdraw_cuts (length names) place id rows) (n ∷ d ∷ p ∷ (names ++ (ws ++ lists_of rows)))
      ≡ n ∷ d ∷ p ∷ (taken_at place names ++ (take_out gone ws ++ take_out (id_cuts id rows) (lists_of rows)))
  unfolding take_out
  withdraw_taken n d p ws a =
      ap (λ (l : List ℕ). take_out l (head ++ (ws ++ lists_of rows))) nested
      ∙ ap₂ (λ (i j : ℕ). take_out ((name_start place ∷ []) ++ map (λ (q : ℕ). i + q) (gone ++ map (λ (q : ℕ). j + q) (id_cuts id rows))) (head ++ (ws ++ lists_of rows))) names_end rows_end
      ∙ take_out_parts (name_start place ∷ []) (gone ++ map (λ (q : ℕ). length ws + q) (id_cuts id rows)) head (ws ++ lists_of rows) (ascending_one (name_start place)) (rw (← names_end) first_below)
      ∙ ap₂ (λ (i : ℕ) (l : List ℕ). taken_at i head ++ l) three (take_out_parts gone (id_cuts id rows) ws (lists_of rows) (ascending_empty (map (thin_row id) rows)) (rw (← rows_end) gone_below))
    where
      head : List ℕ
      head = n ∷ d ∷ p ∷ names

      names_end : name_start (length names) ≡ length head
      names_end = omega arith

      rows_end : row_width * length rows ≡ length ws
      rows_end = let e = rows_as_length (map (thin_row id) rows) ws a in let m = length-map rows (thin_row id) in omega arith

      three : name_start place ≡ suc (suc (suc place))
      three = omega arith

-- how many places
pub length_withdraw : (n place id : ℕ) (rows : List Row)
    → length (withdraw_cuts n place id rows) ≡ 1 + length (empty_cuts (map (thin_row id) rows)) + length (id_cuts id rows)
length_withdraw n place id rows =
    let e = empty_cuts (map (thin_row id) rows) in
    let f : ℕ → ℕ = λ p. name_start n + p in
    let g : ℕ → ℕ = λ p. name_start n + row_width * length rows + p in
    let a = length-append (map f e) (map g (id_cuts id rows)) in
    let b = length-map e f in
    let c = length-map (id_cuts id rows) g in
    omega arith

-- so what is left, settled, is the index without the name: the words are taken out, and then the rest is worked out anew. `rest` are the words
-- behind the index
pub words_withdrawn_lem : (names : List ℕ) (place id : ℕ) (rows : List Row) → place < length names → Each RowFit rows
    → (n d p size : ℕ) (ws rest : List ℕ) → RowsAs (map (thin_row id) rows) ws
    → settled (length (taken_at place names)) (length (without_postings id rows)) (length (lists_of (without_postings id rows))) size []
    (take_out (withdraw_cuts (length names) place id rows) (n ∷ d ∷ p ∷ (names ++ (ws ++ lists_of rows))) ++ rest)
    ≡ words_from (taken_at place names) (without_postings id rows) ++ rest
words_withdrawn_lem names place id rows low fit n d p size ws rest a =
    ap now (withdraw_taken names place id rows low fit n d p ws a ∙ ap (λ (l : List ℕ). n ∷ d ∷ p ∷ (less ++ (left ++ l))) (sym (lists_taken id rows fit)))
    ∙ ap (λ (l : List ℕ). settled (length less) (length kept) (length (lists_of kept)) size [] (n ∷ d ∷ p ∷ l)) regroup
    ∙ settled_words size [] less kept n d p left rest (short_same size kept left (rows_as_taken id rows ws a))
  where
    less : List ℕ
    less = taken_at place names

    kept : List Row
    kept = without_postings id rows

    left : List ℕ
    left = take_out (empty_cuts (map (thin_row id) rows)) ws

    now : List ℕ → List ℕ
    now l = settled (length less) (length kept) (length (lists_of kept)) size [] (l ++ rest)

    regroup : (less ++ (left ++ lists_of kept)) ++ rest ≡ less ++ (left ++ (lists_of kept ++ rest))
    regroup = append_assoc less (left ++ lists_of kept) rest ∙ ap (λ (l : List ℕ). less ++ l) (append_assoc left (lists_of kept) rest)
