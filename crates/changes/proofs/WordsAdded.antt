-- The whole index with one name more: `put_in` at `add_cuts` may be called (`add_cuts_sorted`, `add_cuts_most`, `length_add_cuts`), what it leaves
-- (`words_put_in`), and that the three head words and the rows' words, set then, make it the index of the names and rows with that name
-- (`words_added_lem`).
-- Assumes nothing.
use mathlib.Core.Path.{◌≡◌, refl, sym, ap, ap₂, ◌∙◌}
use mathlib.Core.List.{List, [], ◌∷◌, ◌++◌, map, map-append, append_assoc}
use Prim.Native.Nat.{ℕ, suc, ◌+◌, ◌*◌, ◌≤◌, ◌<◌}
use native.Mathlib.Omega.{arith}
use lib.ListN.{length, replicate, length-append, length-map, length-replicate}
use Rattle.laws.specs.Lists.{Ascending}
use Rattle.laws.specs.Sort.{Sorted}
use Rattle.laws.specs.Each.{Each}
use Rattle.laws.proofs.Sort.{ascending_one, ascending_sorted}
use Rattle.words.specs.Words.{name_start, row_width, feature_span}
use Rattle.index_writer.specs.Built.{Row, lists_of, row_words, words_from, RowsFit}
use Rattle.index_writer.proofs.Read.{length_row_words, read_total}
use Rattle.splicing.specs.Splice.{put_at, put_in}
use Rattle.splicing.proofs.Laws.{length_put_at, put_in_parts}
use Rattle.changes.specs.Rows.{with_postings}
use Rattle.changes.specs.Cuts.{row_cuts, new_rows, posting_cuts, add_cuts, add_words, settled}
use Rattle.changes.proofs.Lists.{map_add, put_at_right, sorted_parts, each_parts}
use Rattle.changes.proofs.Counts.{length_lists_postings}
use Rattle.changes.proofs.Placed.{settled_words}
use Rattle.changes.proofs.CutsAdded.{lists_put_in, rows_short, length_rows_put_in, length_row_cuts, row_cuts_sorted, row_cuts_most, length_posting_cuts, posting_cuts_sorted, posting_cuts_most}

pub length_words_from : (names : List ℕ) (rows : List Row) → length (words_from names rows) ≡ name_start (length names) + (row_width * length rows + length (lists_of rows))
unfolding words_from
length_words_from names rows = let e = read_total names rows [] in omega arith

module _ (names : List ℕ) (place word size id : ℕ) (rows : List Row) (fs : List ℕ) (within : place ≤ length names) (fit : RowsFit rows) (rise : Ascending fs) where
  abbrev cuts : List ℕ
  cuts = add_cuts (length names) place size id rows fs

  -- the places of rows and postings, from the first row on
  abbrev behind : List ℕ
  behind = row_cuts size rows fs ++ map (λ (p : ℕ). row_width * length rows + p) (posting_cuts size id rows fs)

  -- the names' part, and what is behind it
  add_cuts_lem : cuts ≡ (name_start place ∷ []) ++ map (λ (p : ℕ). name_start (length names) + p) behind
  add_cuts_lem =
      ap (λ (l : List ℕ). name_start place ∷ l)
      (ap (λ (l : List ℕ). map (λ (p : ℕ). name_start (length names) + p) (row_cuts size rows fs) ++ l) (sym (map_add (name_start (length names)) (row_width * length rows) (posting_cuts size id rows fs)))
      ∙ sym (map-append (λ (p : ℕ). name_start (length names) + p) (row_cuts size rows fs) (map (λ (p : ℕ). row_width * length rows + p) (posting_cuts size id rows fs))))

  first_most : Each (λ (p : ℕ). p ≤ name_start (length names)) (name_start place ∷ [])
  unfolding Each
  first_most = (omega arith, tt)

  rows_most : Each (λ (p : ℕ). p ≤ row_width * length rows) (row_cuts size rows fs)
  rows_most = rw (length_row_words 0 rows) at (row_cuts_most size rows fs)

  -- ---- what `put_in` asks

  pub add_cuts_sorted : Sorted cuts
  add_cuts_sorted =
      rw add_cuts_lem
      (sorted_parts (name_start (length names)) (name_start place ∷ []) behind (ascending_sorted (name_start place ∷ []) (ascending_one (name_start place))) first_most
      (sorted_parts (row_width * length rows) (row_cuts size rows fs) (posting_cuts size id rows fs) (row_cuts_sorted size rows fs rise) rows_most (posting_cuts_sorted size id rows fit.keys fs rise)))

  pub add_cuts_most : Each (λ (p : ℕ). p ≤ length (words_from names rows)) cuts
  add_cuts_most =
      rw (length_words_from names rows, add_cuts_lem)
      (each_parts (name_start (length names)) (name_start place ∷ []) behind (row_width * length rows + length (lists_of rows)) first_most
      (each_parts (row_width * length rows) (row_cuts size rows fs) (posting_cuts size id rows fs) (length (lists_of rows)) rows_most (posting_cuts_most size id rows fit.keys fs)))

  pub length_cuts : length cuts ≡ suc (length (row_cuts size rows fs) + length fs)
  length_cuts =
      ap suc
      (length-append (map (λ (p : ℕ). name_start (length names) + p) (row_cuts size rows fs)) (map (λ (p : ℕ). name_start (length names) + row_width * length rows + p) (posting_cuts size id rows fs))
      ∙ ap₂ ◌+◌
      (length-map (row_cuts size rows fs) (λ (p : ℕ). name_start (length names) + p))
      (length-map (posting_cuts size id rows fs) (λ (p : ℕ). name_start (length names) + row_width * length rows + p) ∙ length_posting_cuts size id rows fs))

  pub length_add_cuts : length cuts ≡ length (add_words word size id rows fs)
  length_add_cuts =
      let c = length_cuts in
      let r = length_row_cuts size rows fs in
      let a = length-append (new_rows size rows fs) (replicate (length fs) id) in
      let l = length-replicate (length fs) id in
      omega arith

  -- and how many words there are then
  pub length_words_added : Each (λ (f : ℕ). f < feature_span) fs
      → length (words_from names rows) + length cuts ≡ length (words_from (put_at place word names) (with_postings size fs id rows))
  length_words_added low =
      let a = length_words_from names rows in
      let b = length_words_from (put_at place word names) (with_postings size fs id rows) in
      let c = length_cuts in
      let n = length_put_at place word names in
      let r = length_rows_put_in size id rows fit fs rise low in
      let l = length_lists_postings size fs id rows in
      omega arith

  -- ---- what it leaves

  -- the head's words as they were, and the names' words
  abbrev front : List ℕ
  front = length names ∷ length rows ∷ length (lists_of rows) ∷ names

  pub words_put_in : put_in cuts (add_words word size id rows fs) (words_from names rows)
      ≡ length names
      ∷ length rows
      ∷ length (lists_of rows)
      ∷ (put_at place word names
      ++ (put_in (row_cuts size rows fs) (new_rows size rows fs) (row_words 0 rows)
      ++ put_in (posting_cuts size id rows fs) (replicate (length fs) id) (lists_of rows)))
  unfolding words_from put_in
  words_put_in =
      ap (λ (l : List ℕ). put_in l (add_words word size id rows fs) (words_from names rows)) add_cuts_lem
      ∙ ap (λ (n : ℕ). put_in ((name_start place ∷ []) ++ map (λ (p : ℕ). n + p) behind) (add_words word size id rows fs) (words_from names rows)) start
      ∙ put_in_parts (name_start place ∷ []) (word ∷ []) behind (new_rows size rows fs ++ replicate (length fs) id) front (row_words 0 rows ++ lists_of rows) refl (rw (← start) first_most)
      ∙ ap₂ ◌++◌
      (ap (λ (n : ℕ). put_at n word front) name ∙ put_at_right place word (length names ∷ length rows ∷ length (lists_of rows) ∷ []) names)
      (ap (λ (n : ℕ). put_in (row_cuts size rows fs ++ map (λ (p : ℕ). n + p) (posting_cuts size id rows fs)) (new_rows size rows fs ++ replicate (length fs) id) (row_words 0 rows ++ lists_of rows)) (sym (length_row_words 0 rows))
      ∙ put_in_parts (row_cuts size rows fs) (new_rows size rows fs) (posting_cuts size id rows fs) (replicate (length fs) id) (row_words 0 rows) (lists_of rows) (length_row_cuts size rows fs) (row_cuts_most size rows fs))
    where
      start : name_start (length names) ≡ length front
      start = omega arith

      name : name_start place ≡ 3 + place
      name = omega arith

  -- ---- and what it is then settled to, whatever follows the index

  pub words_added_lem : Each (λ (f : ℕ). f < feature_span) fs → (rest : List ℕ)
      → settled (length (put_at place word names)) (length (with_postings size fs id rows)) (length (lists_of (with_postings size fs id rows))) size fs
      (put_in cuts (add_words word size id rows fs) (words_from names rows) ++ rest)
      ≡ words_from (put_at place word names) (with_postings size fs id rows) ++ rest
  words_added_lem low rest =
      ap (settled (length after) (length grown) (length (lists_of grown)) size fs)
      (ap (λ (l : List ℕ). l ++ rest) (words_put_in ∙ ap (λ (l : List ℕ). length names ∷ length rows ∷ length (lists_of rows) ∷ (after ++ (middle ++ l))) (sym (lists_put_in size id rows fit fs rise)))
      ∙ ap (λ (l : List ℕ). length names ∷ length rows ∷ length (lists_of rows) ∷ l) regroup)
      ∙ settled_words size fs after grown (length names) (length rows) (length (lists_of rows)) middle rest (rows_short size id rows fit fs rise low)
    where
      after : List ℕ
      after = put_at place word names

      grown : List Row
      grown = with_postings size fs id rows

      middle : List ℕ
      middle = put_in (row_cuts size rows fs) (new_rows size rows fs) (row_words 0 rows)

      regroup : after ++ (middle ++ lists_of grown) ++ rest ≡ after ++ (middle ++ (lists_of grown ++ rest))
      regroup = append_assoc after (middle ++ lists_of grown) rest ∙ ap (λ (l : List ℕ). after ++ l) (append_assoc middle (lists_of grown) rest)
