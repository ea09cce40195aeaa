-- Reading back what `words_from` wrote, whatever words follow: each accessor of specs/Words.antt gives the name word, or the row's part, that was written.
-- And the reverse: the words of a good index up to its total are `words_from` of its own name words and rows.
-- These two are all that knows the layout: a word more for a name or a row moves this file alone.
-- Assumes nothing.
use mathlib.Core.Path.{◌≡◌, refl, sym, ap, ap₂, ◌∙◌}
use mathlib.Core.List.{List, [], ◌∷◌, ◌++◌, append_assoc, append-nil}
use Prim.Native.Nat.{ℕ, zero, suc, ◌+◌, ◌*◌, ◌/◌, ◌%◌, ◌≤◌, ◌<◌}
use native.Mathlib.Nat.{add-zero, zero-add, one-mul}
use native.Mathlib.Omega.{arith}
use lib.ListN.{length, get_or, take, drop, set, length-append, get_or-append}
use lib.Seq.{get_or-drop, get_or-take, drop-drop, drop-append_seam, take-append_seam, drop_at, take-add, take-suc, set_at}
use Rattle.laws.specs.Lists.{tabulate}
use Rattle.laws.specs.Below.{sum_below}
use Rattle.laws.proofs.Lists.{length_tabulate, tabulate_ext}
use Rattle.laws.proofs.Images.{tabulate_of, tabulate_part}
use Rattle.words.specs.Words.{name_count, row_count, posting_count, names_start, name_start, name_word, rows_start, row_start, row_width, row_size, row_feature, row_place, row_length, postings_start, list_at, total, feature_span}
use Rattle.index_writer.specs.Built.{Row, no_row, one_row, longer_row, id_span, lists_of, row_words, words_from}
use Rattle.index_writer.specs.Contents.{names_in, row_in, all_rows_in, Narrow}
use Rattle.index_writer.specs.Plain.{Plain}
use Rattle.index_writer.proofs.Plain.{plain_length}

-- ---- names

-- a name is one word, so the names' words stand side by side
one_word : (i : ℕ) → name_start i ≡ names_start + i
one_word i = ap (λ (n : ℕ). names_start + n) (one-mul i)

-- ---- rows and lists

pub length_row_words : (p : ℕ) (rows : List Row) → length (row_words p rows) ≡ row_width * length rows
unfolding row_words
length_row_words p [] = refl
length_row_words p (r ∷ rows) = let h = length_row_words (p + length r.list) rows in omega arith

pub lists_append : (a b : List Row) → lists_of (a ++ b) ≡ lists_of a ++ lists_of b
unfolding lists_of
lists_append [] b = refl
lists_append (r ∷ a) b = ap (λ (l : List ℕ). r.list ++ l) (lists_append a b) ∙ sym (append_assoc r.list (lists_of a) (lists_of b))

lists_one : (r : Row) → lists_of (r ∷ []) ≡ r.list
unfolding lists_of
lists_one r = append-nil r.list

-- the lists around row r's
lists_around : (rows : List Row) (r : ℕ) → r < length rows
    → lists_of rows ≡ lists_of (take r rows) ++ ((get_or rows r no_row).list ++ lists_of (drop (suc r) rows))
unfolding lists_of
lists_around [] r h = absurd (omega arith)
lists_around (x ∷ rows) zero h = refl
lists_around (x ∷ rows) (suc r) h =
    ap (λ (l : List ℕ). x.list ++ l) (lists_around rows r (omega arith))
    ∙ sym (append_assoc x.list (lists_of (take r rows)) ((get_or rows r no_row).list ++ lists_of (drop (suc r) rows)))

-- row r's four words
row_words_at : (p : ℕ) (rows : List Row) (r : ℕ) (more : List ℕ) → r < length rows
    → take row_width (drop (row_width * r) (row_words p rows ++ more))
    ≡ ((get_or rows r no_row).key / feature_span)
    ∷ ((get_or rows r no_row).key % feature_span)
    ∷ (p + length (lists_of (take r rows)))
    ∷ length (get_or rows r no_row).list
    ∷ []
unfolding row_words lists_of
row_words_at p [] r more h = absurd (omega arith)
row_words_at p (x ∷ rows) zero more h = rw (add-zero p)
row_words_at p (x ∷ rows) (suc r) more h =
    let e : row_width * suc r ≡ suc (suc (suc (suc (row_width * r)))) = omega arith in
    let q : p + length x.list + length (lists_of (take r rows)) ≡ p + length (x.list ++ lists_of (take r rows)) =
    omega (arith, length-append x.list (lists_of (take r rows))) in
    rw e (row_words_at (p + length x.list) rows r more (omega arith) ∙ (rw q))

-- ---- one row more at the end, one id more in the last row

pub row_words_append : (p : ℕ) (a b : List Row) → row_words p (a ++ b) ≡ row_words p a ++ row_words (p + length (lists_of a)) b
unfolding row_words lists_of
row_words_append p [] b = rw (add-zero p)
row_words_append p (r ∷ a) b =
    let e : p + length r.list + length (lists_of a) ≡ p + length (r.list ++ lists_of a) = omega (arith, length-append r.list (lists_of a)) in
    ap
    (λ (l : List ℕ). (r.key / feature_span) ∷ (r.key % feature_span) ∷ p ∷ length r.list ∷ l)
    (row_words_append (p + length r.list) a b ∙ ap (λ (n : ℕ). row_words (p + length r.list) a ++ row_words n b) e)

-- a new row's four words
pub words_new : (rs : List Row) (k : ℕ)
    → row_words 0 (rs ++ (one_row k ∷ []))
    ≡ row_words 0 rs ++ ((k / id_span / feature_span) ∷ (k / id_span % feature_span) ∷ length (lists_of rs) ∷ 1 ∷ [])
unfolding row_words
words_new rs k =
    row_words_append 0 rs (one_row k ∷ [])
    ∙ ap (λ (n : ℕ). row_words 0 rs ++ ((k / id_span / feature_span) ∷ (k / id_span % feature_span) ∷ n ∷ 1 ∷ [])) (zero-add (length (lists_of rs)))

-- a longer last row has a greater count, and no other word changes
pub words_more : (rs : List Row) (r : Row) (id : ℕ)
    → row_words 0 (rs ++ (longer_row r id ∷ [])) ≡ set (row_words 0 (rs ++ (r ∷ []))) (row_width * length rs + 3) (length r.list + 1)
unfolding row_words
words_more rs r id =
    row_words_append 0 rs (longer_row r id ∷ [])
    ∙ sym (append_assoc (row_words 0 rs) three (length (r.list ++ (id ∷ [])) ∷ []))
    ∙ ap (λ (n : ℕ). row_words 0 rs ++ three ++ (n ∷ [])) (length-append r.list (id ∷ []))
    ∙ sym (set_at (row_words 0 rs ++ three) (length r.list) [] (length r.list + 1) (row_width * length rs + 3) place)
    ∙ ap (λ (l : List ℕ). set l (row_width * length rs + 3) (length r.list + 1))
    (append_assoc (row_words 0 rs) three (length r.list ∷ []) ∙ sym (row_words_append 0 rs (r ∷ [])))
  where
    three : List ℕ
    three = (r.key / feature_span) ∷ (r.key % feature_span) ∷ (0 + length (lists_of rs)) ∷ []

    place : length (row_words 0 rs ++ three) ≡ row_width * length rs + 3
    place = length-append (row_words 0 rs) three ∙ ap (λ (n : ℕ). n + 3) (length_row_words 0 rs)

-- ---- what was written, read back

module _ (names : List ℕ) (rows : List Row) (rest : List ℕ) where
  pub read_name_count : name_count (words_from names rows ++ rest) ≡ length names
  unfolding words_from
  read_name_count = refl

  pub read_row_count : row_count (words_from names rows ++ rest) ≡ length rows
  unfolding words_from
  read_row_count = refl

  pub read_posting_count : posting_count (words_from names rows ++ rest) ≡ length (lists_of rows)
  unfolding words_from
  read_posting_count = refl

  names_on : drop names_start (words_from names rows ++ rest) ≡ names ++ (row_words 0 rows ++ (lists_of rows ++ rest))
  unfolding words_from
  names_on =
      append_assoc names (row_words 0 rows ++ lists_of rows) rest
      ∙ ap (λ (l : List ℕ). names ++ l) (append_assoc (row_words 0 rows) (lists_of rows) rest)

  rows_on : drop (rows_start (words_from names rows ++ rest)) (words_from names rows ++ rest) ≡ row_words 0 rows ++ (lists_of rows ++ rest)
  rows_on =
      ap (λ (n : ℕ). drop n (words_from names rows ++ rest)) (one_word (name_count (words_from names rows ++ rest)))
      ∙ ap (λ (n : ℕ). drop (names_start + n) (words_from names rows ++ rest)) read_name_count
      ∙ sym (drop-drop (length names) names_start (words_from names rows ++ rest))
      ∙ ap (drop (length names)) names_on
      ∙ drop-append_seam names (row_words 0 rows ++ (lists_of rows ++ rest))

  postings_on : drop (postings_start (words_from names rows ++ rest)) (words_from names rows ++ rest) ≡ lists_of rows ++ rest
  postings_on =
      ap (λ (n : ℕ). drop (rows_start (words_from names rows ++ rest) + row_width * n) (words_from names rows ++ rest)) read_row_count
      ∙ sym (drop-drop (row_width * length rows) (rows_start (words_from names rows ++ rest)) (words_from names rows ++ rest))
      ∙ ap (drop (row_width * length rows)) rows_on
      ∙ drop_at (row_words 0 rows) (lists_of rows ++ rest) (row_width * length rows) (length_row_words 0 rows)

  pub read_name : (i : ℕ) → i < length names → name_word (words_from names rows ++ rest) i ≡ get_or names i 0
  unfolding name_word
  read_name i h =
      ap (λ (n : ℕ). get_or (words_from names rows ++ rest) n 0) (one_word i)
      ∙ sym (get_or-drop names_start (words_from names rows ++ rest) i 0)
      ∙ ap (λ (l : List ℕ). get_or l i 0) names_on
      ∙ get_or-append names (row_words 0 rows ++ (lists_of rows ++ rest)) 0 i h

  -- word c of row r
  row_word : (r c : ℕ) → r < length rows → c < row_width
      → get_or (words_from names rows ++ rest) (row_start (words_from names rows ++ rest) r + c) 0
      ≡ get_or
      (((get_or rows r no_row).key / feature_span)
      ∷ ((get_or rows r no_row).key % feature_span)
      ∷ (0 + length (lists_of (take r rows)))
      ∷ length (get_or rows r no_row).list
      ∷ [])
      c
      0
  row_word r c h b =
      sym (get_or-drop (row_start (words_from names rows ++ rest) r) (words_from names rows ++ rest) c 0)
      ∙ ap (λ (l : List ℕ). get_or l c 0)
      (sym (drop-drop (row_width * r) (rows_start (words_from names rows ++ rest)) (words_from names rows ++ rest))
      ∙ ap (drop (row_width * r)) rows_on)
      ∙ sym (get_or-take row_width (drop (row_width * r) (row_words 0 rows ++ (lists_of rows ++ rest))) c 0 b)
      ∙ ap (λ (l : List ℕ). get_or l c 0) (row_words_at 0 rows r (lists_of rows ++ rest) h)

  pub read_size : (r : ℕ) → r < length rows → row_size (words_from names rows ++ rest) r ≡ (get_or rows r no_row).key / feature_span
  unfolding row_size
  read_size r h =
      ap (λ (n : ℕ). get_or (words_from names rows ++ rest) n 0) (sym (add-zero (row_start (words_from names rows ++ rest) r)))
      ∙ row_word r 0 h (omega arith)

  pub read_feature : (r : ℕ) → r < length rows → row_feature (words_from names rows ++ rest) r ≡ (get_or rows r no_row).key % feature_span
  unfolding row_feature
  read_feature r h = row_word r 1 h (omega arith)

  -- a list starts where those of the rows before it end
  pub read_place : (r : ℕ) → r < length rows → row_place (words_from names rows ++ rest) r ≡ length (lists_of (take r rows))
  unfolding row_place
  read_place r h = row_word r 2 h (omega arith) ∙ zero-add (length (lists_of (take r rows)))

  pub read_length : (r : ℕ) → r < length rows → row_length (words_from names rows ++ rest) r ≡ length (get_or rows r no_row).list
  unfolding row_length
  read_length r h = row_word r 3 h (omega arith)

  pub read_list : (r : ℕ) → r < length rows → list_at (words_from names rows ++ rest) r ≡ (get_or rows r no_row).list
  unfolding list_at
  read_list r h =
      ap₂ (λ (n m : ℕ). take n (drop (postings_start (words_from names rows ++ rest) + m) (words_from names rows ++ rest))) (read_length r h) (read_place r h)
      ∙ ap (take (length list))
      (sym (drop-drop (length before) (postings_start (words_from names rows ++ rest)) (words_from names rows ++ rest))
      ∙ ap (drop (length before)) (postings_on ∙ ap (λ (l : List ℕ). l ++ rest) (lists_around rows r h) ∙ append_assoc before (list ++ after) rest)
      ∙ drop-append_seam before (list ++ after ++ rest)
      ∙ append_assoc list after rest)
      ∙ take-append_seam list (after ++ rest)
    where
      before : List ℕ
      before = lists_of (take r rows)

      list : List ℕ
      list = (get_or rows r no_row).list

      after : List ℕ
      after = lists_of (drop (suc r) rows)

  pub read_total : total (words_from names rows ++ rest) ≡ length (words_from names rows)
  unfolding words_from
  read_total =
      omega (
        arith,
        length-append names (row_words 0 rows ++ lists_of rows),
        length-append (row_words 0 rows) (lists_of rows),
        length_row_words 0 rows,
      )

  -- the counts of the first rows sum to where the next list starts
  pub read_sum : (r : ℕ) → r ≤ length rows → sum_below r (row_length (words_from names rows ++ rest)) ≡ length (lists_of (take r rows))
  unfolding sum_below
  read_sum zero h = unfold lists_of in refl
  read_sum (suc r) h =
      ap₂ ◌+◌ (read_sum r (omega arith)) (read_length r h)
      ∙ sym (length-append (lists_of (take r rows)) (get_or rows r no_row).list)
      ∙ sym
      (ap length
      (ap lists_of (take-suc rows r no_row h)
      ∙ lists_append (take r rows) (get_or rows r no_row ∷ [])
      ∙ ap (λ (l : List ℕ). lists_of (take r rows) ++ l) (lists_one (get_or rows r no_row))))

  pub read_narrow : Narrow (words_from names rows ++ rest)
  read_narrow r h =
      let e = read_row_count in
      let q = read_feature r (omega arith) in
      omega arith

  pub read_names : names_in (words_from names rows ++ rest) ≡ names
  unfolding names_in
  read_names = rw read_name_count (sym (tabulate_of (name_word (words_from names rows ++ rest)) (length names) 0 names refl (λ i h. sym (read_name i h))))

  pub read_rows : all_rows_in (words_from names rows ++ rest) ≡ rows
  unfolding all_rows_in
  read_rows = rw read_row_count (sym (tabulate_of (row_in (words_from names rows ++ rest)) (length rows) no_row rows refl (λ r h. sym (same r h))))
    where
      key : (r : ℕ) → r < length rows → (row_in (words_from names rows ++ rest) r).key ≡ (get_or rows r no_row).key
      key r h = let a = read_size r h in let b = read_feature r h in omega arith

      same : (r : ℕ) → r < length rows → row_in (words_from names rows ++ rest) r ≡ get_or rows r no_row
      same r h = λ i. record { key = key r h i; list = read_list r h i }

-- ---- a good index is written by its own names and rows

-- 32-bit words hold 32-bit features
pub narrow_words : (w : List ℕ) → ((k : ℕ) → get_or w k 0 < feature_span) → Narrow w
unfolding row_feature
narrow_words w h r b = h (row_start w r + 1)

take_three : (w : List ℕ) → 3 ≤ length w → take 3 w ≡ get_or w 0 0 ∷ get_or w 1 0 ∷ get_or w 2 0 ∷ []
take_three w h = tabulate_part w 0 3 0 (omega arith) ∙ (unfold tabulate in refl)

module _ (w : List ℕ) (f : Plain w) (narrow : Narrow w) where
  row_words_in : (r : ℕ) → r < row_count w → take row_width (drop (row_start w r) w) ≡ row_words (row_place w r) (row_in w r ∷ [])
  unfolding row_words row_size row_feature row_place row_length
  row_words_in r h =
      tabulate_part w (row_start w r) row_width 0 within
      ∙ (unfold tabulate in (λ i. (first ∙ size) i ∷ feature i ∷ row_place w r ∷ sym (plain_length w f r h) i ∷ []))
    where
      within : row_start w r + row_width ≤ length w
      within = let b = f.room in omega arith

      first : get_or w (row_start w r + 0) 0 ≡ row_size w r
      first = ap (λ (n : ℕ). get_or w n 0) (add-zero (row_start w r))

      size : row_size w r ≡ (row_size w r * feature_span + row_feature w r) / feature_span
      size = let b = narrow r h in omega arith

      feature : row_feature w r ≡ (row_size w r * feature_span + row_feature w r) % feature_span
      feature = let b = narrow r h in omega arith

  lists_length : (n : ℕ) → n ≤ row_count w → length (lists_of (tabulate (row_in w) n)) ≡ sum_below n (row_length w)
  unfolding tabulate sum_below
  lists_length zero h = unfold lists_of in refl
  lists_length (suc n) h =
      ap length (lists_append (tabulate (row_in w) n) (row_in w n ∷ []) ∙ ap (λ (l : List ℕ). lists_of (tabulate (row_in w) n) ++ l) (lists_one (row_in w n)))
      ∙ length-append (lists_of (tabulate (row_in w) n)) (list_at w n)
      ∙ ap₂ ◌+◌ (lists_length n (omega arith)) (plain_length w f n h)

  rows_written : (n : ℕ) → n ≤ row_count w → take (row_width * n) (drop (rows_start w) w) ≡ row_words 0 (tabulate (row_in w) n)
  unfolding tabulate
  rows_written zero h = unfold row_words in refl
  rows_written (suc n) h =
      ap (λ (k : ℕ). take k (drop (rows_start w) w)) more
      ∙ take-add (row_width * n) row_width (drop (rows_start w) w)
      ∙ ap₂ ◌++◌ (rows_written n (omega arith)) last
      ∙ sym (row_words_append 0 (tabulate (row_in w) n) (row_in w n ∷ []))
    where
      more : row_width * suc n ≡ row_width * n + row_width
      more = omega arith

      place : row_place w n ≡ 0 + length (lists_of (tabulate (row_in w) n))
      place = f.place n h ∙ sym (lists_length n (omega arith)) ∙ sym (zero-add (length (lists_of (tabulate (row_in w) n))))

      last : take row_width (drop (row_width * n) (drop (rows_start w) w)) ≡ row_words (0 + length (lists_of (tabulate (row_in w) n))) (row_in w n ∷ [])
      last =
          ap (take row_width) (drop-drop (row_width * n) (rows_start w) w)
          ∙ row_words_in n h
          ∙ ap (λ (p : ℕ). row_words p (row_in w n ∷ [])) place

  lists_written : (n : ℕ) → n ≤ row_count w → take (sum_below n (row_length w)) (drop (postings_start w) w) ≡ lists_of (tabulate (row_in w) n)
  unfolding tabulate sum_below
  lists_written zero h = unfold lists_of in refl
  lists_written (suc n) h =
      take-add (sum_below n (row_length w)) (row_length w n) (drop (postings_start w) w)
      ∙ ap₂ ◌++◌ (lists_written n (omega arith)) (ap (take (row_length w n)) start ∙ list ∙ sym (lists_one (row_in w n)))
      ∙ sym (lists_append (tabulate (row_in w) n) (row_in w n ∷ []))
    where
      start : drop (sum_below n (row_length w)) (drop (postings_start w) w) ≡ drop (postings_start w + row_place w n) w
      start =
          drop-drop (sum_below n (row_length w)) (postings_start w) w
          ∙ ap (λ (k : ℕ). drop (postings_start w + k) w) (sym (f.place n h))

      list : take (row_length w n) (drop (postings_start w + row_place w n) w) ≡ list_at w n
      list = unfold list_at in refl

  pub words_in : take (total w) w ≡ words_from (names_in w) (all_rows_in w)
  unfolding words_from names_in all_rows_in name_word
  words_in =
      take-add (postings_start w) (posting_count w) w
      ∙ ap₂ ◌++◌
      (take-add (rows_start w) (row_width * row_count w) w
      ∙ ap₂ ◌++◌
      (ap (λ (n : ℕ). take n w) (one_word (name_count w))
      ∙ take-add names_start (name_count w) w
      ∙ ap₂ ◌++◌ (take_three w f.head)
      (tabulate_part w names_start (name_count w) 0 room
      ∙ tabulate_ext (λ (i : ℕ). get_or w (names_start + i) 0) (name_word w) (name_count w) (λ i h. ap (λ (n : ℕ). get_or w n 0) (sym (one_word i)))))
      (rows_written (row_count w) (omega arith)))
      (ap (λ (n : ℕ). take n (drop (postings_start w) w)) (sym f.sum) ∙ lists_written (row_count w) (omega arith))
      ∙ regroup
    where
      room : names_start + name_count w ≤ length w
      room = let b = f.room in omega arith

      names : List ℕ
      names = tabulate (name_word w) (name_count w)

      rows : List Row
      rows = tabulate (row_in w) (row_count w)

      regroup : ((name_count w ∷ row_count w ∷ posting_count w ∷ []) ++ names ++ row_words 0 rows) ++ lists_of rows
          ≡ length names ∷ length rows ∷ length (lists_of rows) ∷ (names ++ (row_words 0 rows ++ lists_of rows))
      regroup =
          λ i.
          sym (length_tabulate (name_word w) (name_count w)) i
          ∷ sym (length_tabulate (row_in w) (row_count w)) i
          ∷ sym (lists_length (row_count w) (omega arith) ∙ f.sum) i
          ∷ append_assoc names (row_words 0 rows) (lists_of rows) i
