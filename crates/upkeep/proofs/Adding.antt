-- A name put into a good index in place: the tables that are filled for it, and what is left once its words were put in and settled; and what this
-- says of a name that is given by its bytes. For the proofs of `put_words`, `add_with` and `add`.
-- Assumes nothing.
use mathlib.Core.Path.{◌≡◌, refl, sym, ap, ap₂, ◌∙◌}
use mathlib.Core.Bool.{Bool, false, cond}
use mathlib.Core.List.{List, [], ◌∷◌, ◌++◌, map, append_assoc}
use Prim.Native.Nat.{ℕ, ◌+◌, ◌*◌, ◌-◌, ◌/◌, ◌^◌, ◌≤◌, ◌<◌}
use native.Mathlib.Omega.{arith}
use borrow.Author.Tests.{le-leb, lt-leb}
use borrow.Rule.Slice.PartMut.{put_mid, mid_len}
use lib.ListN.{length, get_or, take, drop, set, replicate, length-append, length-drop, length-replicate}
use lib.Seq.{length-take-le, take_all, take_at, drop_at, take-suc-set}
use lib.Dec.{ltb}
use Rattle.laws.specs.Each.{Each}
use Rattle.laws.specs.Lists.{Ascending}
use Rattle.laws.specs.Sort.{Sorted, sort_of}
use Rattle.laws.proofs.Lists.{length_tabulate, count_le}
use Rattle.laws.proofs.Members.{each_at, each_members}
use Rattle.laws.proofs.Sort.{ascending_sort, ascending_sorted, sort_sorted}
use Rattle.names.specs.Names.{judge_of}
use Rattle.names.specs.Features.{characters, features_of}
use Rattle.words.specs.Words.{name_count, row_count, posting_count, name_word, name_id, name_start, row_width, postings_start, total, feature_span}
use Rattle.index.specs.Good.{most_names, most_postings, largest_id, ids_in, Good}
use Rattle.index.proofs.Laws.{good_names_most, good_postings_most, good_within_lem}
use Rattle.index_writer.specs.Built.{word_of, Row, lists_of, row_words, words_from, RowsFit}
use Rattle.index_writer.specs.Contents.{names_in, row_in, all_rows_in, entries_in, Narrow}
use Rattle.index_writer.specs.Written.{fits_in, pad_to}
use Rattle.index_writer.proofs.Read.{narrow_words}
use Rattle.index_writer.proofs.Built.{name_fit}
use Rattle.index_writer.proofs.Holders.{rows_fit}
use Rattle.index_writer.proofs.Unique.{good_fit, good_names, good_rows, good_written}
use Rattle.splicing.specs.Splice.{put_at, put_in}
use Rattle.splicing.proofs.Laws.{length_put_at, length_put_in}
use Rattle.seats.proofs.Laws.{rows_few, lists_all}
use Rattle.binary_search.specs.Seats.{place_of}
use Rattle.changes.specs.Rows.{with_postings}
use Rattle.changes.specs.Cuts.{RowsShort, of_features, row_cuts, new_rows, posting_cuts, add_cuts, settled}
use Rattle.changes.proofs.Added.{index_added}
use Rattle.changes.proofs.Counts.{length_lists_postings}
use Rattle.changes.proofs.CutsAdded.{rows_short, length_rows_put_in, length_posting_cuts, posting_cuts_most}
use Rattle.changes.proofs.CutsAppend.{cuts_most}
use Rattle.changes.proofs.Placed.{short_length}
use Rattle.changes.proofs.WordsAdded.{length_words_from, add_cuts_sorted, add_cuts_most, length_cuts, length_add_cuts, length_words_added, words_put_in, words_added_lem}
use Rattle.upkeep.specs.Upkeep.{is_live, changed_if, entry_for, index_with, added_of, words_added}
use Rattle.upkeep.specs.Adding.{most_moved, new_entry, Addable, index_for, cuts_for, words_for}
use Rattle.upkeep.proofs.Laws.{ids_in_lem}
use Rattle.upkeep.proofs.Judging.{add_rest, added_kept, sorted_fit, sorted_words}

-- the name words and the rows of the index then
abbrev names_after : List ℕ → ℕ → List ℕ → List ℕ
names_after w id fs = put_at (place_of id (ids_in w)) (word_of (new_entry id fs)) (names_in w)

abbrev rows_after : List ℕ → ℕ → List ℕ → List Row
rows_after w id fs = with_postings (length fs) fs id (all_rows_in w)

-- the words once those of the name were put in
unfoldable pub moved_for : List ℕ → ℕ → List ℕ → List ℕ
moved_for w id fs = put_in (cuts_for w id fs) (words_for w id fs) (take (total w) w) ++ drop (total w + length (cuts_for w id fs)) w

module _ (w : List ℕ) where
  length_names : length (names_in w) ≡ name_count w
  unfolding names_in
  length_names = length_tabulate (name_word w) (name_count w)

  length_rows : length (all_rows_in w) ≡ row_count w
  unfolding all_rows_in
  length_rows = length_tabulate (row_in w) (row_count w)

module _ {w : List ℕ} {id place : ℕ} {fs : List ℕ} (a : Addable w id place fs) (wide : (k : ℕ) → get_or w k 0 < feature_span) where
  narrow : Narrow w
  narrow = narrow_words w wide

  fit : RowsFit (all_rows_in w)
  fit = rows_fit w a.good narrow

  low : Each (λ (f : ℕ). f < feature_span) fs
  low = each_members (λ (f : ℕ). f < feature_span) fs a.fit.below

  length_lists : length (lists_of (all_rows_in w)) ≡ posting_count w
  length_lists =
      let n = length_rows w in
      ap (λ (l : List Row). length (lists_of l)) (sym (take_all (row_count w) (all_rows_in w) (omega arith))) ∙ sym (lists_all w a.good wide (row_count w) refl)

  -- every place fits 32 bits
  pub total_small : total w ≤ name_start most_names + (row_width + 1) * most_postings
  total_small =
      let n = good_names_most w a.good in
      let d = rows_few w a.good in
      let p = good_postings_most w a.good in
      omega arith

  within : place_of id (ids_in w) ≤ length (names_in w)
  unfolding ids_in
  within =
      let n = length_names w in
      let k = length_tabulate (name_id w) (name_count w) in
      let m = count_le (λ (x : ℕ). ltb x id) (ids_in w) in
      omega arith

  pub place_small : place ≤ most_names
  place_small = let p = within in let e = a.place in let n = length_names w in let f = a.few in omega arith

  -- ---- the places and the words in the tables

  cuts_for_lem : cuts_for w id fs ≡ add_cuts (length (names_in w)) (place_of id (ids_in w)) (length fs) id (all_rows_in w) fs
  unfolding cuts_for
  cuts_for_lem = ap (λ (n : ℕ). add_cuts n (place_of id (ids_in w)) (length fs) id (all_rows_in w) fs) (sym (length_names w))

  -- one place for the name, those of the new rows, and one for each feature
  pub many_cuts : length (cuts_for w id fs) ≡ 1 + length (row_cuts (length fs) (all_rows_in w) fs) + length fs
  many_cuts =
      let c = ap length cuts_for_lem in
      let n = length_cuts (names_in w) (place_of id (ids_in w)) (word_of (new_entry id fs)) (length fs) id (all_rows_in w) fs within fit a.rise in
      omega arith

  pub cuts_room : length (cuts_for w id fs) ≤ most_moved
  cuts_room = let n = many_cuts in let c = cuts_most (length fs) (all_rows_in w) fs in let s = a.fit.most in omega arith

  -- of m words that come in
  pub few_moved : (m : ℕ) → m ≡ length (cuts_for w id fs) → (total w + m ≤ 4294967295) × (m ≤ most_moved) × (length fs < m)
  few_moved m e = let t = total_small in let r = cuts_room in let n = many_cuts in (omega arith, omega arith, omega arith)

  pub length_seats : (seats : List ℕ) → seats ≡ posting_cuts (length fs) id (all_rows_in w) fs → length seats ≡ length fs
  length_seats seats e = ap length e ∙ length_posting_cuts (length fs) id (all_rows_in w) fs

  -- a posting's place is within the index
  pub seat_within : (seats : List ℕ) (i : ℕ) → seats ≡ posting_cuts (length fs) id (all_rows_in w) fs → i < length seats → postings_start w + get_or seats i 0 ≤ total w
  seat_within seats i e h =
      let l = length_lists in
      let n = ap length e in
      let s = ap (λ (t : List ℕ). get_or t i 0) e in
      let m = each_at (λ (p : ℕ). p ≤ length (lists_of (all_rows_in w))) (posting_cuts (length fs) id (all_rows_in w) fs) i 0 (posting_cuts_most (length fs) id (all_rows_in w) fit.keys fs) (omega arith) in
      omega arith

  -- the name's place, then those of the new rows, then those of the postings
  pub places_put : (at more all seats : List ℕ) (r first : ℕ) → 0 < length at
      → take r more ≡ take 1 (set at 0 (name_start place)) ++ map (λ (p : ℕ). name_start (name_count w) + p) (row_cuts (length fs) (all_rows_in w) fs)
      → seats ≡ posting_cuts (length fs) id (all_rows_in w) fs → first ≡ postings_start w
      → take (r + length seats) all ≡ take r more ++ map (λ (p : ℕ). first + p) seats
      → take (r + length fs) all ≡ cuts_for w id fs
  unfolding cuts_for
  places_put at more all seats r first h rows e s put =
      let d = length_rows w in
      let start : first ≡ name_start (name_count w) + row_width * length (all_rows_in w) = omega arith in
      ap (λ (n : ℕ). take (r + n) all) (sym (length_seats seats e))
      ∙ put
      ∙ ap₂ ◌++◌
      (rows ∙ ap (λ (l : List ℕ). l ++ own) (take-suc-set at 0 (name_start place) h ∙ ap (λ (n : ℕ). name_start n ∷ []) a.place))
      (ap₂ (λ (n : ℕ) (l : List ℕ). map (λ (p : ℕ). n + p) l) start e)
    where
      own : List ℕ
      own = map (λ (p : ℕ). name_start (name_count w) + p) (row_cuts (length fs) (all_rows_in w) fs)

  -- the name's word, then those of the new rows, then the ids
  pub words_put : (values more ids : List ℕ) (r : ℕ) → 0 < length values → r + length fs ≤ length more
      → take r more ≡ take 1 (set values 0 (word_of (new_entry id fs))) ++ new_rows (length fs) (all_rows_in w) fs
      → ids ≡ replicate (length (take (r + length fs - r) (drop r more))) id
      → take (r + length fs) (put_mid r (r + length fs - r) more ids) ≡ words_for w id fs
  unfolding words_for
  words_put values more ids r h room rows e =
      ap (take (r + length fs)) (sym (append_assoc (take r more) ids (drop (r + length fs - r) (drop r more))))
      ∙ take_at (take r more ++ ids) (drop (r + length fs - r) (drop r more)) (r + length fs) both
      ∙ ap₂ ◌++◌ (rows ∙ ap (λ (l : List ℕ). l ++ new_rows (length fs) (all_rows_in w) fs) (take-suc-set values 0 (word_of (new_entry id fs)) h)) same
    where
      part : length (take (r + length fs - r) (drop r more)) ≡ length fs
      part = let m = mid_len r (r + length fs) more room in omega arith

      same : ids ≡ replicate (length fs) id
      same = e ∙ ap (λ (n : ℕ). replicate n id) part

      both : length (take r more ++ ids) ≡ r + length fs
      both =
          let m = length-take-le r more (omega arith) in
          let n = ap length same ∙ length-replicate (length fs) id in
          let b = length-append (take r more) ids in
          omega arith

  -- ---- what `put_in` asks, and what it leaves

  written : take (total w) w ≡ words_from (names_in w) (all_rows_in w)
  written = good_written w a.good narrow

  length_written : length (words_from (names_in w) (all_rows_in w)) ≡ total w
  length_written = ap length (sym written) ∙ length-take-le (total w) w (good_within_lem w a.good)

  cuts_sorted : Sorted (cuts_for w id fs)
  cuts_sorted = rw cuts_for_lem (add_cuts_sorted (names_in w) (place_of id (ids_in w)) (word_of (new_entry id fs)) (length fs) id (all_rows_in w) fs within fit a.rise)

  cuts_within : Each (λ (p : ℕ). p ≤ total w) (cuts_for w id fs)
  cuts_within =
      rw (cuts_for_lem, ← length_written)
      (add_cuts_most (names_in w) (place_of id (ids_in w)) (word_of (new_entry id fs)) (length fs) id (all_rows_in w) fs within fit a.rise)

  cuts_words : length (cuts_for w id fs) ≡ length (words_for w id fs)
  unfolding words_for
  cuts_words =
      ap length cuts_for_lem ∙ length_add_cuts (names_in w) (place_of id (ids_in w)) (word_of (new_entry id fs)) (length fs) id (all_rows_in w) fs within fit a.rise

  module _ (at values : List ℕ) (end : ℕ) (places : at ≡ cuts_for w id fs) (words : values ≡ words_for w id fs) (total-is : end ≡ total w) where
    pub put_may : total w + length (cuts_for w id fs) ≤ length w → Sorted at × Each (λ (p : ℕ). p ≤ end) at × (length at ≡ length values) × (end + length at ≤ length w)
    put_may room =
        let n = ap length places in
        (rw places cuts_sorted, rw (places, total-is) cuts_within, n ∙ cuts_words ∙ ap length (sym words), omega arith)

    pub put_done : (v : List ℕ) → v ≡ put_in at values (take end w) ++ drop (end + length at) w → v ≡ moved_for w id fs
    unfolding moved_for
    put_done v e = e ∙ (λ i. put_in (places i) (words i) (take (total-is i) w) ++ drop (total-is i + length (places i)) w)

  -- ---- the index that results

  index_for_lem : index_for w id fs ≡ words_from (names_after w id fs) (rows_after w id fs)
  index_for_lem =
      index_added (new_entry id fs) (entries_in w) (good_fit w a.good narrow) a.fit a.unused
      ∙ ap₂ words_from
      (ap₂ (λ (k : ℕ) (l : List ℕ). put_at k (word_of (new_entry id fs)) l) (ap (place_of id) (ids_in_lem w)) (sym (good_names w a.good narrow)))
      (ap₂ (λ (l : List ℕ) (rows : List Row). with_postings (length fs) l id rows) (sort_sorted fs (ascending_sorted fs a.rise)) (sym (good_rows w a.good narrow)))

  -- as many words more as places
  length_index : length (index_for w id fs) ≡ total w + length (cuts_for w id fs)
  length_index =
      let c = ap length cuts_for_lem in
      let l = length_written in
      let i = ap length index_for_lem in
      let e = length_words_added (names_in w) (place_of id (ids_in w)) (word_of (new_entry id fs)) (length fs) id (all_rows_in w) fs within fit a.rise low in
      omega arith

  -- so it fits exactly if they do
  pub number_in : total w + length (cuts_for w id fs) ≤ length w → ◌≡◌ {A = ℕ} 0 (cond (fits_in (length w) (index_for w id fs)) 0 8)
  number_in h = let l = length_index in ap (λ (b : Bool). cond b 0 8) (sym (le-leb (length (index_for w id fs)) (length w) (omega arith)))

  pub number_over : length w < total w + length (cuts_for w id fs) → ◌≡◌ {A = ℕ} 8 (cond (fits_in (length w) (index_for w id fs)) 0 8)
  number_over h = let l = length_index in ap (λ (b : Bool). cond b 0 8) (sym (lt-leb (length (index_for w id fs)) (length w) (omega arith)))

  names_more : length (names_after w id fs) ≡ name_count w + 1
  names_more = let e = length_put_at (place_of id (ids_in w)) (word_of (new_entry id fs)) (names_in w) in let n = length_names w in omega arith

  rows_more : length (rows_after w id fs) ≡ row_count w + (length (cuts_for w id fs) - 1 - length fs) / row_width
  rows_more =
      let e = length_rows_put_in (length fs) id (all_rows_in w) fit fs a.rise low in
      let n = many_cuts in
      let d = length_rows w in
      omega arith

  lists_more : length (lists_of (rows_after w id fs)) ≡ posting_count w + length fs
  lists_more = let e = length_lists_postings (length fs) fs id (all_rows_in w) in let l = length_lists in omega arith

  -- ---- what is left once the words were put in, where they fit

  -- the rows' words as they stand then
  abbrev rows_put : List ℕ
  rows_put = put_in (row_cuts (length fs) (all_rows_in w) fs) (new_rows (length fs) (all_rows_in w) fs) (row_words 0 (all_rows_in w))

  short : RowsShort (of_features (length fs) fs) (rows_after w id fs) rows_put
  short = rows_short (length fs) id (all_rows_in w) fit fs a.rise low

  module _ (room : total w + length (cuts_for w id fs) ≤ length w) where
    length_moved : length (moved_for w id fs) ≡ length w
    unfolding moved_for
    length_moved =
        let l = length-append (put_in (cuts_for w id fs) (words_for w id fs) (take (total w) w)) (drop (total w + length (cuts_for w id fs)) w) in
        let p = length_put_in (cuts_for w id fs) (words_for w id fs) (take (total w) w) cuts_words in
        let t = length-take-le (total w) w (good_within_lem w a.good) in
        let d = length-drop (total w + length (cuts_for w id fs)) w in
        omega arith

    moved : moved_for w id fs
        ≡ put_in (add_cuts (length (names_in w)) (place_of id (ids_in w)) (length fs) id (all_rows_in w) fs) (words_for w id fs) (words_from (names_in w) (all_rows_in w))
        ++ drop (total w + length (cuts_for w id fs)) w
    unfolding moved_for
    moved = ap₂ (λ (c l : List ℕ). put_in c (words_for w id fs) l ++ drop (total w + length (cuts_for w id fs)) w) cuts_for_lem written

    -- the rows' words, cut out
    rows_moved : take (row_width * length (rows_after w id fs)) (drop (name_start (length (names_after w id fs))) (moved_for w id fs)) ≡ rows_put
    unfolding words_for
    rows_moved =
        ap (λ (l : List ℕ). take (row_width * length (rows_after w id fs)) (drop (name_start (length (names_after w id fs))) l))
        (moved
        ∙ ap (λ (l : List ℕ). l ++ rest) (words_put_in (names_in w) (place_of id (ids_in w)) (word_of (new_entry id fs)) (length fs) id (all_rows_in w) fs within fit a.rise)
        ∙ ap (λ (l : List ℕ). length (names_in w) ∷ length (all_rows_in w) ∷ length (lists_of (all_rows_in w)) ∷ l) (append_assoc (names_after w id fs) (rows_put ++ lists) rest))
        ∙ ap (take (row_width * length (rows_after w id fs)))
        (drop_at front ((rows_put ++ lists) ++ rest) (name_start (length (names_after w id fs))) (omega arith) ∙ append_assoc rows_put lists rest)
        ∙ take_at rows_put (lists ++ rest) (row_width * length (rows_after w id fs)) (short_length (of_features (length fs) fs) (rows_after w id fs) rows_put short)
      where
        rest : List ℕ
        rest = drop (total w + length (cuts_for w id fs)) w

        lists : List ℕ
        lists = put_in (posting_cuts (length fs) id (all_rows_in w) fs) (replicate (length fs) id) (lists_of (all_rows_in w))

        front : List ℕ
        front = length (names_in w) ∷ length (all_rows_in w) ∷ length (lists_of (all_rows_in w)) ∷ names_after w id fs

    -- `settle` may be called with the counts that the code works out, and leaves the index and blanks
    module _ (n d p : ℕ) (v : List ℕ)
        (names : n ≡ name_count w + 1) (rows : d ≡ row_count w + (length (cuts_for w id fs) - 1 - length fs) / row_width) (postings : p ≡ posting_count w + length fs) (words : v ≡ moved_for w id fs) where
      n_is : n ≡ length (names_after w id fs)
      n_is = names ∙ sym names_more

      d_is : d ≡ length (rows_after w id fs)
      d_is = rows ∙ sym rows_more

      p_is : p ≡ length (lists_of (rows_after w id fs))
      p_is = postings ∙ sym lists_more

      all_is : name_start n + row_width * d + p ≡ length (index_for w id fs)
      all_is =
          let e = ap length index_for_lem ∙ length_words_from (names_after w id fs) (rows_after w id fs) in
          let x = n_is in
          let y = d_is in
          let z = p_is in
          omega arith

      pub settle_may : (name_start n + row_width * d + p ≤ length v) × (n < 2 ^ 32) × (d < 2 ^ 32) × (p < 2 ^ 32) × Ascending fs
          × ((rs : List Row) × (length rs ≡ d) × RowsShort (of_features (length fs) fs) rs (take (row_width * d) (drop (name_start n) v)) × (length (lists_of rs) < 2 ^ 32))
      settle_may =
          let t = all_is in
          let i = length_index in
          let l = ap length words ∙ length_moved in
          let b = total_small in
          let c = cuts_room in
          let q = p_is in (
            omega arith,
            omega arith,
            omega arith,
            omega arith,
            a.rise,
            (rows_after w id fs, sym d_is, rw (words, n_is, d_is, rows_moved) short, omega arith),
          )

      pub settle_done : (u : List ℕ) → u ≡ pad_to (length v) (take (name_start n + row_width * d + p) (settled n d p (length fs) fs v)) → u ≡ pad_to (length w) (index_for w id fs)
      unfolding words_for
      settle_done u e =
          e
          ∙ ap₂ (λ (k : ℕ) (l : List ℕ). pad_to k l) (ap length words ∙ length_moved)
          (ap (take (name_start n + row_width * d + p))
          ((λ i. settled (n_is i) (d_is i) (p_is i) (length fs) fs ((words ∙ moved) i))
          ∙ words_added_lem (names_in w) (place_of id (ids_in w)) (word_of (new_entry id fs)) (length fs) id (all_rows_in w) fs within fit a.rise low (drop (total w + length (cuts_for w id fs)) w))
          ∙ take_at (words_from (names_after w id fs) (rows_after w id fs)) (drop (total w + length (cuts_for w id fs)) w) (name_start n + row_width * d + p) (sym (all_is ∙ ap length index_for_lem))
          ∙ sym index_for_lem)

-- ---- a name that is given by its bytes

module _ (w : List ℕ) (id : ℕ) (name : List ℕ) where
  pub add_refused : (number : ℕ) → added_of w id name ≡ number → (number ≡ 0 → ⊥) → (number ≡ added_of w id name) × (w ≡ words_added w id name)
  add_refused number e n = (sym e, sym (added_kept w id name (λ z. n (sym e ∙ z))))

  module _ (good : Good w) (named : judge_of name ≡ 0) (unused : is_live w id ≡ false) (few : name_count w < most_names) (fs : List ℕ) (sorted : fs ≡ sort_of (features_of name)) where
    pub addable : (place : ℕ) → place ≡ place_of id (ids_in w) → ((j : ℕ) → get_or name j 0 < characters) → id ≤ largest_id → Addable w id place fs
    addable place at bytes low =
        let fit = name_fit name id named bytes low in
        record {
          good = good;
          place = at;
          unused = unused;
          few = few;
          rise = rw sorted (ascending_sort (features_of name) fit.distinct);
          fit = rw sorted (sorted_fit (entry_for id name) fit);
        }

    pub add_done : ((k : ℕ) → get_or w k 0 < feature_span) → (r : ℕ) (v : List ℕ) → r ≡ cond (fits_in (length w) (index_for w id fs)) 0 8 → v ≡ changed_if r (index_for w id fs) w
        → (r ≡ added_of w id name) × (v ≡ words_added w id name)
    unfolding words_added
    add_done wide r v number words = (answer, words ∙ ap₂ (λ (n : ℕ) (l : List ℕ). changed_if n l w) answer same)
      where
        same : index_for w id fs ≡ index_with w id name
        same = ap (index_for w id) sorted ∙ sorted_words (entry_for id name) (entries_in w) (good_fit w good (narrow_words w wide)).ids

        answer : r ≡ added_of w id name
        answer = number ∙ ap (λ (l : List ℕ). cond (fits_in (length w) l) 0 8) same ∙ sym (add_rest w id name good named unused few)
