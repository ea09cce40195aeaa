-- The words of an index with one name more: they are put in at places found in the rows as they were, and then the rows' places and counts are
-- worked out anew. `lists_put_in` says so of the postings, `rows-put-in` of the rows; the whole is in
-- WordsAdded.antt.
-- Assumes nothing.
use mathlib.Core.Path.{◌≡◌, refl, sym, ap, ap₂, ◌∙◌}
use mathlib.Core.Logic.{⊎_elim}
use mathlib.Core.Bool.{Bool, true, false, cond, ◌&&◌, ◌||◌, and-or_distrib_left}
use mathlib.Core.List.{List, [], ◌∷◌, ◌++◌}
use Prim.Native.Nat.{ℕ, ◌+◌, ◌*◌, ◌/◌, ◌%◌, ◌≤◌, ◌<◌}
use native.Mathlib.Omega.{arith}
use lib.ListN.{length, get_or, take, replicate, length-append, length-map}
use lib.Dec.{eqb, ltb}
use borrow.Author.Tests.{eqb-true, eq-eqb}
use Rattle.laws.specs.Lists.{member, AllAbove, Ascending, count_of}
use Rattle.laws.specs.Sort.{AllFrom, Sorted}
use Rattle.laws.specs.Each.{Each}
use Rattle.laws.proofs.Below.{and_both, and_false_right}
use Rattle.laws.proofs.Lists.{count_le}
use Rattle.laws.proofs.Members.{member_head, member_tail, each_first, each_rest, each_at, each_of, each_member}
use Rattle.laws.proofs.Order.{le_or_lt, eq_or_ne}
use Rattle.laws.proofs.Sort.{above_member, ascending_one, ascending_sorted, ascending_above, ascending_first, ascending_rest, sorted_insert, from_members}
use Rattle.laws.proofs.Tests.{same_test, test_fails, and_parts}
use Rattle.words.specs.Words.{row_width, feature_span, key_of}
use Rattle.index_writer.specs.Built.{Row, no_row, lists_of, row_words, RowFit, RowsFit}
use Rattle.index_writer.proofs.Read.{length_row_words}
use Rattle.splicing.specs.Splice.{put_at, put_in}
use Rattle.splicing.proofs.Laws.{length_put_in, put_in_append}
use Rattle.binary_search.specs.Seats.{place_of}
use Rattle.changes.specs.Rows.{keys_in, lone_row, row_with, put_posting, with_postings}
use Rattle.changes.specs.Cuts.{RowsShort, of_features, has_row, row_seat, posting_seat, row_cuts, new_rows, posting_cuts}
use Rattle.changes.proofs.Lists.{place_passed, place_first, place_mono, insert_place, sorted_map, put_in_same, put_at_left, put_at_right}
use Rattle.changes.proofs.Put.{put_nil, put_cases, put_keys}
use Rattle.changes.proofs.Later.{postings_keys, later_place}
use Rattle.changes.proofs.Counts.{absent_head, key_postings}
use Rattle.changes.proofs.Placed.{rows_as_words, short_same, short_length, short_keys, short_met, short_new}

-- ---- where the id goes among the postings, row by row

module _ (size id f : ℕ) where
  abbrev key : ℕ
  key = key_of size f

  abbrev seat : List Row → ℕ
  seat rows = posting_seat size id rows f

  seat_nil : seat [] ≡ 0
  unfolding member count_of lists_of
  seat_nil = refl

  seat_passed : (r : Row) (rs : List Row) → r.key < key → seat (r ∷ rs) ≡ length r.list + seat rs
  unfolding lists_of
  seat_passed r rs h =
      rw (place_passed key r.key (keys_in rs) h, absent_head key r.key (keys_in rs) (λ e. omega arith))
      (let e = length-append r.list (lists_of (take (place_of key (keys_in rs)) rs)) in omega arith)

  seat_met : (r : Row) (rs : List Row) → Ascending (keys_in (r ∷ rs)) → r.key ≡ key → seat (r ∷ rs) ≡ place_of id r.list
  unfolding lists_of
  seat_met r rs a e =
      let h : key ≤ r.key = omega arith in
      let m : member key (keys_in (r ∷ rs)) ≡ true = ap (λ (k : ℕ). member k (keys_in (r ∷ rs))) (sym e) ∙ member_head r.key (keys_in rs) in
      rw (place_first key r.key (keys_in rs) a h, m) (omega arith)

  seat_before : (r : Row) (rs : List Row) → Ascending (keys_in (r ∷ rs)) → key < r.key → seat (r ∷ rs) ≡ 0
  unfolding lists_of
  seat_before r rs a h =
      let g : key ≤ r.key = omega arith in
      let m : member key (keys_in (r ∷ rs)) ≡ false =
      absent_head key r.key (keys_in rs) (λ e. omega arith)
      ∙ test_fails (member key (keys_in rs)) (λ o. let b = above_member r.key (keys_in rs) (ascending_above r.key (keys_in rs) a) key o in omega arith)
      in
      rw (place_first key r.key (keys_in rs) a g, m)

  -- what holds in each of the three cases holds
  seat_cases : (r : Row) (rs : List Row) → Ascending (keys_in (r ∷ rs)) → (P : ℕ → Type 0)
      → (r.key < key → P (length r.list + seat rs)) → (r.key ≡ key → P (place_of id r.list)) → (key < r.key → P 0) → P (seat (r ∷ rs))
  seat_cases r rs a P passed met before =
      ⊎_elim
      (λ (h : key ≤ r.key).
      ⊎_elim
      (λ (e : r.key ≡ key). rw (seat_met r rs a e) (met e))
      (λ (n : r.key ≡ key → ⊥). let g : key < r.key = omega arith in rw (seat_before r rs a g) (before g))
      (eq_or_ne r.key key))
      (λ (h : r.key < key). rw (seat_passed r rs h) (passed h))
      (le_or_lt key r.key)

  -- it is a place among the postings
  seat_most : (rows : List Row) → Ascending (keys_in rows) → seat rows ≤ length (lists_of rows)
  unfolding lists_of
  seat_most [] a = let e = seat_nil in omega arith
  seat_most (r ∷ rs) a =
      let l = length-append r.list (lists_of rs) in
      seat_cases r rs a (λ (n : ℕ). n ≤ length (r.list ++ lists_of rs))
      (λ h. let k = seat_most rs (ascending_rest r.key (keys_in rs) a) in omega arith)
      (λ e. let k = count_le (λ (y : ℕ). ltb y id) r.list in omega arith)
      (λ h. omega arith)

  -- a posting of a higher key leaves it
  seat_put : (higher : ℕ) → key < higher → (rows : List Row) → Ascending (keys_in rows) → seat (put_posting higher id rows) ≡ seat rows
  seat_put higher b [] a = ap seat (put_nil higher id) ∙ seat_before (lone_row higher id) [] (ascending_one higher) b ∙ sym seat_nil
  seat_put higher b (r ∷ rs) a =
      put_cases higher id r rs (λ (l : List Row). Ascending (keys_in l) → seat l ≡ seat (r ∷ rs))
      (λ h c.
      seat_cases r rs a (λ (n : ℕ). seat (r ∷ put_posting higher id rs) ≡ n)
      (λ g. seat_passed r (put_posting higher id rs) g ∙ ap (λ (n : ℕ). length r.list + n) (seat_put higher b rs (ascending_rest r.key (keys_in rs) a)))
      (λ e. seat_met r (put_posting higher id rs) c e)
      (λ g. seat_before r (put_posting higher id rs) c g))
      (λ e c. seat_before (row_with id r) rs c (omega arith) ∙ sym (seat_before r rs a (omega arith)))
      (λ h c. seat_before (lone_row higher id) (r ∷ rs) c b ∙ sym (seat_before r rs a (omega arith)))
      (put_keys higher id (r ∷ rs) a)

  -- and is the same, so, once higher features have their postings
  seat_later : (fs : List ℕ) (rows : List Row) → Ascending (keys_in rows) → AllAbove f fs → seat (with_postings size fs id rows) ≡ seat rows
  unfolding with_postings AllAbove
  seat_later [] rows a h = refl
  seat_later (g ∷ fs) rows a h =
      let b = h.0 in
      seat_put (key_of size g) (omega arith) (with_postings size fs id rows) (postings_keys size id fs rows a) ∙ seat_later fs rows a h.1

  -- the id is put in there
  lists_put : (rows : List Row) → Ascending (keys_in rows) → Each (λ (r : Row). Sorted r.list) rows
      → lists_of (put_posting key id rows) ≡ put_at (seat rows) id (lists_of rows)
  unfolding lists_of
  lists_put [] a s = ap lists_of (put_nil key id) ∙ ap (λ (n : ℕ). put_at n id []) (sym seat_nil)
  lists_put (r ∷ rs) a s =
      put_cases key id r rs (λ (l : List Row). lists_of l ≡ put_at (seat (r ∷ rs)) id (r.list ++ lists_of rs))
      (λ h.
      ap (λ (l : List ℕ). r.list ++ l) (lists_put rs (ascending_rest r.key (keys_in rs) a) (each_rest (λ (x : Row). Sorted x.list) r rs s))
      ∙ sym (put_at_right (seat rs) id r.list (lists_of rs))
      ∙ ap (λ (n : ℕ). put_at n id (r.list ++ lists_of rs)) (sym (seat_passed r rs h)))
      (λ e.
      ap (λ (l : List ℕ). l ++ lists_of rs) (insert_place id r.list (each_first (λ (x : Row). Sorted x.list) r rs s))
      ∙ sym (put_at_left (place_of id r.list) id r.list (lists_of rs) (count_le (λ (y : ℕ). ltb y id) r.list))
      ∙ ap (λ (n : ℕ). put_at n id (r.list ++ lists_of rs)) (sym (seat_met r rs a e)))
      (λ h. ap (λ (n : ℕ). put_at n id (r.list ++ lists_of rs)) (sym (seat_before r rs a h)))

-- a higher feature has no lower place
seat_mono : (size id f g : ℕ) → f < g → (rows : List Row) → Ascending (keys_in rows) → posting_seat size id rows f ≤ posting_seat size id rows g
seat_mono size id f g b [] a = let e = seat_nil size id f in omega arith
seat_mono size id f g b (r ∷ rs) a =
    seat_cases size id f r rs a (λ (n : ℕ). n ≤ posting_seat size id (r ∷ rs) g)
    (λ h. let p = seat_passed size id g r rs (omega arith) in let k = seat_mono size id f g b rs (ascending_rest r.key (keys_in rs) a) in omega arith)
    (λ e. let p = seat_passed size id g r rs (omega arith) in let k = count_le (λ (y : ℕ). ltb y id) r.list in omega arith)
    (λ h. omega arith)

-- ---- the lists stay sorted

sorted_put : (key id : ℕ) (rows : List Row) → Each (λ (r : Row). Sorted r.list) rows → Each (λ (r : Row). Sorted r.list) (put_posting key id rows)
unfolding Each
sorted_put key id [] s = rw (put_nil key id) (ascending_sorted (id ∷ []) (ascending_one id), tt)
sorted_put key id (r ∷ rs) s =
    put_cases key id r rs (Each (λ (x : Row). Sorted x.list))
    (λ h. (s.0, sorted_put key id rs s.1))
    (λ e. (sorted_insert id r.list s.0, s.1))
    (λ h. (ascending_sorted (id ∷ []) (ascending_one id), s))

sorted_postings : (size id : ℕ) (fs : List ℕ) (rows : List Row) → Each (λ (r : Row). Sorted r.list) rows
    → Each (λ (r : Row). Sorted r.list) (with_postings size fs id rows)
unfolding with_postings
sorted_postings size id [] rows s = s
sorted_postings size id (f ∷ fs) rows s = sorted_put (key_of size f) id (with_postings size fs id rows) (sorted_postings size id fs rows s)

-- ---- the rows of the size and the features

key_test : (size f k : ℕ) → f < feature_span → eqb k (key_of size f) ≡ eqb (k / feature_span) size && eqb (k % feature_span) f
key_test size f k b =
    same_test (eqb k (key_of size f)) (eqb (k / feature_span) size && eqb (k % feature_span) f)
    (λ h.
    let e = eqb-true k (key_of size f) h in
    and_both (eqb (k / feature_span) size) (eqb (k % feature_span) f) (eq-eqb (k / feature_span) size (omega arith)) (eq-eqb (k % feature_span) f (omega arith)))
    (λ h.
    let p = and_parts (eqb (k / feature_span) size) (eqb (k % feature_span) f) h in
    let s = eqb-true (k / feature_span) size p.0 in
    let e = eqb-true (k % feature_span) f p.1 in
    eq-eqb k (key_of size f) (omega arith))

features_cons : (size f : ℕ) (fs : List ℕ) (k : ℕ) → f < feature_span → eqb k (key_of size f) || of_features size fs k ≡ of_features size (f ∷ fs) k
unfolding member
features_cons size f fs k b =
    ap (λ (t : Bool). t || of_features size fs k) (key_test size f k b)
    ∙ sym (and-or_distrib_left (eqb (k / feature_span) size) (eqb (k % feature_span) f) (member (k % feature_span) fs))

features_fresh : (size f : ℕ) (fs : List ℕ) → Ascending (f ∷ fs) → f < feature_span → of_features size fs (key_of size f) ≡ false
features_fresh size f fs rise b =
    let e : key_of size f % feature_span ≡ f = omega arith in
    and_false_right (eqb (key_of size f / feature_span) size) (member (key_of size f % feature_span) fs)
    (ap (λ (g : ℕ). member g fs) e ∙ ascending_first f fs rise)

-- ---- where rows go

same_cuts : (b : Bool) (a s f : ℕ) → length (cond b [] (replicate row_width a)) ≡ length (cond b [] (s ∷ f ∷ 0 ∷ 0 ∷ []))
same_cuts true a s f = refl
same_cuts false a s f = refl

module _ (size : ℕ) (rows : List Row) where
  pub length_row_cuts : (fs : List ℕ) → length (row_cuts size rows fs) ≡ length (new_rows size rows fs)
  unfolding row_cuts new_rows
  length_row_cuts [] = refl
  length_row_cuts (f ∷ fs) =
      simp length-append (ap₂ ◌+◌ (same_cuts (has_row size rows f) (row_width * row_seat size rows f) size f) (length_row_cuts fs))

  -- what holds of every feature's place holds of all of these
  each_row_cut : (P : ℕ → Type 0) (fs : List ℕ) → ((f : ℕ) → member f fs ≡ true → P (row_width * row_seat size rows f)) → Each P (row_cuts size rows fs)
  unfolding row_cuts Each
  each_row_cut P [] h = tt
  each_row_cut P (f ∷ fs) h = by_test (has_row size rows f) (h f (member_head f fs)) (each_row_cut P fs (λ g m. h g (member_tail f g fs m)))
    where
      by_test : (b : Bool) → P (row_width * row_seat size rows f) → Each P (row_cuts size rows fs)
          → Each P (cond b [] (replicate row_width (row_width * row_seat size rows f)) ++ row_cuts size rows fs)
      by_test true p k = k
      by_test false p k = (p, (p, (p, (p, k))))

  pub row_cuts_most : (fs : List ℕ) → Each (λ (p : ℕ). p ≤ length (row_words 0 rows)) (row_cuts size rows fs)
  row_cuts_most fs =
      each_row_cut (λ (p : ℕ). p ≤ length (row_words 0 rows)) fs
      (λ f m.
      let l = length_row_words 0 rows in
      let c = count_le (λ (y : ℕ). ltb y (key_of size f)) (keys_in rows) in
      let k = length-map rows (λ (r : Row). r.key) in
      omega arith)

  pub row_cuts_sorted : (fs : List ℕ) → Ascending fs → Sorted (row_cuts size rows fs)
  unfolding row_cuts Sorted AllFrom
  row_cuts_sorted [] rise = tt
  row_cuts_sorted (f ∷ fs) rise = by_test (has_row size rows f) (row_cuts_sorted fs (ascending_rest f fs rise))
    where
      a : ℕ
      a = row_width * row_seat size rows f

      from : AllFrom a (row_cuts size rows fs)
      from =
          from_members a (row_cuts size rows fs)
          (each_member (λ (p : ℕ). a ≤ p) (row_cuts size rows fs)
          (each_row_cut (λ (p : ℕ). a ≤ p) fs
          (λ g m.
          let b = above_member f fs (ascending_above f fs rise) g m in
          let k = place_mono (key_of size f) (key_of size g) (keys_in rows) (omega arith) in
          omega arith)))

      by_test : (b : Bool) → Sorted (row_cuts size rows fs) → Sorted (cond b [] (replicate row_width a) ++ row_cuts size rows fs)
      by_test true s = s
      by_test false s = let l : a ≤ a = omega arith in ((l, (l, (l, from))), ((l, (l, from)), ((l, from), (from, s))))

-- ---- where postings go: one place for each feature

pub length_posting_cuts : (size id : ℕ) (rows : List Row) (fs : List ℕ) → length (posting_cuts size id rows fs) ≡ length fs
unfolding posting_cuts
length_posting_cuts size id rows fs = length-map fs (posting_seat size id rows)

module _ (size id : ℕ) (rows : List Row) (up : Ascending (keys_in rows)) where
  pub posting_cuts_most : (fs : List ℕ) → Each (λ (p : ℕ). p ≤ length (lists_of rows)) (posting_cuts size id rows fs)
  unfolding posting_cuts Each
  posting_cuts_most [] = tt
  posting_cuts_most (f ∷ fs) = (seat_most size id f rows up, posting_cuts_most fs)

  pub posting_cuts_sorted : (fs : List ℕ) → Ascending fs → Sorted (posting_cuts size id rows fs)
  unfolding posting_cuts
  posting_cuts_sorted fs rise = sorted_map (posting_seat size id rows) (λ f g b. seat_mono size id f g b rows up) fs rise

-- ---- the words put in

module _ (size id : ℕ) (rows : List Row) (fit : RowsFit rows) where
  sorted : Each (λ (r : Row). Sorted r.list) rows
  sorted = each_of (λ (r : Row). Sorted r.list) rows no_row (λ i h. let f = each_at RowFit rows i no_row fit.each h in ascending_sorted (get_or rows i no_row).list f.up)

  pub lists_put_in : (fs : List ℕ) → Ascending fs
      → lists_of (with_postings size fs id rows) ≡ put_in (posting_cuts size id rows fs) (replicate (length fs) id) (lists_of rows)
  unfolding with_postings posting_cuts put_in
  lists_put_in [] rise = refl
  lists_put_in (f ∷ fs) rise =
      lists_put size id f (with_postings size fs id rows) (postings_keys size id fs rows fit.keys) (sorted_postings size id fs rows sorted)
      ∙ ap₂ (λ (n : ℕ) (l : List ℕ). put_at n id l) (seat_later size id f fs rows fit.keys (ascending_above f fs rise)) (lists_put_in fs (ascending_rest f fs rise))

  -- one feature: its row's words are put in, unless they are there
  row_put : (f : ℕ) (fs : List ℕ) → Ascending (f ∷ fs) → f < feature_span → (ws : List ℕ) → RowsShort (of_features size fs) (with_postings size fs id rows) ws
      → RowsShort (of_features size (f ∷ fs)) (put_posting (key_of size f) id (with_postings size fs id rows))
      (put_in (cond (has_row size rows f) [] (replicate row_width (row_width * row_seat size rows f))) (cond (has_row size rows f) [] (size ∷ f ∷ 0 ∷ 0 ∷ [])) ws)
  unfolding put_in
  row_put f fs rise low ws h =
      rw (← key_postings size f id fs rows (ascending_first f fs rise))
      (short_keys also (of_features size (f ∷ fs)) (put_posting key id now) (after (member key (keys_in now))) (λ k m. features_cons size f fs k low) (by_test (member key (keys_in now)) refl))
    where
      key : ℕ
      key = key_of size f

      now : List Row
      now = with_postings size fs id rows

      also : ℕ → Bool
      also k = eqb k key || of_features size fs k

      after : Bool → List ℕ
      after b = put_in (cond b [] (replicate row_width (row_width * row_seat size rows f))) (cond b [] (size ∷ f ∷ 0 ∷ 0 ∷ [])) ws

      place : place_of key (keys_in now) ≡ row_seat size rows f
      place = later_place size f id fs rows fit.keys (ascending_above f fs rise)

      room : row_width * row_seat size rows f ≤ length ws
      room =
          let p = place in
          let l = short_length (of_features size fs) now ws h in
          let c = count_le (λ (y : ℕ). ltb y key) (keys_in now) in
          let m = length-map now (λ (r : Row). r.key) in
          omega arith

      by_test : (b : Bool) → member key (keys_in now) ≡ b → RowsShort also (put_posting key id now) (after b)
      by_test true m = short_met (of_features size fs) key id (features_fresh size f fs rise low) now ws (postings_keys size id fs rows fit.keys) m h
      by_test false m =
          let s : key / feature_span ≡ size = omega arith in
          let g : key % feature_span ≡ f = omega arith in
          rw (put_in_same (row_width * row_seat size rows f) (size ∷ f ∷ 0 ∷ 0 ∷ []) ws room)
          (rw (place, s, g) at (short_new (of_features size fs) key id (features_fresh size f fs rise low) now ws (postings_keys size id fs rows fit.keys) m h))

  -- all features: the rows' words, but for the places and the new postings
  pub rows_short : (fs : List ℕ) → Ascending fs → Each (λ (f : ℕ). f < feature_span) fs
      → RowsShort (of_features size fs) (with_postings size fs id rows) (put_in (row_cuts size rows fs) (new_rows size rows fs) (row_words 0 rows))
  unfolding with_postings row_cuts new_rows put_in Each
  rows_short [] rise low = short_same size rows (row_words 0 rows) (rows_as_words 0 rows)
  rows_short (f ∷ fs) rise low =
      rw (put_in_append (cond (has_row size rows f) [] (replicate row_width (row_width * row_seat size rows f))) (cond (has_row size rows f) [] (size ∷ f ∷ 0 ∷ 0 ∷ [])) (row_cuts size rows fs) (new_rows size rows fs) (row_words 0 rows) (same_cuts (has_row size rows f) (row_width * row_seat size rows f) size f))
      (row_put f fs rise low.0 (put_in (row_cuts size rows fs) (new_rows size rows fs) (row_words 0 rows)) (rows_short fs (ascending_rest f fs rise) low.1))

  -- four words for each row more
  pub length_rows_put_in : (fs : List ℕ) → Ascending fs → Each (λ (f : ℕ). f < feature_span) fs
      → length (row_cuts size rows fs) + row_width * length rows ≡ row_width * length (with_postings size fs id rows)
  length_rows_put_in fs rise low =
      let a = short_length (of_features size fs) (with_postings size fs id rows) (put_in (row_cuts size rows fs) (new_rows size rows fs) (row_words 0 rows)) (rows_short fs rise low) in
      let b = length_put_in (row_cuts size rows fs) (new_rows size rows fs) (row_words 0 rows) (length_row_cuts size rows fs) in
      let c = length_row_words 0 rows in
      omega arith
