-- Words that agree up to the total have the same head, names and rows and, where they are good, the same lists; and one is good
-- where the other is. Laws.antt hands this last on (`good_total`, `verdict_total`); the others are cited by `lists`, `sizes` and `statements`.
-- Assumes nothing.
use mathlib.Core.Path.{◌≡◌, refl, sym, ap, ap₂, ◌∙◌}
use mathlib.Core.Bool.{true, cond, ◌&&◌, ◌||◌}
use mathlib.Core.List.{List}
use Prim.Native.Nat.{ℕ, zero, suc, ◌+◌, ◌-◌, ◌*◌, ◌/◌, ◌%◌, ◌≤◌, ◌<◌}
use native.Mathlib.Omega.{arith}
use lib.ListN.{length, get_or, take, drop, length-take, length-drop}
use lib.Seq.{get_or-take, get_or-drop, ext_get_or}
use lib.Dec.{leb, ltb, eqb}
use borrow.Author.Tests.{le-leb}
use Rattle.laws.specs.Lists.{member}
use Rattle.laws.specs.Below.{all_below, any_below, sum_below, count_below}
use Rattle.laws.proofs.Below.{and_both, and_left, and_right, all_ext, sum_below_ext}
use Rattle.laws.proofs.FirstFound.{any_ext}
use Rattle.names.specs.Features.{most_features}
use Rattle.words.specs.Words.{head_width, name_count, row_count, posting_count, name_start, size_room, row_width, feature_column, place_column, length_column, name_word, name_id, name_size, row_size, row_feature, row_place, row_length, row_start, postings_start, posting, list_start, list_at, total}
use Rattle.index.specs.Good.{most_names, most_postings, largest_id, least_size, head_good, name_good, names_good, row_before, place_due, row_good, rows_good, is_name, list_good, lists_with, lists_good, good_of, Good}
use Rattle.index.proofs.Facts.{Rows, good_facts, list_within}

module _ (w v : List ℕ) (same : take (total w) w ≡ take (total w) v) (long : total w ≤ length v) where
  at : (i : ℕ) → i < total w → get_or v i 0 ≡ get_or w i 0
  at i l = sym (get_or-take (total w) v i 0 l) ∙ ap (λ (x : List ℕ). get_or x i 0) (sym same) ∙ get_or-take (total w) w i 0 l

  -- ---- the accessors agree

  pub names_same : name_count v ≡ name_count w
  names_same = at 0 (omega arith)

  pub rows_same : row_count v ≡ row_count w
  rows_same = at 1 (omega arith)

  postings_same : posting_count v ≡ posting_count w
  postings_same = at 2 (omega arith)

  word_same : (i : ℕ) → i < name_count w → name_word v i ≡ name_word w i
  unfolding name_word
  word_same i l = at (name_start i) (omega arith)

  pub id_same : (i : ℕ) → i < name_count w → name_id v i ≡ name_id w i
  unfolding name_id
  id_same i l = ap (λ (x : ℕ). x / size_room) (word_same i l)

  pub size_same : (i : ℕ) → i < name_count w → name_size v i ≡ name_size w i
  unfolding name_size
  size_same i l = ap (λ (x : ℕ). x % size_room) (word_same i l)

  row_start_lem : (r : ℕ) → row_start v r ≡ row_start w r
  row_start_lem r = ap (λ (n : ℕ). name_start n + row_width * r) names_same

  pub row_size_same : (r : ℕ) → r < row_count w → row_size v r ≡ row_size w r
  unfolding row_size
  row_size_same r l = ap (λ (n : ℕ). get_or v n 0) (row_start_lem r) ∙ at (row_start w r) (omega arith)

  pub feature_same : (r : ℕ) → r < row_count w → row_feature v r ≡ row_feature w r
  unfolding row_feature
  feature_same r l = ap (λ (n : ℕ). get_or v (n + feature_column) 0) (row_start_lem r) ∙ at (row_start w r + feature_column) (omega arith)

  place_same : (r : ℕ) → r < row_count w → row_place v r ≡ row_place w r
  unfolding row_place
  place_same r l = ap (λ (n : ℕ). get_or v (n + place_column) 0) (row_start_lem r) ∙ at (row_start w r + place_column) (omega arith)

  length_same : (r : ℕ) → r < row_count w → row_length v r ≡ row_length w r
  unfolding row_length
  length_same r l = ap (λ (n : ℕ). get_or v (n + length_column) 0) (row_start_lem r) ∙ at (row_start w r + length_column) (omega arith)

  postings_start_lem : postings_start v ≡ postings_start w
  postings_start_lem = ap₂ (λ (n d : ℕ). name_start n + row_width * d) names_same rows_same

  pub total_same : total v ≡ total w
  total_same = ap₂ ◌+◌ postings_start_lem postings_same

  posting_same : (k : ℕ) → k < posting_count w → posting v k ≡ posting w k
  unfolding posting
  posting_same k l = ap (λ (n : ℕ). get_or v (n + k) 0) postings_start_lem ∙ at (postings_start w + k) (omega arith)

  -- ---- of a good index the lists too

  module _ (good : Good w) where
    rows : Rows w
    rows = (good_facts w good).rows

    pub list_same : (r : ℕ) → r < row_count w → list_at v r ≡ list_at w r
    unfolding list_at
    list_same r l =
        let h = list_within w rows r l in
        let t = (good_facts w good).head.within in
        let s : list_start v r ≡ list_start w r = ap₂ ◌+◌ postings_start_lem (place_same r l) in
        ap₂ (λ (n m : ℕ). take n (drop m v)) (length_same r l) s
        ∙ ext_get_or 0 (take (row_length w r) (drop (list_start w r) v)) (take (row_length w r) (drop (list_start w r) w))
        (let a : length (take (row_length w r) (drop (list_start w r) v)) ≡ row_length w r = simp (length-take, length-drop) (omega arith) in
        let b : length (take (row_length w r) (drop (list_start w r) w)) ≡ row_length w r = simp (length-take, length-drop) (omega arith) in
        a ∙ sym b)
        (λ i m.
        let a : length (take (row_length w r) (drop (list_start w r) v)) ≡ row_length w r = simp (length-take, length-drop) (omega arith) in
        let k : i < row_length w r = omega arith in
        get_or-take (row_length w r) (drop (list_start w r) v) i 0 k ∙ get_or-drop (list_start w r) v i 0
        ∙ at (list_start w r + i) (omega arith)
        ∙ sym (get_or-take (row_length w r) (drop (list_start w r) w) i 0 k ∙ get_or-drop (list_start w r) w i 0))

    -- ---- so do the tests

    head_good_lem : head_good v ≡ true
    unfolding head_good
    head_good_lem =
        let h = (good_facts w good).head in
        let a = h.names in
        let b = h.postings in
        let n = names_same in
        let d = rows_same in
        let p = postings_same in
        and_both _ _
        (and_both _ _ (and_both _ _ (le-leb head_width (length v) (omega arith)) (le-leb (name_count v) most_names (omega arith)))
        (le-leb (posting_count v) most_postings (omega arith)))
        (le-leb (total v) (length v) (omega arith))

    names_good_lem : names_good v ≡ names_good w
    unfolding names_good name_good
    names_good_lem =
        ap₂ ◌&&◌
        (ap (λ (n : ℕ). all_below n (name_good v)) names_same
        ∙ all_ext (name_count w) (name_good v) (name_good w)
        (λ i l. ap₂ (λ (a b : ℕ). leb a largest_id && leb least_size b && leb b most_features) (id_same i l) (size_same i l)))
        (ap (λ (n : ℕ). all_below (n - 1) (λ (i : ℕ). ltb (name_id v i) (name_id v (i + 1)))) names_same
        ∙ all_ext (name_count w - 1) _ _ (λ i l. ap₂ ltb (id_same i (omega arith)) (id_same (i + 1) (omega arith))))

    before_same : (r s : ℕ) → r < row_count w → s < row_count w → row_before v r s ≡ row_before w r s
    unfolding row_before
    before_same r s l m =
        ap₂ ◌||◌ (ap₂ ltb (row_size_same r l) (row_size_same s m))
        (ap₂ ◌&&◌ (ap₂ eqb (row_size_same r l) (row_size_same s m)) (ap₂ ltb (feature_same r l) (feature_same s m)))

    due_same : (r : ℕ) → r < row_count w → place_due v r ≡ place_due w r
    unfolding place_due
    due_same zero l = refl
    due_same (suc r) l = ap₂ ◌+◌ (place_same r (omega arith)) (length_same r (omega arith))

    rows_good_lem : rows_good v ≡ rows_good w
    unfolding rows_good row_good
    rows_good_lem =
        ap₂ ◌&&◌
        (ap₂ ◌&&◌
        (ap (λ (n : ℕ). all_below n (row_good v)) rows_same
        ∙ all_ext (row_count w) (row_good v) (row_good w)
        (λ r l. ap₂ ◌&&◌ (ap (leb 1) (length_same r l)) (ap₂ eqb (place_same r l) (due_same r l))))
        (ap (λ (n : ℕ). all_below (n - 1) (λ (r : ℕ). row_before v r (r + 1))) rows_same
        ∙ all_ext (row_count w - 1) _ _ (λ r l. before_same r (r + 1) (omega arith) (omega arith))))
        (ap₂ eqb
        (ap (λ (n : ℕ). sum_below n (row_length v)) rows_same ∙ sum_below_ext (row_count w) (row_length v) (row_length w) length_same)
        postings_same)

    name_same : (y y' x x' : ℕ) → y ≡ y' → x ≡ x' → is_name v y x ≡ is_name w y' x'
    unfolding is_name
    name_same y y' x x' p q =
        ap (λ (n : ℕ). any_below n (λ (i : ℕ). eqb (name_id v i) x && eqb (name_size v i) y)) names_same
        ∙ any_ext (name_count w) _ _ (λ i l. ap₂ ◌&&◌ (ap₂ eqb (id_same i l) q) (ap₂ eqb (size_same i l) p))

    at_same : (r k : ℕ) → r < row_count w → k < row_length w r → posting v (row_place v r + k) ≡ posting w (row_place w r + k)
    at_same r k l m =
        let h = list_within w rows r l in
        ap (λ (n : ℕ). posting v (n + k)) (place_same r l) ∙ posting_same (row_place w r + k) (omega arith)

    list_good_lem : (r : ℕ) → r < row_count w → list_good v r ≡ list_good w r
    unfolding list_good
    list_good_lem r l =
        ap₂ ◌&&◌
        (ap (λ (n : ℕ). all_below (n - 1) (λ (k : ℕ). ltb (posting v (row_place v r + k)) (posting v (row_place v r + (k + 1))))) (length_same r l)
        ∙ all_ext (row_length w r - 1) _ _ (λ k m. ap₂ ltb (at_same r k l (omega arith)) (at_same r (k + 1) l (omega arith))))
        (ap (λ (n : ℕ). all_below n (λ (k : ℕ). is_name v (row_size v r) (posting v (row_place v r + k)))) (length_same r l)
        ∙ all_ext (row_length w r) _ _ (λ k m. name_same _ _ _ _ (row_size_same r l) (at_same r k l m)))

    with_same : (x y : ℕ) → x ≡ y → lists_with v x ≡ lists_with w y
    unfolding lists_with
    with_same x y e =
        ap (λ (n : ℕ). count_below n (λ (r : ℕ). member x (list_at v r))) rows_same
        ∙ sum_below_ext (row_count w) _ _ (λ r l. ap₂ (λ (a : ℕ) (b : List ℕ). cond (member a b) 1 0) e (list_same r l))

    lists_good_lem : lists_good v ≡ lists_good w
    unfolding lists_good
    lists_good_lem =
        ap₂ ◌&&◌
        (ap (λ (n : ℕ). all_below n (list_good v)) rows_same ∙ all_ext (row_count w) (list_good v) (list_good w) list_good_lem)
        (ap (λ (n : ℕ). all_below n (λ (i : ℕ). eqb (lists_with v (name_id v i)) (name_size v i))) names_same
        ∙ all_ext (name_count w) _ _ (λ i l. ap₂ eqb (with_same (name_id v i) (name_id w i) (id_same i l)) (size_same i l)))

    pub total_good : Good v
    unfolding good_of
    total_good =
        let abc = and_left (head_good w && names_good w && rows_good w) (lists_good w) good in
        let ab = and_left (head_good w && names_good w) (rows_good w) abc in
        and_both _ _
        (and_both _ _ (and_both _ _ head_good_lem (names_good_lem ∙ and_right (head_good w) (names_good w) ab))
        (rows_good_lem ∙ and_right (head_good w && names_good w) (rows_good w) abc))
        (lists_good_lem ∙ and_right (head_good w && names_good w && rows_good w) (lists_good w) good)
