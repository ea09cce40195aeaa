-- One posting more among the rows: how many rows there are, and their words.
-- Assumes nothing.
use mathlib.Core.Path.{◌≡◌, refl, sym, ap, ap₂, ◌∙◌}
use mathlib.Core.Logic.{◌⊎◌, ⊎_elim}
use mathlib.Core.Bool.{Bool, true, false, cond, true≢false}
use mathlib.Core.List.{List, [], ◌∷◌, ◌++◌}
use Prim.Native.Nat.{ℕ, zero, suc, ◌+◌, ◌*◌, ◌-◌, ◌/◌, ◌%◌, ◌≤◌, ◌<◌}
use native.Mathlib.Omega.{arith}
use borrow.Author.Tests.{not-true, not-false, eqb-true, eqb-false, le-leb, lt-leb}
use lib.ListN.{length, get_or, take, drop, set, length-append}
use lib.Seq.{length-take-le, take_all, take_at, take-set-lt, get_or-take, get_or-append-add, sets, sets-eq}
use lib.Dec.{eqb}
use Rattle.laws.proofs.Tests.{cond_most}
use Rattle.laws.proofs.Order.{le_or_lt}
use Rattle.words.specs.Words.{row_width, feature_span}
use Rattle.index_writer.specs.Built.{Row, one_row, longer_row, id_span, lists_of, runs_of, row_words}
use Rattle.index_writer.proofs.Runs.{length_runs}
use Rattle.index_writer.proofs.Pass.{pass_new, pass_more}
use Rattle.index_writer.proofs.Read.{length_row_words, row_words_append, words_new, words_more, lists_append}
use Rattle.index_writer.specs.Steps.{begins_row, new_row, grown_row, RowsAt}

-- ---- a new row, or a longer one

pub begins_new : (ks : List ℕ) (i : ℕ) → i < length ks → begins_row ks i ≡ true
    → runs_of (take (i + 1) ks) ≡ runs_of (take i ks) ++ (one_row (get_or ks i 0) ∷ [])
unfolding begins_row
begins_new ks zero h b = pass_new ks 0 h (λ j e q. omega arith)
begins_new ks (suc m) h b =
    pass_new ks (suc m) h
    (λ j e q.
    let z : j ≡ m = omega arith in
    eqb-false (get_or ks m 0 / id_span) (get_or ks (suc m) 0 / id_span) (not-true (eqb (get_or ks m 0 / id_span) (get_or ks (suc m) 0 / id_span)) b) (ap (λ (x : ℕ). get_or ks x 0 / id_span) (sym z) ∙ q))

pub begins_more : (ks : List ℕ) (i : ℕ) → i < length ks → begins_row ks i ≡ false
    → (rs : List Row)
    × (r : Row)
    × (r.key ≡ get_or ks i 0 / id_span)
    × (runs_of (take i ks) ≡ rs ++ (r ∷ []))
    × (runs_of (take (i + 1) ks) ≡ rs ++ (longer_row r (get_or ks i 0 % id_span) ∷ []))
unfolding begins_row
begins_more ks zero h b = absurd (true≢false b)
begins_more ks (suc m) h b =
    let e : m + 1 ≡ suc m = omega arith in
    pass_more ks (suc m) m h e (eqb-true (get_or ks m 0 / id_span) (get_or ks (suc m) 0 / id_span) (not-false (eqb (get_or ks m 0 / id_span) (get_or ks (suc m) 0 / id_span)) b))

-- ---- how many rows

pub rows_nil : (ks : List ℕ) → length (runs_of (take 0 ks)) ≡ 0
unfolding runs_of
rows_nil ks = refl

pub rows_step : (ks : List ℕ) (i : ℕ) → i < length ks → length (runs_of (take (i + 1) ks)) ≡ length (runs_of (take i ks)) + cond (begins_row ks i) 1 0
rows_step ks i h = by_test (begins_row ks i) refl
  where
    by_test : (t : Bool) → begins_row ks i ≡ t → length (runs_of (take (i + 1) ks)) ≡ length (runs_of (take i ks)) + cond t 1 0
    by_test true e = ap length (begins_new ks i h e) ∙ length-append (runs_of (take i ks)) (one_row (get_or ks i 0) ∷ [])
    by_test false e =
        let p = begins_more ks i h e in
        let a = ap length p.3 ∙ length-append p.0 (p.1 ∷ []) in
        let b = ap length p.4 ∙ length-append p.0 (longer_row p.1 (get_or ks i 0 % id_span) ∷ []) in
        omega arith

-- no more than postings
pub rows_few : (ks : List ℕ) (i : ℕ) → i ≤ length ks → length (runs_of (take i ks)) ≤ i
rows_few ks zero h = let e = rows_nil ks in omega arith
rows_few ks (suc i) h =
    let e : suc i ≡ i + 1 = omega arith in
    let a = rows_few ks i (omega arith) in
    let b = rows_step ks i (omega arith) in
    let m = cond_most (begins_row ks i) 1 in
    let f = ap (λ (n : ℕ). length (runs_of (take n ks))) e in
    omega arith

pub rows_most : (ks : List ℕ) → length (runs_of ks) ≤ length ks
rows_most ks =
    let r = rows_few ks (length ks) (omega arith) in
    let e = ap (λ (l : List ℕ). length (runs_of l)) (take_all (length ks) ks (omega arith)) in
    omega arith

-- ---- their words

postings : (ks : List ℕ) (i : ℕ) → i ≤ length ks → length (lists_of (runs_of (take i ks))) ≡ i
postings ks i h = length_runs (take i ks) ∙ length-take-le i ks h

pub at_nil : (ks out : List ℕ) → RowsAt ks 0 0 out
at_nil ks out = record { count = sym (rows_nil ks); words = λ h. unfold runs_of row_words in refl }

-- a posting that begins a row
module _ (ks out : List ℕ) (i d : ℕ) (h : i < length ks) (b : begins_row ks i ≡ true) (a : RowsAt ks i d out) where
  count_new : d + 1 ≡ length (runs_of (take (i + 1) ks))
  count_new =
      let s = rows_step ks i h in
      let z : ◌≡◌ {A = ℕ} (cond (begins_row ks i) 1 0) 1 = ap (λ (t : Bool). cond t 1 0) b in
      let n = a.count in
      omega arith

  four : List ℕ
  four = (get_or ks i 0 / id_span / feature_span) ∷ (get_or ks i 0 / id_span % feature_span) ∷ i ∷ 1 ∷ []

  words_four : row_width * d + 4 ≤ length out → take (row_width * (d + 1)) (sets out (row_width * d) four) ≡ row_words 0 (runs_of (take (i + 1) ks))
  unfolding four
  words_four room =
      ap (take (row_width * (d + 1))) (sets-eq four out (row_width * d) room)
      ∙ take_at (take (row_width * d) out ++ four) (drop (row_width * d + 4) out) (row_width * (d + 1)) size
      ∙ ap (λ (l : List ℕ). l ++ four) (a.words (omega arith))
      ∙ ap (λ (n : ℕ). row_words 0 (runs_of (take i ks)) ++ ((get_or ks i 0 / id_span / feature_span) ∷ (get_or ks i 0 / id_span % feature_span) ∷ n ∷ 1 ∷ [])) (sym (postings ks i (omega arith)))
      ∙ sym (words_new (runs_of (take i ks)) (get_or ks i 0))
      ∙ ap (row_words 0) (sym (begins_new ks i h b))
    where
      size : length (take (row_width * d) out ++ four) ≡ row_width * (d + 1)
      size =
          let p = length-append (take (row_width * d) out) four in
          let q = length-take-le (row_width * d) out (omega arith) in
          omega arith

  pub at_new : (after : List ℕ) → after ≡ new_row (get_or ks i 0 / id_span / feature_span) (get_or ks i 0 / id_span % feature_span) i out d → RowsAt ks (i + 1) (d + 1) after
  unfolding new_row four
  at_new after e = by_room (le_or_lt (row_width * d + 4) (length out))
    where
      by_room : (row_width * d + 4 ≤ length out) ⊎ (length out < row_width * d + 4) → RowsAt ks (i + 1) (d + 1) after
      by_room c =
          ⊎_elim
          (λ (r : row_width * d + 4 ≤ length out).
          record { count = count_new; words = λ q. ap (take (row_width * (d + 1))) (e ∙ rw (le-leb (row_width * d + 4) (length out) r)) ∙ words_four r })
          (λ (r : length out < row_width * d + 4).
          let f : after ≡ out = e ∙ rw (lt-leb (row_width * d + 4) (length out) r) in
          let n = ap length f in
          record { count = count_new; words = λ q. absurd (omega arith) })
          c

-- a posting that joins the last row: that row is there, and its count is what stands in its last word
module _ (ks out : List ℕ) (i d : ℕ) (h : i < length ks) (b : begins_row ks i ≡ false) (a : RowsAt ks i d out) where
  last_row : (rs : List Row)
      × (r : Row)
      × (r.key ≡ get_or ks i 0 / id_span)
      × (runs_of (take i ks) ≡ rs ++ (r ∷ []))
      × (runs_of (take (i + 1) ks) ≡ rs ++ (longer_row r (get_or ks i 0 % id_span) ∷ []))
  last_row = begins_more ks i h b

  last_count : d ≡ length last_row.0 + 1
  last_count = a.count ∙ ap length last_row.3 ∙ length-append last_row.0 (last_row.1 ∷ [])

  pub rows_some : 1 ≤ d
  rows_some = let e = last_count in omega arith

  last_place : row_width * length last_row.0 + 3 ≡ row_width * d - 1
  last_place = let e = last_count in omega arith

  module _ (room : row_width * d ≤ length out) where
    last_word : get_or out (row_width * length last_row.0 + 3) 0 ≡ length last_row.1.list
    unfolding row_words
    last_word =
        let e = last_count in
        sym (get_or-take (row_width * d) out (row_width * length last_row.0 + 3) 0 (omega arith))
        ∙ ap (λ (l : List ℕ). get_or l (row_width * length last_row.0 + 3) 0) (a.words room ∙ ap (row_words 0) last_row.3 ∙ row_words_append 0 last_row.0 (last_row.1 ∷ []))
        ∙ ap (λ (n : ℕ). get_or (row_words 0 last_row.0 ++ row_words (0 + length (lists_of last_row.0)) (last_row.1 ∷ [])) (n + 3) 0) (sym (length_row_words 0 last_row.0))
        ∙ get_or-append-add (row_words 0 last_row.0) (row_words (0 + length (lists_of last_row.0)) (last_row.1 ∷ [])) 3 0

    pub last_short : get_or out (row_width * d - 1) 0 ≤ i
    unfolding lists_of
    last_short =
        let e = ap (λ (n : ℕ). get_or out n 0) (sym last_place) ∙ last_word in
        let p = postings ks i (omega arith) in
        let q = ap (λ (l : List Row). length (lists_of l)) last_row.3 in
        let s = ap length (lists_append last_row.0 (last_row.1 ∷ [])) in
        let t = length-append (lists_of last_row.0) (last_row.1.list ++ []) in
        let u = length-append last_row.1.list [] in
        omega arith

    words_grown : take (row_width * d) (set out (row_width * d - 1) (get_or out (row_width * d - 1) 0 + 1)) ≡ row_words 0 (runs_of (take (i + 1) ks))
    words_grown =
        let n = last_count in
        ap (λ (x : ℕ). take (row_width * d) (set out x (get_or out x 0 + 1))) (sym last_place)
        ∙ take-set-lt (row_width * d) out (row_width * length last_row.0 + 3) (get_or out (row_width * length last_row.0 + 3) 0 + 1) (omega arith)
        ∙ ap₂ (λ (l : List ℕ) (v : ℕ). set l (row_width * length last_row.0 + 3) (v + 1)) (a.words room ∙ ap (row_words 0) last_row.3) last_word
        ∙ sym (words_more last_row.0 last_row.1 (get_or ks i 0 % id_span))
        ∙ ap (row_words 0) (sym last_row.4)

  pub at_more : (after : List ℕ) → after ≡ grown_row out d → RowsAt ks (i + 1) d after
  unfolding grown_row
  at_more after e = by_room (le_or_lt (row_width * d) (length out))
    where
      count : d ≡ length (runs_of (take (i + 1) ks))
      count = last_count ∙ sym (ap length last_row.4 ∙ length-append last_row.0 (longer_row last_row.1 (get_or ks i 0 % id_span) ∷ []))

      by_room : (row_width * d ≤ length out) ⊎ (length out < row_width * d) → RowsAt ks (i + 1) d after
      by_room c =
          ⊎_elim
          (λ (r : row_width * d ≤ length out). record { count = count; words = λ q. ap (take (row_width * d)) (e ∙ rw (le-leb (row_width * d) (length out) r)) ∙ words_grown r })
          (λ (r : length out < row_width * d).
          let f : after ≡ out = e ∙ rw (lt-leb (row_width * d) (length out) r) in
          let n = ap length f in
          record { count = count; words = λ q. absurd (omega arith) })
          c
