-- The words in which the first rows no longer count an id (`thinned_to`): what stays (`length_thinned`, `thinned_at`, `thinned-front`,
-- `thinned_back`), one row more (`thinned_step`), and that the rows' words are those of the rows without the id (`thinned_words`, and of a good index
-- `thinned_good`). Cited by whoever withdraws a name in place.
-- Assumes nothing.
use mathlib.Core.Path.{◌≡◌, refl, sym, ap, ap₂, ◌∙◌}
use mathlib.Core.Bool.{Bool, true, false, cond}
use mathlib.Core.List.{List, ◌∷◌, ◌++◌, map, append_assoc}
use Prim.Native.Nat.{ℕ, zero, suc, ◌+◌, ◌*◌, ◌-◌, ◌≤◌, ◌<◌}
use native.Mathlib.Numerals.{add-one}
use native.Mathlib.Omega.{arith}
use lib.ListN.{length, get_or, drop, set, length-set, take-append-drop}
use lib.Seq.{get_or-set_other, drop-set-lt}
use Rattle.laws.specs.Lists.{member}
use Rattle.laws.specs.Each.{Each}
use Rattle.laws.proofs.Lists.{length_tabulate}
use Rattle.laws.proofs.Members.{each_at}
use Rattle.words.specs.Words.{name_count, row_count, name_word, rows_start, row_width, length_column, total}
use Rattle.index.specs.Good.{Good}
use Rattle.index_writer.specs.Built.{Row, no_row, RowFit, lists_of, row_words, words_from}
use Rattle.index_writer.specs.Contents.{names_in, row_in, all_rows_in, Narrow}
use Rattle.index_writer.proofs.Plain.{good_plain}
use Rattle.index_writer.proofs.Read.{words_in}
use Rattle.index_writer.proofs.Holders.{rows_fit}
use Rattle.changes.specs.Cuts.{RowsAs, thin_row, thin_to, thinned_to}
use Rattle.changes.proofs.Placed.{rows_as_words, rows_as_length}
use Rattle.changes.proofs.Taken.{get_d_middle, set_middle}
use Rattle.changes.proofs.CutsNoted.{thin_all, thin_count, thin_passed, thin_met}

module _ (start id : ℕ) (rows : List Row) (w : List ℕ) where
  abbrev thinned : ℕ → List ℕ
  thinned k = thinned_to k start id rows w

  -- what holds of the words, and stays where a count is set, holds of the words with the counts of k rows set
  kept : (P : List ℕ → Type 0) (k : ℕ) → ((v : List ℕ) (j x : ℕ) → j < k → P v → P (set v (start + row_width * j + length_column) x)) → P w → P (thinned k)
  unfolding thinned_to
  kept P zero step p = p
  kept P (suc k) step p = by_test (member id (get_or rows k no_row).list) (kept P k (λ v j x h. step v j x (omega arith)) p)
    where
      at : ℕ
      at = start + row_width * k + length_column

      by_test : (b : Bool) → P (thinned k) → P (cond b (set (thinned k) at (get_or (thinned k) at 0 - 1)) (thinned k))
      by_test true q = step (thinned k) k (get_or (thinned k) at 0 - 1) (omega arith) q
      by_test false q = q

  pub length_thinned : (k : ℕ) → length (thinned k) ≡ length w
  length_thinned k = kept (λ (v : List ℕ). length v ≡ length w) k (λ v j x h p. length-set v (start + row_width * j + length_column) x ∙ p) refl

  -- every word stays that is not the count of one of these rows
  pub thinned_at : (k i : ℕ) → ((j : ℕ) → j < k → i ≡ start + row_width * j + length_column → ⊥) → get_or (thinned k) i 0 ≡ get_or w i 0
  thinned_at k i n =
      kept (λ (v : List ℕ). get_or v i 0 ≡ get_or w i 0) k (λ v j x h p. get_or-set_other v (start + row_width * j + length_column) i x 0 (n j h) ∙ p) refl

  -- and those from row k on
  pub thinned_back : (k n : ℕ) → start + row_width * k ≤ n → drop n (thinned k) ≡ drop n w
  thinned_back k n b =
      kept (λ (v : List ℕ). drop n v ≡ drop n w) k (λ v j x h p. drop-set-lt n v (start + row_width * j + length_column) x (omega arith) ∙ p) refl

  -- one row more
  pub thinned_step : (k : ℕ) → thinned (k + 1) ≡ cond (member id (get_or rows k no_row).list) (set (thinned k) (start + row_width * k + length_column) (get_or (thinned k) (start + row_width * k + length_column) 0 - 1)) (thinned k)
  unfolding thinned_to
  thinned_step k = ap (λ (n : ℕ). thinned_to n start id rows w) (add-one k)

-- the rows' words, in words in which they start at `start`
pub thinned_words : (start id : ℕ) (rows : List Row) (w a ws b : List ℕ) → w ≡ a ++ (ws ++ b) → length a ≡ start → RowsAs rows ws → Each RowFit rows
    → (k : ℕ) → k ≤ length rows
    → (vs : List ℕ) × (thinned_to k start id rows w ≡ a ++ (vs ++ b)) × RowsAs (thin_to id k rows) vs × (length vs ≡ length ws)
unfolding thinned_to
thinned_words start id rows w a ws b parts e f fit zero h = (ws, parts, f, refl)
thinned_words start id rows w a ws b parts e f fit (suc k) h =
    let p = thinned_words start id rows w a ws b parts e f fit k (omega arith) in
    by_test (member id row.list) refl p.0 p.1 p.2 p.3
  where
    row : Row
    row = get_or rows k no_row

    at : ℕ
    at = start + row_width * k + length_column

    v : List ℕ
    v = thinned_to k start id rows w

    by_test : (t : Bool) → member id row.list ≡ t → (vs : List ℕ) → v ≡ a ++ (vs ++ b) → RowsAs (thin_to id k rows) vs → length vs ≡ length ws
        → (us : List ℕ) × (cond t (set v at (get_or v at 0 - 1)) v ≡ a ++ (us ++ b)) × RowsAs (thin_to id (suc k) rows) us × (length us ≡ length ws)
    by_test true m vs p g l =
        let wide = rows_as_length rows ws f in
        let i = row_width * k + 3 in
        let q : at ≡ length a + i = omega arith in
        let in-vs : i < length vs = omega arith in
        let count : get_or v at 0 ≡ length row.list =
        ap₂ (λ (x : List ℕ) (n : ℕ). get_or x n 0) p q ∙ get_d_middle a vs b i 0 in-vs ∙ thin_count id rows k h vs g in
        let fits = each_at RowFit rows k no_row fit h in
        let some = fits.some in (
          set vs i (get_or v at 0 - 1),
          ap₂ (λ (x : List ℕ) (n : ℕ). set x n (get_or v at 0 - 1)) p q ∙ set_middle a vs b i (get_or v at 0 - 1) in-vs,
          (rw (← add-one k) (thin_met id rows k h vs g m fits.up (get_or v at 0 - 1) (omega arith))),
          length-set vs i (get_or v at 0 - 1) ∙ l,
        )
    by_test false m vs p g l = (vs, p, rw (← add-one k) (thin_passed id rows k h vs g m), l)

-- of a good index: the head, the names and the postings stay, and so do the words behind the index
pub thinned_good : (w : List ℕ) → Good w → Narrow w → (id : ℕ)
    → (ws : List ℕ)
    × (thinned_to (row_count w) (rows_start w) id (all_rows_in w) w
    ≡ (length (names_in w) ∷ length (all_rows_in w) ∷ length (lists_of (all_rows_in w)) ∷ (names_in w ++ (ws ++ lists_of (all_rows_in w)))) ++ drop (total w) w)
    × RowsAs (map (thin_row id) (all_rows_in w)) ws
unfolding words_from names_in all_rows_in
thinned_good w g narrow id =
    let n = count in
    let p = thinned_words (rows_start w) id rows w front (row_words 0 rows) (lists_of rows ++ drop (total w) w) parts start (rows_as_words 0 rows) (rows_fit w g narrow).each (row_count w) (omega arith) in (
      p.0,
      p.1 ∙ regroup p.0,
      (let e = ap (λ (k : ℕ). thin_to id k rows) (sym n) ∙ thin_all id rows in rw e at p.2),
    )
  where
    rows : List Row
    rows = all_rows_in w

    front : List ℕ
    front = length (names_in w) ∷ length rows ∷ length (lists_of rows) ∷ names_in w

    count : length rows ≡ row_count w
    count = length_tabulate (row_in w) (row_count w)

    start : length front ≡ rows_start w
    start = let e = length_tabulate (name_word w) (name_count w) in omega arith

    regroup : (ws : List ℕ) → front ++ (ws ++ (lists_of rows ++ drop (total w) w)) ≡ (front ++ (ws ++ lists_of rows)) ++ drop (total w) w
    regroup ws = simp append_assoc

    parts : w ≡ front ++ (row_words 0 rows ++ (lists_of rows ++ drop (total w) w))
    parts = sym (take-append-drop (total w) w) ∙ ap (λ (l : List ℕ). l ++ drop (total w) w) (words_in w (good_plain w g) narrow) ∙ sym (regroup (row_words 0 rows))
