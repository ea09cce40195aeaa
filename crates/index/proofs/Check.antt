-- What the check of an index's rows finds, row by row: each early refusal is a condition that fails, and what was looked at so far is good.
-- Cited by the proof of `rows_good`.
-- Assumes nothing.
use mathlib.Core.Path.{◌≡◌, refl, sym, ap, ◌∙◌}
use mathlib.Core.Bool.{true, false}
use mathlib.Core.List.{List}
use Prim.Native.Nat.{ℕ, ◌+◌, ◌-◌, ◌≤◌, ◌<◌}
use native.Mathlib.Numerals.{add-one}
use native.Mathlib.Omega.{arith}
use lib.ListN.{get_or}
use lib.Dec.{eqb}
use borrow.Author.Tests.{le-leb, eq-eqb}
use Rattle.laws.specs.Below.{all_below, sum_below}
use Rattle.laws.proofs.Below.{and_both, all_nil, sum_below_step}
use Rattle.laws.proofs.FirstFound.{all_more, pairs_more}
use Rattle.laws.proofs.Tests.{test_fails}
use Rattle.words.specs.Words.{row_count, posting_count, row_place, row_length, row_key}
use Rattle.index.specs.Good.{row_before, place_due, row_good, rows_good}
use Rattle.index.proofs.Facts.{rows_facts}
use Rattle.index.proofs.Keys.{key_before}

module _ (w : List ℕ) where
  -- ---- the rows

  -- what was looked at of the first r rows, the next list being due at the place
  pub record RowsTo (r due : ℕ) : Type 0 where
    pub within : r ≤ row_count w
    pub each : all_below r (row_good w) ≡ true
    pub next : all_below (r - 1) (λ (s : ℕ). row_before w s (s + 1)) ≡ true
    pub place : due ≡ place_due w r
    pub sum : due ≡ sum_below r (row_length w)

  pub rows_none : RowsTo 0 0
  unfolding place_due sum_below
  rows_none = record { within = omega arith; each = all_nil _; next = all_nil _; place = refl; sum = refl }

  pub rows_more : (r due : ℕ) → RowsTo r due → r < row_count w → 1 ≤ row_length w r → row_place w r ≡ due
      → (0 < r → row_before w (r - 1) r ≡ true) → RowsTo (r + 1) (due + row_length w r)
  unfolding row_good place_due
  rows_more r due k l n e b =
      record {
        within = omega arith;
        each = all_more (row_good w) r k.each (and_both _ _ (le-leb 1 (row_length w r) n) (eq-eqb (row_place w r) (place_due w r) (e ∙ k.place)));
        next = pairs_more (λ (s : ℕ). row_before w s (s + 1)) r k.next
            (λ p. let j : r - 1 + 1 ≡ r = omega arith in ap (row_before w (r - 1)) j ∙ b p);
        place = ap (λ (m : ℕ). m + row_length w r) (sym e) ∙ ap (place_due w) (sym (add-one r));
        sum = ap (λ (m : ℕ). m + row_length w r) k.sum ∙ sym (sum_below_step (row_length w) r);
      }

  pub rows_all : (r due p : ℕ) → RowsTo r due → row_count w ≤ r → p ≡ posting_count w → eqb due p ≡ rows_good w
  unfolding rows_good
  rows_all r due p k l q =
      let m = k.within in
      let e : r ≡ row_count w = omega arith in
      let a : all_below (row_count w) (row_good w) ≡ true = ap (λ (n : ℕ). all_below n (row_good w)) (sym e) ∙ k.each in
      let b : all_below (row_count w - 1) (λ (s : ℕ). row_before w s (s + 1)) ≡ true =
      ap (λ (n : ℕ). all_below (n - 1) (λ (s : ℕ). row_before w s (s + 1))) (sym e) ∙ k.next in
      let d : due ≡ sum_below (row_count w) (row_length w) = k.sum ∙ ap (λ (n : ℕ). sum_below n (row_length w)) e in
      rw (a, b, d, q)

  pub rows_empty : (r : ℕ) → r < row_count w → row_length w r < 1 → rows_good w ≡ false
  rows_empty r l h = test_fails (rows_good w) (λ e. let n = (rows_facts w e).length r l in omega arith)

  pub rows_misplaced : (r due : ℕ) → RowsTo r due → r < row_count w → (row_place w r ≡ due → ⊥) → rows_good w ≡ false
  rows_misplaced r due k l n = test_fails (rows_good w) (λ e. n ((rows_facts w e).place r l ∙ sym k.place))

  pub rows_out : ((i : ℕ) → get_or w i 0 < 4294967296) → (r : ℕ) → r < row_count w → 0 < r → row_key w r ≤ row_key w (r - 1) → rows_good w ≡ false
  rows_out fits r l p h =
      test_fails (rows_good w)
      (λ e. let b = key_before w fits (r - 1) r ((rows_facts w e).before (r - 1) r (omega arith) l) in omega arith)
