-- Rows in order are rows that rise by size and feature as one number, where every word fits 32 bits.
-- Cited by the proofs of the check.
-- Assumes nothing.
use mathlib.Core.Path.{◌≡◌}
use mathlib.Core.Logic.{⊎_elim, inl, inr}
use mathlib.Core.Bool.{true}
use mathlib.Core.List.{List}
use Prim.Native.Nat.{ℕ, ◌≤◌, ◌<◌}
use native.Mathlib.Omega.{arith}
use lib.ListN.{get_or}
use borrow.Author.Tests.{lt-ltb, le-ltb, eq-eqb}
use Rattle.laws.proofs.Order.{le_or_lt}
use Rattle.words.specs.Words.{row_size, row_feature, row_key}
use Rattle.words.proofs.Laws.{feature_word}
use Rattle.index.specs.Good.{row_before}
use Rattle.index.proofs.Facts.{Before}

module _ (w : List ℕ) (fits : (i : ℕ) → get_or w i 0 < 4294967296) where
  -- a row stands before another exactly if its key is below
  pub key_before : (r s : ℕ) → Before w r s → row_key w r < row_key w s
  unfolding row_key Before
  key_before r s (inl a) = let p = feature_word w fits r in omega arith
  key_before r s (inr a) = let p = a.0 in let q = a.1 in omega arith

  pub before_key : (r s : ℕ) → row_key w r < row_key w s → row_before w r s ≡ true
  unfolding row_key row_before
  before_key r s h =
      let q = feature_word w fits s in
      ⊎_elim
      (λ (l : row_size w s ≤ row_size w r).
      let e : row_size w r ≡ row_size w s = omega arith in
      rw (le-ltb (row_size w r) (row_size w s) l, eq-eqb (row_size w r) (row_size w s) e)
      (lt-ltb (row_feature w r) (row_feature w s) (omega arith)))
      (λ (l : row_size w r < row_size w s). rw (lt-ltb (row_size w r) (row_size w s) l))
      (le_or_lt (row_size w s) (row_size w r))
