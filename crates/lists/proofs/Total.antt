-- Words that agree with a good index up to its total have the same lists. Cited by `sizes`.
-- Assumes nothing.
use mathlib.Core.Path.{◌≡◌, refl, ap, ap₂, ◌∙◌}
use mathlib.Core.Bool.{Bool, true, false, cond, ◌&&◌}
use mathlib.Core.List.{List, []}
use Prim.Native.Nat.{ℕ, zero, suc, ◌+◌, ◌≤◌, ◌<◌}
use native.Mathlib.Omega.{arith}
use lib.ListN.{length, take}
use lib.Dec.{eqb, ltb}
use borrow.Author.Tests.{ltb-true}
use Rattle.laws.specs.First.{first_from}
use Rattle.words.specs.Words.{row_count, list_at, total}
use Rattle.index.specs.Good.{Good}
use Rattle.index.proofs.Total.{rows_same, row_size_same, feature_same, list_same}
use Rattle.lists.specs.Lists.{row_is, row_for, list_in}

-- tests that agree pass first at the same place
first_ext : (t u : ℕ → Bool) (k c : ℕ) → ((n : ℕ) → n < c + k → t n ≡ u n) → first_from t k c ≡ first_from u k c
unfolding first_from
first_ext t u zero c e = refl
first_ext t u (suc k) c e =
    ap₂ (λ (b : Bool) (n : ℕ). cond b c n) (e c (omega arith)) (first_ext t u k (c + 1) (λ n h. e n (omega arith)))

module _ (w v : List ℕ) (same : take (total w) w ≡ take (total w) v) (long : total w ≤ length v) (good : Good w) (size feature : ℕ) where
  row_is_same : (r : ℕ) → r < row_count w → row_is v size feature r ≡ row_is w size feature r
  unfolding row_is
  row_is_same r l =
      ap₂ ◌&&◌
      (ap (λ (n : ℕ). eqb n size) (row_size_same w v same long r l))
      (ap (λ (n : ℕ). eqb n feature) (feature_same w v same long r l))

  row_for_same : row_for v size feature ≡ row_for w size feature
  unfolding row_for
  row_for_same =
      ap (λ (n : ℕ). first_from (row_is v size feature) n 0) (rows_same w v same long)
      ∙ first_ext (row_is v size feature) (row_is w size feature) (row_count w) 0 (λ r h. row_is_same r (omega arith))

  pub list_in_same : list_in v size feature ≡ list_in w size feature
  unfolding list_in
  list_in_same =
      ap₂ (λ (r n : ℕ). cond (ltb r n) (list_at v r) []) row_for_same (rows_same w v same long)
      ∙ by_test (ltb (row_for w size feature) (row_count w)) refl
    where
      by_test : (b : Bool) → ltb (row_for w size feature) (row_count w) ≡ b
          → cond b (list_at v (row_for w size feature)) [] ≡ cond b (list_at w (row_for w size feature)) []
      by_test true e = list_same w v same long good (row_for w size feature) (ltb-true (row_for w size feature) (row_count w) e)
      by_test false e = refl
