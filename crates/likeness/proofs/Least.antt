-- Laws of the least count: it is at least 1, similar, and the smallest that is; at a searched size it is at most the smaller size. So a shared
-- count is similar exactly if the least count is at most it. Cited by `sizes` and `statements`.
-- Assumes nothing.
use mathlib.Core.Path.{◌≡◌, refl, sym, ap, ap₂, fun_ext, ◌∙◌}
use mathlib.Core.Bool.{Bool, true, false, cond, ◌&&◌, and-false}
use Prim.Native.Nat.{ℕ, ◌*◌, ◌≤◌, ◌<◌, min, max}
use native.Mathlib.Nat.{max_comm, eq-zero-or-pos, lt_of_not-le, le_antisymm}
use native.Mathlib.Decide.{dec_le}
use native.Mathlib.Omega.{arith}
use mathlib.Core.Logic.{⊎_elim}
use lib.Dec.{leb}
use borrow.Author.Tests.{le-leb, lt-leb, leb-true}
use Rattle.std.proofs.Common.{Option, None, Some, MatchOption, IsSome}
use Rattle.laws.specs.First.{first_from}
use Rattle.laws.proofs.First.{first_nil, first_within, first_least, first_passes}
use Rattle.laws.proofs.Tests.{same_test, test_failed}
use Rattle.likeness.specs.Measures.{good_measure, good_threshold, is_similar}
use Rattle.likeness.specs.Sizes.{is_searched}
use Rattle.likeness.specs.Least.{least_count}
use Rattle.likeness.specs.Fractions.{FractionLe}
use Rattle.likeness.proofs.Measures.{similar_good, similar_mono, similar_symmetric, similar_higher, similar_equal, similar_whole, similar_none}
use Rattle.likeness.proofs.Sizes.{searched_min}

-- where the measure and the threshold are good, it is the first count that is similar
pub least_first : (m p q x y : ℕ) → good_measure m ≡ true → good_threshold p q ≡ true
    → least_count m p q x y ≡ first_from (is_similar m p q x y) (max x y) 1
unfolding least_count
least_first m p q x y k g = simp (k, g)

module _ (m p q x y : ℕ) (known : good_measure m ≡ true) (good : good_threshold p q ≡ true) where
  pub least_pos : 1 ≤ least_count m p q x y
  least_pos = rw (least_first m p q x y known good) (first_within (is_similar m p q x y) (max x y) 1).0

  -- a count below it is not similar
  pub least_below : (c : ℕ) → 1 ≤ c → c < least_count m p q x y → is_similar m p q x y c ≡ false
  least_below c l h =
      first_least (is_similar m p q x y) (max x y) 1 c l (rw (least_first m p q x y known good) at h)

  -- a count that is similar is at least it
  pub least_le : (c : ℕ) → 1 ≤ c → is_similar m p q x y c ≡ true → least_count m p q x y ≤ c
  least_le c l e = by_order (dec_le (least_count m p q x y) c)
    where
      by_order : Dec (least_count m p q x y ≤ c) → least_count m p q x y ≤ c
      by_order (yes n) = n
      by_order (no f) = absurd (test_failed (is_similar m p q x y c) (least_below c l (lt_of_not-le f)) e)

  -- it is similar itself
  pub least_similar : is_similar m p q x y (least_count m p q x y) ≡ true
  least_similar = rw (least_first m p q x y known good) (by_size (max x y) refl)
    where
      by_size : (n : ℕ) → max x y ≡ n → is_similar m p q x y (first_from (is_similar m p q x y) n 1) ≡ true
      by_size n e =
          ⊎_elim
          (λ (z : n ≡ 0). rw (z, first_nil (is_similar m p q x y) 1)
          (similar_mono m p q x y (max x y) 1 (omega arith) (similar_whole m p q x y known good)))
          (λ (l : 0 < n). (first_passes (is_similar m p q x y) n 1 n l (omega arith) (rw e at (similar_whole m p q x y known good))).0)
          (eq-zero-or-pos n)

  -- a count up to it that is not similar is below it
  pub least_not_yet : (c : ℕ) → c ≤ least_count m p q x y → is_similar m p q x y c ≡ false → c < least_count m p q x y
  least_not_yet c l f = by_order (dec_le (least_count m p q x y) c)
    where
      by_order : Dec (least_count m p q x y ≤ c) → c < least_count m p q x y
      by_order (yes n) = absurd (test_failed _ f (rw (le_antisymm l n) least_similar))
      by_order (no g) = lt_of_not-le g

  -- a count from 1 that is similar, and nothing before it is, is the least count
  pub least_is : (c : ℕ) → 1 ≤ c → is_similar m p q x y c ≡ true → ((k : ℕ) → 1 ≤ k → k < c → is_similar m p q x y k ≡ false)
      → c ≡ least_count m p q x y
  least_is c l e f = by_order (dec_le c (least_count m p q x y))
    where
      by_order : Dec (c ≤ least_count m p q x y) → c ≡ least_count m p q x y
      by_order (yes n) = le_antisymm n (least_le c l e)
      by_order (no g) = absurd (test_failed _ (f _ least_pos (lt_of_not-le g)) least_similar)

  -- it is at most the larger size, which is always similar; 1 where both sizes are 0
  pub least_most : least_count m p q x y ≤ max 1 (max x y)
  least_most =
      least_le (max 1 (max x y)) (omega arith)
      (similar_mono m p q x y (max x y) (max 1 (max x y)) (omega arith) (similar_whole m p q x y known good))

  -- a search that comes to the larger size, or beyond it, finds a count
  pub least_met : (a b : ℕ) → a ≤ b → max x y ≤ b → (Met : ℕ → Type 0) (r : Option ℕ)
      → MatchOption r ((k : ℕ) → a ≤ k → k ≤ b → is_similar m p q x y k ≡ false) Met → IsSome r
  least_met a b l k Met None h =
      absurd (test_failed _ (h b l (omega arith)) (similar_mono m p q x y (max x y) b k (similar_whole m p q x y known good)))
  least_met a b l k Met (Some c) h = refl

  -- a shared count of at least 1 is similar exactly if the least count is at most it
  pub least_decides : (c : ℕ) → 1 ≤ c → is_similar m p q x y c ≡ leb (least_count m p q x y) c
  least_decides c l =
      same_test _ _
      (λ e. le-leb _ _ (least_le c l e))
      (λ e. similar_mono m p q x y (least_count m p q x y) c (leb-true _ _ e) least_similar)

  -- so is every shared count of two names, which have features
  pub similar_least : (c : ℕ) → 0 < x → 0 < y → is_similar m p q x y c ≡ leb (least_count m p q x y) c
  similar_least c l k =
      ⊎_elim
      (λ (z : c ≡ 0). rw z (similar_none m p q x y l k ∙ sym (lt-leb _ _ least_pos)))
      (λ (n : 0 < c). least_decides c n)
      (eq-zero-or-pos c)

-- ---- at a searched size

-- at most the smaller size
pub least_within : (m p q x y : ℕ) → 0 < x → 0 < y → is_searched m p q x y ≡ true → least_count m p q x y ≤ min x y
least_within m p q x y l k e =
    let s = sym (searched_min m p q x y l k) ∙ e in
    let g = similar_good m p q x y (min x y) s in
    least_le m p q x y g.0 g.1 (min x y) (omega arith) s

-- ---- both ways round, and at other thresholds

pub least_symmetric : (m p q x y : ℕ) → least_count m p q x y ≡ least_count m p q y x
unfolding least_count
least_symmetric m p q x y =
    ap₂ (λ (t : ℕ → Bool) (k : ℕ). cond (good_measure m && good_threshold p q) (first_from t k 1) 0)
    (fun_ext (similar_symmetric m p q x y)) (max_comm x y)

-- a higher threshold asks for at least as many
pub least_higher : (m p q p' q' x y : ℕ) → good_measure m ≡ true → good_threshold p q ≡ true → good_threshold p' q' ≡ true
    → FractionLe p q p' q' → least_count m p q x y ≤ least_count m p' q' x y
least_higher m p q p' q' x y k g g' h =
    least_le m p q x y k g (least_count m p' q' x y) (least_pos m p' q' x y k g')
    (similar_higher m p q p' q' x y (least_count m p' q' x y) g h (least_similar m p' q' x y k g'))

-- two thresholds of one fraction have one least count
pub least_equal : (m p q p' q' x y : ℕ) → good_threshold p q ≡ true → good_threshold p' q' ≡ true → p * q' ≡ p' * q
    → least_count m p q x y ≡ least_count m p' q' x y
unfolding least_count
least_equal m p q p' q' x y g g' e =
    rw (g, g') (ap (λ (t : ℕ → Bool). cond (good_measure m && true) (first_from t (max x y) 1) 0)
    (fun_ext λ c. similar_equal m p q p' q' x y c g g' e))

-- ---- where the measure or the threshold is bad

pub least_bad_measure : (m p q x y : ℕ) → good_measure m ≡ false → least_count m p q x y ≡ 0
unfolding least_count
least_bad_measure m p q x y e = simp e

pub least_bad_threshold : (m p q x y : ℕ) → good_threshold p q ≡ false → least_count m p q x y ≡ 0
unfolding least_count
least_bad_threshold m p q x y e = simp (e, and-false)
