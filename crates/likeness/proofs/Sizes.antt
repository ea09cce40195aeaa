-- Laws of the sizes searched: they are those at which sharing every feature of the smaller set is similar, so skipping the others loses nothing.
-- Cited by `sizes` and `statements`.
-- Assumes nothing.
use mathlib.Core.Path.{◌≡◌, refl, sym, ap, ◌∙◌}
use mathlib.Core.Bool.{Bool, true, false, ◌&&◌, and_comm}
use Prim.Native.Nat.{ℕ, ◌+◌, ◌-◌, ◌*◌, ◌≤◌, ◌<◌, min}
use native.Mathlib.Nat.{mul-le-mul, mul-le-mul_left, mul-le-mul_right, mul-pos, le_trans, le_of_lt, lt_of_not-le, add-sub_cancel_left, sub-add_cancel, le_of_mul-le-mul_right, min-eq_left, min-eq_right}
use native.Mathlib.Decide.{dec_le}
use native.Mathlib.Omega.{arith}
use lib.Dec.{leb}
use borrow.Author.Tests.{le-leb, leb-true}
use Rattle.laws.proofs.Tests.{same_test, test_fails, test_failed, and_parts}
use Rattle.likeness.specs.Measures.{Measure, dice, jaccard, cosine, overlap, other, known, measure_of, good_measure, good_threshold, reaches, is_similar}
use Rattle.likeness.specs.Sizes.{beside, may_reach, is_searched}
use Rattle.likeness.specs.Fractions.{FractionLe}
use Rattle.likeness.proofs.Fractions.{fraction_trans}
use Rattle.likeness.proofs.Measures.{threshold_facts, similar_symmetric, similar_mono}

-- ---- one pair of sizes beside another

beside_parts : (low high x y : ℕ) → beside low high x y ≡ true → (low * x ≤ high * y) × (low * y ≤ high * x)
unfolding beside
beside_parts low high x y e =
    let h = and_parts (leb (low * x) (high * y)) (leb (low * y) (high * x)) e in
    (leb-true (low * x) (high * y) h.0, leb-true (low * y) (high * x) h.1)

beside_of : (low high x y : ℕ) → low * x ≤ high * y → low * y ≤ high * x → beside low high x y ≡ true
unfolding beside
beside_of low high x y h k = simp (le-leb _ _ h, le-leb _ _ k)

beside_symmetric : (low high x y : ℕ) → beside low high x y ≡ beside low high y x
unfolding beside
beside_symmetric low high x y = and_comm (leb (low * x) (high * y)) (leb (low * y) (high * x))

-- where x is the smaller, one of the two says it all
beside_smaller : (low high x y : ℕ) → x ≤ y → low * y ≤ high * x → beside low high x y ≡ true
beside_smaller low high x y l h =
    beside_of low high x y (le_trans (mul-le-mul_left low l) (le_trans h (mul-le-mul_left high l))) h

-- a wider range has at least the sizes of a narrower one
beside_wider : (low high low' high' x y : ℕ) → 0 < high' → FractionLe low high low' high'
    → beside low' high' x y ≡ true → beside low high x y ≡ true
beside_wider low high low' high' x y l h e =
    let k = beside_parts low' high' x y e in
    beside_of low high x y (wider x y k.0) (wider y x k.1)
  where
    wider : (a b : ℕ) → low' * a ≤ high' * b → low * a ≤ high * b
    wider a b j = omega (arith, fraction_trans low high low' high' b a l h (omega arith))

-- ---- at any measure

may_reach_symmetric : (μ : Measure) (p q x y : ℕ) → may_reach μ p q x y ≡ may_reach μ p q y x
unfolding may_reach
may_reach_symmetric dice p q x y = beside_symmetric p (2 * q - p) x y
may_reach_symmetric jaccard p q x y = beside_symmetric p q x y
may_reach_symmetric cosine p q x y = beside_symmetric (p * p) (q * q) x y
may_reach_symmetric overlap p q x y = refl
may_reach_symmetric other p q x y = refl

-- 2q - p and p are 2q, times any number
rest_of : (p q n : ℕ) → p ≤ q → (2 * q - p) * n + p * n ≡ 2 * (q * n)
rest_of p q n l = omega (arith, ap (λ (k : ℕ). k * n) (sub-add_cancel {n = 2 * q} {m = p} (omega arith)))

may_reach_higher : (μ : Measure) (p q p' q' x y : ℕ) → p ≤ q → 0 < q' → p' ≤ q' → FractionLe p q p' q'
    → may_reach μ p' q' x y ≡ true → may_reach μ p q x y ≡ true
unfolding may_reach
may_reach_higher dice p q p' q' x y l k l' h e =
    let n : FractionLe p (2 * q - p) p' (2 * q' - p') = omega (arith, rest_of p q p' l, rest_of p' q' p l') in
    beside_wider p (2 * q - p) p' (2 * q' - p') x y (omega arith) n e
may_reach_higher jaccard p q p' q' x y l k l' h e = beside_wider p q p' q' x y k h e
may_reach_higher cosine p q p' q' x y l k l' h e =
    beside_wider (p * p) (q * q) (p' * p') (q' * q') x y (mul-pos k k) (omega (arith, mul-le-mul h h)) e
may_reach_higher overlap p q p' q' x y l k l' h e = refl
may_reach_higher other p q p' q' x y l k l' h e = e

-- where x is the smaller size: a size is searched exactly if sharing all x features reaches the threshold
may_reach_smaller : (μ : Measure) (p q x y : ℕ) → p ≤ q → 0 < x → x ≤ y → may_reach μ p q x y ≡ reaches μ p q x y x
unfolding may_reach reaches
may_reach_smaller dice p q x y l k n =
    same_test _ _
    (λ e. le-leb (p * (x + y)) (2 * x * q) (omega (arith, beside_parts p (2 * q - p) x y e, rest_of p q x l)))
    (λ e. beside_smaller p (2 * q - p) x y n (omega (arith, leb-true (p * (x + y)) (2 * x * q) e, rest_of p q x l)))
may_reach_smaller jaccard p q x y l k n =
    rw (add-sub_cancel_left x y)
    (same_test _ _
    (λ e. le-leb (p * y) (x * q) (omega (arith, beside_parts p q x y e)))
    (λ e. beside_smaller p q x y n (omega (arith, leb-true (p * y) (x * q) e))))
may_reach_smaller cosine p q x y l k n =
    same_test _ _
    (λ e. le-leb (p * p * x * y) (x * x * q * q) (omega (arith, mul-le-mul_right x (beside_parts (p * p) (q * q) x y e).1)))
    (λ e. beside_smaller (p * p) (q * q) x y n (le_of_mul-le-mul_right (omega (arith, leb-true (p * p * x * y) (x * x * q * q) e)) k))
may_reach_smaller overlap p q x y l k n =
    sym (le-leb (p * min x y) (x * q) (rw (min-eq_left n) (omega (arith, mul-le-mul_right x l))))
may_reach_smaller other p q x y l k n = refl

may_reach_known : (μ : Measure) (p q x y : ℕ) → may_reach μ p q x y ≡ true → known μ ≡ true
unfolding may_reach
may_reach_known dice p q x y e = refl
may_reach_known jaccard p q x y e = refl
may_reach_known cosine p q x y e = refl
may_reach_known overlap p q x y e = refl
may_reach_known other p q x y e = e

-- ---- the sizes searched

-- at a good threshold, searched is the rule's test of the two sizes
pub searched_reach : (m p q x y : ℕ) → good_threshold p q ≡ true → is_searched m p q x y ≡ may_reach (measure_of m) p q x y
unfolding is_searched
searched_reach m p q x y g = rw g

-- no size is searched at a bad threshold, or by a bad measure
pub searched_good : (m p q x y : ℕ) → is_searched m p q x y ≡ true → (good_measure m ≡ true) × (good_threshold p q ≡ true)
unfolding is_searched good_measure
searched_good m p q x y e =
    let h = and_parts (good_threshold p q) (may_reach (measure_of m) p q x y) e in
    (may_reach_known (measure_of m) p q x y h.1, h.0)

-- the query and the name may change places
pub searched_symmetric : (m p q x y : ℕ) → is_searched m p q x y ≡ is_searched m p q y x
unfolding is_searched
searched_symmetric m p q x y = rw (may_reach_symmetric (measure_of m) p q x y)

-- for overlap every size is searched
pub searched_overlap : (p q x y : ℕ) → good_threshold p q ≡ true → is_searched 4 p q x y ≡ true
unfolding is_searched measure_of may_reach
searched_overlap p q x y g = rw g

-- a higher threshold p' / q' makes no size searched that was not
pub searched_higher : (m p q p' q' x y : ℕ) → good_threshold p q ≡ true → FractionLe p q p' q'
    → is_searched m p' q' x y ≡ true → is_searched m p q x y ≡ true
searched_higher m p q p' q' x y g h e =
    let g' = (searched_good m p' q' x y e).1 in
    let a = threshold_facts p q g in
    let b = threshold_facts p' q' g' in
    searched_reach m p q x y g
    ∙ may_reach_higher (measure_of m) p q p' q' x y a.1 (omega arith) b.1 h (sym (searched_reach m p' q' x y g') ∙ e)

-- two thresholds of one fraction search the same sizes
pub searched_equal : (m p q p' q' x y : ℕ) → good_threshold p q ≡ true → good_threshold p' q' ≡ true → p * q' ≡ p' * q
    → is_searched m p q x y ≡ is_searched m p' q' x y
searched_equal m p q p' q' x y g g' e =
    same_test _ _
    (searched_higher m p' q' p q x y g' (omega arith))
    (searched_higher m p q p' q' x y g (omega arith))

searched_smaller : (m p q x y : ℕ) → 0 < x → x ≤ y → is_searched m p q x y ≡ is_similar m p q x y x
unfolding is_searched is_similar
searched_smaller m p q x y l n = by_threshold (good_threshold p q) (λ g. may_reach_smaller (measure_of m) p q x y (threshold_facts p q g).1 l n)
  where
    by_threshold : (b : Bool) → (b ≡ true → may_reach (measure_of m) p q x y ≡ reaches (measure_of m) p q x y x)
        → b && may_reach (measure_of m) p q x y ≡ b && reaches (measure_of m) p q x y x
    by_threshold true h = h refl
    by_threshold false h = refl

-- a size is searched exactly if sharing every feature of the smaller set is similar
pub searched_min : (m p q x y : ℕ) → 0 < x → 0 < y → is_searched m p q x y ≡ is_similar m p q x y (min x y)
searched_min m p q x y l k = by_order (dec_le x y)
  where
    by_order : Dec (x ≤ y) → is_searched m p q x y ≡ is_similar m p q x y (min x y)
    by_order (yes n) = rw (min-eq_left n) (searched_smaller m p q x y l n)
    by_order (no f) =
        let n : y ≤ x = le_of_lt (lt_of_not-le f) in
        rw (min-eq_right n) (searched_symmetric m p q x y ∙ searched_smaller m p q y x k n ∙ similar_symmetric m p q y x y)

-- at a size that is not searched no shared count is similar: skipping it loses nothing
pub skipped_none : (m p q x y c : ℕ) → 0 < x → 0 < y → is_searched m p q x y ≡ false → c ≤ min x y → is_similar m p q x y c ≡ false
skipped_none m p q x y c l k e n =
    test_fails (is_similar m p q x y c)
    λ h. test_failed (is_searched m p q x y) e (searched_min m p q x y l k ∙ similar_mono m p q x y c (min x y) n h)
