-- Laws of similar: it is the measure's fraction reaching p / q, grows with the shared count, is the same both ways round, and falls with the threshold.
-- One proof for the four measures, over their fractions. Cited by every layer that lists names.
-- Assumes nothing.
use mathlib.Core.Path.{◌≡◌, refl, sym, ◌∙◌}
use mathlib.Core.Logic.{◌↔◌}
use mathlib.Core.Bool.{true, false, ◌&&◌, and-false, false≢true}
use Prim.Native.Nat.{ℕ, zero, suc, ◌*◌, ◌≤◌, ◌<◌, max}
use native.Mathlib.Nat.{mul-le-mul, mul-le-mul_left, mul-le-mul_right, mul-pos, le_trans, le_of_eq}
use native.Mathlib.Omega.{arith}
use lib.Dec.{leb}
use borrow.Author.Tests.{le-leb, lt-leb, leb-true, ne_eqb}
use Rattle.laws.proofs.Tests.{same_test, test_fails, and_parts}
use Rattle.likeness.specs.Measures.{Measure, dice, jaccard, cosine, overlap, other, measure_of, known, good_measure, good_threshold, reaches, is_similar}
use Rattle.likeness.specs.Fractions.{FractionLe, numerator, denominator, raised}
use Rattle.likeness.proofs.Fractions.{fraction_trans, fraction_whole, raised_pos, raised_mono, raised_fraction, numerator_mono, numerator_none, denominator_falls, denominator_symmetric, denominator_pos}

-- ---- the measure's number and the threshold

-- a number that is none of the four names no measure
pub measure_other : (m : ℕ) → (m ≡ 1 → ⊥) → (m ≡ 2 → ⊥) → (m ≡ 3 → ⊥) → (m ≡ 4 → ⊥) → measure_of m ≡ other
unfolding measure_of
measure_other m a b c d = simp (ne_eqb _ _ a, ne_eqb _ _ b, ne_eqb _ _ c, ne_eqb _ _ d)

-- the good measures are 1 to 4
pub measure_range : (m : ℕ) → good_measure m ≡ leb 1 m && leb m 4
unfolding good_measure
measure_range zero = unfold measure_of in refl
measure_range (suc zero) = unfold measure_of in refl
measure_range (suc (suc zero)) = unfold measure_of in refl
measure_range (suc (suc (suc zero))) = unfold measure_of in refl
measure_range (suc (suc (suc (suc zero)))) = unfold measure_of in refl
measure_range (suc (suc (suc (suc (suc m))))) =
    let n = suc (suc (suc (suc (suc m)))) in
    rw (measure_other n (λ e. omega arith) (λ e. omega arith) (λ e. omega arith) (λ e. omega arith), lt-leb n 4 (omega arith), and-false)

pub threshold_facts : (p q : ℕ) → good_threshold p q ≡ true → (1 ≤ p) × (p ≤ q) × (q ≤ 1000)
unfolding good_threshold
threshold_facts p q e =
    let h = and_parts (leb 1 p) (leb p q && leb q 1000) e in
    let k = and_parts (leb p q) (leb q 1000) h.1 in
    (leb-true 1 p h.0, leb-true p q k.0, leb-true q 1000 k.1)

pub facts_threshold : (p q : ℕ) → 1 ≤ p → p ≤ q → q ≤ 1000 → good_threshold p q ≡ true
unfolding good_threshold
facts_threshold p q a b c = simp (le-leb _ _ a, le-leb _ _ b, le-leb _ _ c)

-- ---- the inequality, at any measure and p, q with 0 < p

-- the rule's inequality says that the measure's fraction is at least p / q
pub reaches_fraction : (μ : Measure) (p q x y c : ℕ) → 0 < p
    → (reaches μ p q x y c ≡ true) ↔ FractionLe (raised μ p) (raised μ q) (numerator μ c) (denominator μ x y c)
unfolding reaches numerator denominator raised
reaches_fraction dice p q x y c l = (leb-true _ _, le-leb _ _)
reaches_fraction jaccard p q x y c l = (leb-true _ _, le-leb _ _)
reaches_fraction cosine p q x y c l =
    (λ e. omega (arith, leb-true (p * p * x * y) (c * c * q * q) e), λ h. le-leb (p * p * x * y) (c * c * q * q) (omega arith))
reaches_fraction overlap p q x y c l = (leb-true _ _, le-leb _ _)
reaches_fraction other p q x y c l = (λ e. absurd (false≢true e), λ h. absurd (omega arith))

module _ (μ : Measure) (p q : ℕ) (pos : 0 < p) where
  reaches_mono : (x y c d : ℕ) → c ≤ d → reaches μ p q x y c ≡ true → reaches μ p q x y d ≡ true
  reaches_mono x y c d l e =
      let h = (reaches_fraction μ p q x y c pos).0 e in
      (reaches_fraction μ p q x y d pos).1
      (le_trans (mul-le-mul_left (raised μ p) (denominator_falls μ x y c d l))
      (le_trans h (mul-le-mul_right (raised μ q) (numerator_mono μ c d l))))

  reaches_turned : (x y c : ℕ) → reaches μ p q x y c ≡ true → reaches μ p q y x c ≡ true
  reaches_turned x y c e =
      (reaches_fraction μ p q y x c pos).1 (rw (denominator_symmetric μ y x c) ((reaches_fraction μ p q x y c pos).0 e))

  -- what reaches a higher threshold reaches this one
  reaches_higher : (p' q' x y c : ℕ) → 0 < p' → 0 < q' → FractionLe p q p' q' → reaches μ p' q' x y c ≡ true → reaches μ p q x y c ≡ true
  reaches_higher p' q' x y c l k h e =
      (reaches_fraction μ p q x y c pos).1
      (fraction_trans (raised μ p) (raised μ q) (raised μ p') (raised μ q') (numerator μ c) (denominator μ x y c) (raised_pos μ q' k)
      (raised_fraction μ p q p' q' h) ((reaches_fraction μ p' q' x y c l).0 e))

  reaches_whole : (x y : ℕ) → p ≤ q → known μ ≡ true → reaches μ p q x y (max x y) ≡ true
  reaches_whole x y l k =
      (reaches_fraction μ p q x y (max x y) pos).1
      (le_trans (mul-le-mul (raised_mono μ p q l) (fraction_whole μ x y k)) (le_of_eq (omega arith)))

  reaches_none : (x y : ℕ) → 0 < x → 0 < y → reaches μ p q x y 0 ≡ true → ⊥
  reaches_none x y l k e =
      let h = (reaches_fraction μ p q x y 0 pos).0 e in
      omega (arith, rw (numerator_none μ) at h, mul-pos (raised_pos μ p pos) (denominator_pos μ x y l k))

-- what reaches a threshold does so by one of the four measures
reaches_known : (μ : Measure) (p q x y c : ℕ) → reaches μ p q x y c ≡ true → known μ ≡ true
unfolding reaches
reaches_known dice p q x y c e = refl
reaches_known jaccard p q x y c e = refl
reaches_known cosine p q x y c e = refl
reaches_known overlap p q x y c e = refl
reaches_known other p q x y c e = e

-- ---- similar

-- at a good threshold, similar is the rule's inequality
pub similar_reaches : (m p q x y c : ℕ) → good_threshold p q ≡ true → is_similar m p q x y c ≡ reaches (measure_of m) p q x y c
unfolding is_similar
similar_reaches m p q x y c g = rw g

-- nothing is similar at a bad threshold, or by a bad measure
pub similar_good : (m p q x y c : ℕ) → is_similar m p q x y c ≡ true → (good_measure m ≡ true) × (good_threshold p q ≡ true)
unfolding is_similar good_measure
similar_good m p q x y c e =
    let h = and_parts (good_threshold p q) (reaches (measure_of m) p q x y c) e in
    (reaches_known (measure_of m) p q x y c h.1, h.0)

-- the measure's fraction is at least p / q; the cosine's squared at least (p / q) squared
pub similar_fraction : (m p q x y c : ℕ) → good_threshold p q ≡ true
    → (is_similar m p q x y c ≡ true)
    ↔ FractionLe (raised (measure_of m) p) (raised (measure_of m) q) (numerator (measure_of m) c) (denominator (measure_of m) x y c)
similar_fraction m p q x y c g =
    rw (similar_reaches m p q x y c g) (reaches_fraction (measure_of m) p q x y c (threshold_facts p q g).0)

-- from what reaches to what is similar
carried : (m p q x y c p' q' x' y' c' : ℕ) → good_threshold p' q' ≡ true
    → (0 < p → reaches (measure_of m) p q x y c ≡ true → reaches (measure_of m) p' q' x' y' c' ≡ true)
    → is_similar m p q x y c ≡ true → is_similar m p' q' x' y' c' ≡ true
carried m p q x y c p' q' x' y' c' g f e =
    let h = (similar_good m p q x y c e).1 in
    similar_reaches m p' q' x' y' c' g ∙ f (threshold_facts p q h).0 (sym (similar_reaches m p q x y c h) ∙ e)

-- more shared features are similar too
pub similar_mono : (m p q x y c d : ℕ) → c ≤ d → is_similar m p q x y c ≡ true → is_similar m p q x y d ≡ true
similar_mono m p q x y c d l e =
    carried m p q x y c p q x y d (similar_good m p q x y c e).1 (λ k. reaches_mono (measure_of m) p q k x y c d l) e

-- the query and the name may change places
pub similar_symmetric : (m p q x y c : ℕ) → is_similar m p q x y c ≡ is_similar m p q y x c
similar_symmetric m p q x y c = same_test _ _ (turned x y) (turned y x)
  where
    turned : (x y : ℕ) → is_similar m p q x y c ≡ true → is_similar m p q y x c ≡ true
    turned x y e =
        carried m p q x y c p q y x c (similar_good m p q x y c e).1 (λ k. reaches_turned (measure_of m) p q k x y c) e

-- a higher threshold p' / q' makes nothing similar that was not
pub similar_higher : (m p q p' q' x y c : ℕ) → good_threshold p q ≡ true → FractionLe p q p' q'
    → is_similar m p' q' x y c ≡ true → is_similar m p q x y c ≡ true
similar_higher m p q p' q' x y c g h e =
    let a = threshold_facts p' q' (similar_good m p' q' x y c e).1 in
    carried m p' q' x y c p q x y c g (λ k. reaches_higher (measure_of m) p q (threshold_facts p q g).0 p' q' x y c k (omega arith) h) e

-- two thresholds of one fraction, as 70 / 100 and 7 / 10, make the same similar
pub similar_equal : (m p q p' q' x y c : ℕ) → good_threshold p q ≡ true → good_threshold p' q' ≡ true → p * q' ≡ p' * q
    → is_similar m p q x y c ≡ is_similar m p' q' x y c
similar_equal m p q p' q' x y c g g' e =
    same_test _ _
    (similar_higher m p' q' p q x y c g' (omega arith))
    (similar_higher m p q p' q' x y c g (omega arith))

-- as many shared features as the larger size has are always enough
pub similar_whole : (m p q x y : ℕ) → good_measure m ≡ true → good_threshold p q ≡ true → is_similar m p q x y (max x y) ≡ true
unfolding good_measure
similar_whole m p q x y k g =
    let h = threshold_facts p q g in
    similar_reaches m p q x y (max x y) g ∙ reaches_whole (measure_of m) p q h.0 x y h.1 k

-- two names that share nothing are not similar
pub similar_none : (m p q x y : ℕ) → 0 < x → 0 < y → is_similar m p q x y 0 ≡ false
similar_none m p q x y l k =
    test_fails (is_similar m p q x y 0)
    λ e. let g = (similar_good m p q x y 0 e).1 in
    reaches_none (measure_of m) p q (threshold_facts p q g).0 x y l k (sym (similar_reaches m p q x y 0 g) ∙ e)
