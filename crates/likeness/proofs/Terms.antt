-- Laws of the common divisor and of lowest terms: the divisor divides both numbers and is the greatest that does; lowest terms keep the fraction,
-- have no common divisor left, and are the same for every pair of one fraction.
-- Assumes nothing.
use mathlib.Core.Path.{◌≡◌, refl, sym, ap₂, ◌∙◌}
use mathlib.Core.Logic.{⊎_elim}
use mathlib.Core.Bool.{true}
use Prim.Native.Nat.{ℕ, zero, suc, ◌+◌, ◌*◌, ◌/◌, ◌%◌, ◌≤◌, ◌<◌, ◌∣◌}
use native.Mathlib.Nat.{mod-lt, zero-lt-suc, dvd_refl, dvd-zero, dvd-mod_iff, dvd_antisymm, dvd-mul_right, le_of_dvd, mul_comm, mul-dvd-mul_left, dvd_of_mul-dvd-mul_left, mul-div_cancel', div-mul_cancel, mul-div-mul_left, mul-one, eq_of_mul-eq-mul_left, eq-zero-or-pos, eq-zero_of_zero-dvd, pos_of_ne-zero, le_of_mul-le-mul_right, le-mul_of_pos_right, le_trans}
use native.Mathlib.Omega.{arith}
use Rattle.likeness.specs.Measures.{good_threshold, is_similar}
use Rattle.likeness.specs.Sizes.{is_searched}
use Rattle.likeness.specs.Least.{least_count}
use Rattle.likeness.specs.Terms.{divisor_f, divisor_of, lowest_terms}
use Rattle.likeness.proofs.Measures.{threshold_facts, facts_threshold, similar_equal}
use Rattle.likeness.proofs.Sizes.{searched_equal}
use Rattle.likeness.proofs.Least.{least_equal}

-- ---- Euclid's steps

-- any two counts of steps that are at least q agree
enough : (j k p q : ℕ) → q ≤ j → q ≤ k → divisor_f j p q ≡ divisor_f k p q
unfolding divisor_f
enough zero zero p q a b = refl
enough zero (suc k) p zero a b = refl
enough zero (suc k) p (suc q) a b = absurd (omega arith)
enough (suc j) zero p zero a b = refl
enough (suc j) zero p (suc q) a b = absurd (omega arith)
enough (suc j) (suc k) p zero a b = refl
enough (suc j) (suc k) p (suc q) a b =
    let l = mod-lt p (zero-lt-suc q) in
    enough j k (suc q) (p % suc q) (omega arith) (omega arith)

pub divisor_nil : (p : ℕ) → divisor_of p 0 ≡ p
unfolding divisor_of divisor_f
divisor_nil p = refl

-- one step: the second number falls to the remainder
pub divisor_step : (p q : ℕ) → 0 < q → divisor_of p q ≡ divisor_of q (p % q)
unfolding divisor_of divisor_f
divisor_step p zero l = absurd (omega arith)
divisor_step p (suc q) l =
    let k = mod-lt p (zero-lt-suc q) in
    enough q (p % suc q) (suc q) (p % suc q) (omega arith) (omega arith)

-- ---- the greatest common divisor

-- a fact of every pair follows along the steps: at q = 0, and at p, q from the pair q, p % q
along : (P : ℕ → ℕ → Type 0) → ((p : ℕ) → P p 0) → ((p q : ℕ) → 0 < q → P q (p % q) → P p q) → (p q : ℕ) → P p q
along P base step p q = within q p q (omega arith)
  where
    within : (k p q : ℕ) → q ≤ k → P p q
    within zero p zero l = base p
    within zero p (suc q) l = absurd (omega arith)
    within (suc k) p zero l = base p
    within (suc k) p (suc q) l =
        let n = mod-lt p (zero-lt-suc q) in
        step p (suc q) (zero-lt-suc q) (within k (suc q) (p % suc q) (omega arith))

-- it divides both
pub divisor_divides : (p q : ℕ) → (divisor_of p q ∣ p) × (divisor_of p q ∣ q)
divisor_divides =
    along (λ p q. (divisor_of p q ∣ p) × (divisor_of p q ∣ q))
    (λ p. rw divisor_nil (dvd_refl p, dvd-zero p))
    λ p q l h. rw (divisor_step p q l) ((dvd-mod_iff (divisor_of q (p % q)) h.0).0 h.1, h.0)

-- whatever divides both divides it
pub divisor_greatest : (d p q : ℕ) → d ∣ p → d ∣ q → d ∣ divisor_of p q
divisor_greatest d =
    along (λ p q. d ∣ p → d ∣ q → d ∣ divisor_of p q)
    (λ p a b. rw divisor_nil a)
    λ p q l h a b. rw (divisor_step p q l) (h b ((dvd-mod_iff d b).1 a))

-- it is 0 only where both are
pub divisor_pos : (p q : ℕ) → 0 < p + q → 0 < divisor_of p q
divisor_pos p q l =
    ⊎_elim
    (λ (z : divisor_of p q ≡ 0). let d = rw z at (divisor_divides p q) in
    absurd (omega (arith, eq-zero_of_zero-dvd d.0, eq-zero_of_zero-dvd d.1)))
    (λ (n : 0 < divisor_of p q). n)
    (eq-zero-or-pos (divisor_of p q))

-- so no common divisor is larger
pub divisor_largest : (d p q : ℕ) → 0 < p + q → d ∣ p → d ∣ q → d ≤ divisor_of p q
divisor_largest d p q l a b = le_of_dvd (divisor_pos p q l) (divisor_greatest d p q a b)

-- the divisor of k times p and q is k times theirs
pub divisor_scaled : (k p q : ℕ) → 0 < k → divisor_of (k * p) (k * q) ≡ k * divisor_of p q
divisor_scaled k p q l =
    let g = divisor_of (k * p) (k * q) in
    let d = divisor_divides (k * p) (k * q) in
    let e = divisor_divides p q in
    let up : k * divisor_of p q ∣ g = divisor_greatest _ (k * p) (k * q) (mul-dvd-mul_left _ k e.0) (mul-dvd-mul_left _ k e.1) in
    let f : k * (g / k) ≡ g = mul-div_cancel' k (divisor_greatest k (k * p) (k * q) (dvd-mul_right k p) (dvd-mul_right k q)) in
    let a : g / k ∣ p = dvd_of_mul-dvd-mul_left (g / k) l (rw f d.0) in
    let b : g / k ∣ q = dvd_of_mul-dvd-mul_left (g / k) l (rw f d.1) in
    let down : k * (g / k) ∣ k * divisor_of p q = mul-dvd-mul_left _ k (divisor_greatest (g / k) p q a b) in
    dvd_antisymm (rw f at down) up

-- ---- lowest terms

-- the divisor times the lowest terms is the fraction as it was given
pub lowest_times : (p q : ℕ) → ((lowest_terms p q).p * divisor_of p q ≡ p) × ((lowest_terms p q).q * divisor_of p q ≡ q)
unfolding lowest_terms
lowest_times p q =
    (div-mul_cancel (divisor_of p q) (divisor_divides p q).0, div-mul_cancel (divisor_of p q) (divisor_divides p q).1)

-- so the fraction is kept
pub lowest_keeps : (p q : ℕ) → (lowest_terms p q).p * q ≡ p * (lowest_terms p q).q
lowest_keeps p q =
    let h = lowest_times p q in
    let a = (lowest_terms p q).p in
    let b = (lowest_terms p q).q in
    let g = divisor_of p q in
    let e : a * (b * g) ≡ a * g * b = omega arith in
    rw (h.0, h.1) at e

-- nothing but 1 divides both lowest terms, unless both numbers are 0
pub lowest_coprime : (p q : ℕ) → 0 < p + q → divisor_of (lowest_terms p q).p (lowest_terms p q).q ≡ 1
lowest_coprime p q l =
    let h = lowest_times p q in
    let g = divisor_of p q in
    let a = (lowest_terms p q).p in
    let b = (lowest_terms p q).q in
    let e : g * a ≡ p = mul_comm g a ∙ h.0 in
    let f : g * b ≡ q = mul_comm g b ∙ h.1 in
    let s : g ≡ g * divisor_of a b = sym (ap₂ divisor_of e f) ∙ divisor_scaled g a b (divisor_pos p q l) in
    eq_of_mul-eq-mul_left g (divisor_pos p q l) (divisor_of a b) 1 (sym s ∙ sym (mul-one g))

-- k·p / k·q and p / q have the same lowest terms
pub lowest_scaled : (k p q : ℕ) → 0 < k → lowest_terms (k * p) (k * q) ≡ lowest_terms p q
unfolding lowest_terms
lowest_scaled k p q l =
    rw (divisor_scaled k p q l, mul-div-mul_left p (divisor_of p q) l, mul-div-mul_left q (divisor_of p q) l)

-- so have any two pairs of one fraction
pub lowest_equal : (p q p' q' : ℕ) → 0 < q → 0 < q' → p * q' ≡ p' * q → lowest_terms p q ≡ lowest_terms p' q'
lowest_equal p q p' q' l l' e =
    let a : q' * p ≡ q * p' = omega arith in
    sym (lowest_scaled q' p q l') ∙ ap₂ lowest_terms a (mul_comm q' q) ∙ lowest_scaled q p' q' l

-- 0 / 0 stays 0 / 0
pub lowest_nil : lowest_terms 0 0 ≡ record { p = 0; q = 0 }
unfolding lowest_terms divisor_of divisor_f
lowest_nil = refl

-- ---- the lowest terms of a threshold

pub lowest_good : (p q : ℕ) → good_threshold p q ≡ true → good_threshold (lowest_terms p q).p (lowest_terms p q).q ≡ true
lowest_good p q e =
    let f = threshold_facts p q e in
    let h = lowest_times p q in
    let a = (lowest_terms p q).p in
    let b = (lowest_terms p q).q in
    let g = divisor_of p q in
    let l : 0 < g = divisor_pos p q (omega arith) in
    let n : a * g ≤ b * g = omega arith in
    let z : (a ≡ 0 → ⊥) = λ i. let j : 0 * g ≡ p = rw i at h.0 in omega arith in
    facts_threshold a b (pos_of_ne-zero z) (le_of_mul-le-mul_right n l) (le_trans (le-mul_of_pos_right b l) (omega arith))

-- a threshold and its lowest terms make the same similar, search the same sizes and have the same least count
pub lowest_similar : (m p q x y c : ℕ) → good_threshold p q ≡ true
    → is_similar m (lowest_terms p q).p (lowest_terms p q).q x y c ≡ is_similar m p q x y c
lowest_similar m p q x y c g = similar_equal m _ _ p q x y c (lowest_good p q g) g (lowest_keeps p q)

pub lowest_searched : (m p q x y : ℕ) → good_threshold p q ≡ true
    → is_searched m (lowest_terms p q).p (lowest_terms p q).q x y ≡ is_searched m p q x y
lowest_searched m p q x y g = searched_equal m _ _ p q x y (lowest_good p q g) g (lowest_keeps p q)

pub lowest_least : (m p q x y : ℕ) → good_threshold p q ≡ true
    → least_count m (lowest_terms p q).p (lowest_terms p q).q x y ≡ least_count m p q x y
lowest_least m p q x y g = least_equal m _ _ p q x y (lowest_good p q g) g (lowest_keeps p q)
