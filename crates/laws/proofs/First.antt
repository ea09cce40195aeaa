-- Laws of the first number that passes a test. Cited by `likeness`, `index`, `queries` and `reports`.
-- Assumes nothing.
use mathlib.Core.Path.{◌≡◌, refl, sym, ap, ◌∙◌}
use mathlib.Core.Logic.{⊎_elim}
use mathlib.Core.Bool.{Bool, true, false, cond, true≢false}
use Prim.Native.Nat.{ℕ, zero, suc, ◌+◌, ◌≤◌, ◌<◌}
use native.Mathlib.Nat.{eq-or-lt_of_le}
use native.Mathlib.Omega.{arith}
use Rattle.laws.specs.First.{first_from}

-- ---- nothing to search

pub first_nil : (t : ℕ → Bool) (c : ℕ) → first_from t 0 c ≡ c
unfolding first_from
first_nil t c = refl

-- ---- what it finds

-- it is never below where the search starts, and at most one past its end
pub first_within : (t : ℕ → Bool) (k c : ℕ) → (c ≤ first_from t k c) × (first_from t k c ≤ c + k)
unfolding first_from
first_within t zero c = (omega arith, omega arith)
first_within t (suc k) c = by_test (t c) (first_within t k (c + 1))
  where
    by_test : (b : Bool) → (c + 1 ≤ first_from t k (c + 1)) × (first_from t k (c + 1) ≤ c + 1 + k)
        → (c ≤ cond b c (first_from t k (c + 1))) × (cond b c (first_from t k (c + 1)) ≤ c + suc k)
    by_test true h = (omega arith, omega arith)
    by_test false h = (omega arith, omega arith)

-- nothing before it passes
pub first_least : (t : ℕ → Bool) (k c n : ℕ) → c ≤ n → n < first_from t k c → t n ≡ false
unfolding first_from
first_least t zero c n l m = absurd (omega arith)
first_least t (suc k) c n l m = by_test (t c) refl m (first_least t k (c + 1) n)
  where
    by_test : (b : Bool) → t c ≡ b → n < cond b c (first_from t k (c + 1))
        → (c + 1 ≤ n → n < first_from t k (c + 1) → t n ≡ false) → t n ≡ false
    by_test true q h r = absurd (omega arith)
    by_test false q h r = ⊎_elim (λ (s : c ≡ n). ap t (sym s) ∙ q) (λ (s : c < n). r (omega arith) h) (eq-or-lt_of_le l)

-- where some number within reach passes, it passes and is at most that number
pub first_passes : (t : ℕ → Bool) (k c n : ℕ) → c ≤ n → n < c + k → t n ≡ true
    → (t (first_from t k c) ≡ true) × (first_from t k c ≤ n)
unfolding first_from
first_passes t zero c n l m e = absurd (omega arith)
first_passes t (suc k) c n l m e = by_test (t c) refl (λ d. first_passes t k (c + 1) n d (omega arith) e)
  where
    apart : t c ≡ false → c + 1 ≤ n
    apart q =
        ⊎_elim (λ (s : c ≡ n). absurd (true≢false (sym e ∙ ap t (sym s) ∙ q))) (λ (s : c < n). omega arith) (eq-or-lt_of_le l)

    by_test : (b : Bool) → t c ≡ b
        → (c + 1 ≤ n → (t (first_from t k (c + 1)) ≡ true) × (first_from t k (c + 1) ≤ n))
        → (t (cond b c (first_from t k (c + 1))) ≡ true) × (cond b c (first_from t k (c + 1)) ≤ n)
    by_test true q r = (q, l)
    by_test false q r = r (apart q)
