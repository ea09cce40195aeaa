-- What a search upward that came to something found; tests below a bound that agree, and that hold of one number more. Cited by `index` and `lists`.
-- Assumes nothing.
use mathlib.Core.Path.{◌≡◌, refl, ap₂, ◌∙◌}
use mathlib.Core.Logic.{⊎_elim}
use mathlib.Core.Bool.{Bool, true, false, cond, ◌||◌}
use Prim.Native.Nat.{ℕ, zero, suc, ◌+◌, ◌-◌, ◌≤◌, ◌<◌}
use native.Mathlib.Nat.{eq-or-lt_of_le}
use native.Mathlib.Omega.{arith}
use Rattle.laws.specs.First.{first_from}
use Rattle.laws.specs.Below.{all_below, any_below}
use Rattle.laws.proofs.Below.{and_both, all_step}
use Rattle.laws.proofs.Order.{le_or_lt}
use Rattle.laws.proofs.First.{first_within, first_passes}

-- where it ends before the search's end, it passes
pub first_found : (t : ℕ → Bool) (k c : ℕ) → first_from t k c < c + k → t (first_from t k c) ≡ true
unfolding first_from
first_found t zero c l = absurd (omega arith)
first_found t (suc k) c l = by_test (t c) refl l (first_found t k (c + 1))
  where
    by_test : (b : Bool) → t c ≡ b → cond b c (first_from t k (c + 1)) < c + suc k
        → (first_from t k (c + 1) < c + 1 + k → t (first_from t k (c + 1)) ≡ true) → t (cond b c (first_from t k (c + 1))) ≡ true
    by_test true q h r = q
    by_test false q h r = r (omega arith)

-- it is n where n passes and nothing before it does
pub first_is : (t : ℕ → Bool) (k c n : ℕ) → c ≤ n → n < c + k → t n ≡ true → ((m : ℕ) → c ≤ m → m < n → t m ≡ true → ⊥) → first_from t k c ≡ n
first_is t k c n l m e none =
    let p = first_passes t k c n l m e in
    ⊎_elim
    (λ (q : first_from t k c ≡ n). q)
    (λ (q : first_from t k c < n). absurd (none (first_from t k c) (first_within t k c).0 q p.0))
    (eq-or-lt_of_le p.1)

-- it is past the end where nothing passes
pub first_none : (t : ℕ → Bool) (k c : ℕ) → ((m : ℕ) → c ≤ m → m < c + k → t m ≡ true → ⊥) → first_from t k c ≡ c + k
first_none t k c none =
    let w = first_within t k c in
    ⊎_elim
    (λ (q : first_from t k c ≡ c + k). q)
    (λ (q : first_from t k c < c + k). absurd (none (first_from t k c) w.0 q (first_found t k c q)))
    (eq-or-lt_of_le w.1)

-- tests that agree below n
pub any_ext : (n : ℕ) (t u : ℕ → Bool) → ((i : ℕ) → i < n → t i ≡ u i) → any_below n t ≡ any_below n u
unfolding any_below
any_ext zero t u h = refl
any_ext (suc n) t u h = ap₂ ◌||◌ (any_ext n t u (λ i l. h i (omega arith))) (h n (omega arith))

-- ---- one number more

pub all_more : (t : ℕ → Bool) (i : ℕ) → all_below i t ≡ true → t i ≡ true → all_below (i + 1) t ≡ true
all_more t i a e = all_step t i ∙ and_both (all_below i t) (t i) a e

-- of tests on a number and the next: those before i hold, and the one that ends in i does
pub pairs_more : (t : ℕ → Bool) (i : ℕ) → all_below (i - 1) t ≡ true → (0 < i → t (i - 1) ≡ true) → all_below (i + 1 - 1) t ≡ true
pairs_more t i a e =
    ⊎_elim
    (λ (z : i ≤ 0). let k : i + 1 - 1 ≡ i - 1 = omega arith in rw k a)
    (λ (p : 0 < i). let k : i + 1 - 1 ≡ i - 1 + 1 = omega arith in rw k (all_more t (i - 1) a (e p)))
    (le_or_lt i 0)
