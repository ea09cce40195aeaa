-- Counting a list by an enumeration of what it holds: where a sequence has no value twice and meets every element of a list without repeats,
-- it meets as many as the list is long. Cited by `lists`.
-- Assumes nothing.
use mathlib.Core.Path.{◌≡◌, refl, sym, ap, ◌∙◌}
use mathlib.Core.Logic.{⊎_elim}
use mathlib.Core.Bool.{Bool, true, false, cond, ◌||◌, true≢false, or-true}
use mathlib.Core.List.{List, [], ◌∷◌}
use Prim.Native.Nat.{ℕ, zero, suc, ◌+◌, ◌≤◌, ◌<◌}
use native.Mathlib.Nat.{eq-or-lt_of_le}
use native.Mathlib.Omega.{arith}
use lib.ListN.{length}
use lib.Dec.{eqb}
use borrow.Author.Tests.{eq-eqb, eqb-true}
use Rattle.laws.specs.Lists.{member, Distinct}
use Rattle.laws.specs.Below.{sum_below, count_below}
use Rattle.laws.proofs.Lists.{eqb_same}

-- ---- counts below a bound

pub count_below_none : (n : ℕ) (t : ℕ → Bool) → ((i : ℕ) → i < n → t i ≡ false) → count_below n t ≡ 0
unfolding sum_below
count_below_none zero t h = refl
count_below_none (suc n) t h =
    let a = count_below_none n t (λ i l. h i (omega arith)) in
    let b : ◌≡◌ {A = ℕ} (cond (t n) 1 0) 0 = rw (h n (omega arith)) in
    omega arith

-- exactly one number passes
pub count_below_one : (n : ℕ) (t : ℕ → Bool) (k : ℕ) → k < n → t k ≡ true → ((i : ℕ) → i < n → t i ≡ true → i ≡ k) → count_below n t ≡ 1
unfolding sum_below
count_below_one zero t k l e only = absurd (omega arith)
count_below_one (suc n) t k l e only =
    let m : k ≤ n = omega arith in
    ⊎_elim
    (λ (p : k ≡ n).
    let a = count_below_none n t (λ i h. by_test (t i) refl (λ q. let z = only i (omega arith) q in omega arith)) in
    let b : ◌≡◌ {A = ℕ} (cond (t n) 1 0) 1 = rw (ap t (sym p) ∙ e) in
    omega arith)
    (λ (p : k < n).
    let a = count_below_one n t k p e (λ i h q. only i (omega arith) q) in
    let b : ◌≡◌ {A = ℕ} (cond (t n) 1 0) 0 = rw (by_test (t n) refl (λ q. let z = only n (omega arith) q in omega arith)) in
    omega arith)
    (eq-or-lt_of_le m)
  where
    by_test : (b : Bool) → b ≡ b → (b ≡ true → ⊥) → b ≡ false
    by_test true q h = absurd (h refl)
    by_test false q h = refl

-- where no number passes both tests
pub count_below_either : (n : ℕ) (t u : ℕ → Bool) → ((i : ℕ) → i < n → t i ≡ true → u i ≡ false)
    → count_below n (λ (i : ℕ). t i || u i) ≡ count_below n t + count_below n u
unfolding sum_below
count_below_either zero t u h = refl
count_below_either (suc n) t u h = by_tests (t n) refl (u n) refl (count_below_either n t u (λ i l. h i (omega arith)))
  where
    by_tests : (a : Bool) → t n ≡ a → (b : Bool) → u n ≡ b
        → count_below n (λ (i : ℕ). t i || u i) ≡ count_below n t + count_below n u
        → count_below n (λ (i : ℕ). t i || u i) + cond (a || b) 1 0 ≡ (count_below n t + cond a 1 0) + (count_below n u + cond b 1 0)
    by_tests true p true q k = absurd (true≢false (sym q ∙ h n (omega arith) p))
    by_tests true p false q k = omega arith
    by_tests false p true q k = omega arith
    by_tests false p false q k = omega arith

-- ---- a list, by a sequence

pub count_hits : (n : ℕ) (f : ℕ → ℕ) → ((i j : ℕ) → i < n → j < n → f i ≡ f j → i ≡ j)
    → (l : List ℕ) → Distinct l → ((x : ℕ) → member x l ≡ true → (i : ℕ) × (i < n) × (f i ≡ x))
    → count_below n (λ (i : ℕ). member (f i) l) ≡ length l
unfolding member Distinct
count_hits n f inj [] d h = count_below_none n (λ (i : ℕ). false) (λ i l. refl)
count_hits n f inj (x ∷ l) d h =
    let v = h x (rw (eqb_same x)) in
    let one = count_below_one n (λ (i : ℕ). eqb (f i) x) v.0 v.1 (eq-eqb (f v.0) x v.2)
    (λ i m e. inj i v.0 m v.1 (eqb-true (f i) x e ∙ sym v.2)) in
    let rest = count_hits n f inj l d.1 (λ y m. h y (rw m (or-true (eqb y x)))) in
    let both = count_below_either n (λ (i : ℕ). eqb (f i) x) (λ (i : ℕ). member (f i) l)
    (λ i m e. ap (λ (y : ℕ). member y l) (eqb-true (f i) x e) ∙ d.0) in
    omega arith
