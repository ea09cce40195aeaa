-- Laws of tests and sums over the numbers below a bound. Cited wherever something is tested or counted up to a bound, from `hex_digits` to
-- `statements`.
-- Assumes nothing.
use mathlib.Core.Path.{◌≡◌, refl, sym, ap, ap₂, ◌∙◌}
use mathlib.Core.Logic.{⊎_elim}
use mathlib.Core.Bool.{Bool, true, false, cond, ◌&&◌, ◌||◌, true≢false, false≢true}
use Prim.Native.Nat.{ℕ, zero, suc, ◌+◌, ◌*◌, ◌≤◌, ◌<◌}
use native.Mathlib.Nat.{eq-or-lt_of_le, add-zero, suc-mul, mul-zero, mul-add}
use native.Mathlib.Numerals.{add-one}
use native.Mathlib.Omega.{arith}
use Rattle.laws.specs.Below.{all_below, any_below, sum_below, count_below}
use Rattle.laws.proofs.Tests.{or_right}

-- ---- a test of two parts

pub and_left : (a b : Bool) → a && b ≡ true → a ≡ true
and_left true b e = refl
and_left false b e = absurd (false≢true e)

pub and_right : (a b : Bool) → a && b ≡ true → b ≡ true
and_right true b e = e
and_right false b e = absurd (false≢true e)

pub and_both : (a b : Bool) → a ≡ true → b ≡ true → a && b ≡ true
and_both true b e f = f
and_both false b e f = absurd (false≢true e)

pub and_false_left : (a b : Bool) → a ≡ false → a && b ≡ false
and_false_left true b e = absurd (true≢false e)
and_false_left false b e = refl

pub and_false_right : (a b : Bool) → b ≡ false → a && b ≡ false
and_false_right true b e = e
and_false_right false b e = refl

-- ---- all

pub all_nil : (t : ℕ → Bool) → all_below 0 t ≡ true
unfolding all_below
all_nil t = refl

pub all_step : (t : ℕ → Bool) (n : ℕ) → all_below (n + 1) t ≡ all_below n t && t n
unfolding all_below
all_step t n = rw (add-one n)

pub all_at : (n : ℕ) (t : ℕ → Bool) → all_below n t ≡ true → (i : ℕ) → i < n → t i ≡ true
unfolding all_below
all_at zero t e i l = absurd (omega arith)
all_at (suc n) t e i l =
    let m : i ≤ n = omega arith in
    ⊎_elim
    (λ (s : i ≡ n). ap t s ∙ and_right (all_below n t) (t n) e)
    (λ (s : i < n). all_at n t (and_left (all_below n t) (t n) e) i s)
    (eq-or-lt_of_le m)

pub all_of : (n : ℕ) (t : ℕ → Bool) → ((i : ℕ) → i < n → t i ≡ true) → all_below n t ≡ true
unfolding all_below
all_of zero t h = refl
all_of (suc n) t h = and_both (all_below n t) (t n) (all_of n t (λ i l. h i (omega arith))) (h n (omega arith))

-- one number that fails is enough
pub all_fails : (n : ℕ) (t : ℕ → Bool) (i : ℕ) → i < n → t i ≡ false → all_below n t ≡ false
all_fails n t i l e = by_test (all_below n t) refl
  where
    by_test : (b : Bool) → all_below n t ≡ b → b ≡ false
    by_test true q = absurd (true≢false (sym (all_at n t q i l) ∙ e))
    by_test false q = refl

-- tests that agree below n
pub all_ext : (n : ℕ) (t u : ℕ → Bool) → ((i : ℕ) → i < n → t i ≡ u i) → all_below n t ≡ all_below n u
unfolding all_below
all_ext zero t u h = refl
all_ext (suc n) t u h = ap₂ ◌&&◌ (all_ext n t u (λ i l. h i (omega arith))) (h n (omega arith))

-- ---- any

pub any_of : (n : ℕ) (t : ℕ → Bool) (i : ℕ) → i < n → t i ≡ true → any_below n t ≡ true
unfolding any_below
any_of zero t i l e = absurd (omega arith)
any_of (suc n) t i l e =
    let m : i ≤ n = omega arith in
    ⊎_elim
    (λ (s : i ≡ n). or_right (any_below n t) (t n) (ap t (sym s) ∙ e))
    (λ (s : i < n). rw (any_of n t i s e))
    (eq-or-lt_of_le m)

pub any_at : (n : ℕ) (t : ℕ → Bool) → any_below n t ≡ true → (i : ℕ) × (i < n) × (t i ≡ true)
unfolding any_below
any_at zero t e = absurd (false≢true e)
any_at (suc n) t e = by_test (any_below n t) refl e (any_at n t)
  where
    by_test : (b : Bool) → any_below n t ≡ b → b || t n ≡ true → (any_below n t ≡ true → (i : ℕ) × (i < n) × (t i ≡ true))
        → (i : ℕ) × (i < suc n) × (t i ≡ true)
    by_test true q r h = let w = h q in (w.0, (let l = w.1 in omega arith), w.2)
    by_test false q r h = (n, omega arith, r)

pub any_none : (n : ℕ) (t : ℕ → Bool) → ((i : ℕ) → i < n → t i ≡ false) → any_below n t ≡ false
unfolding any_below
any_none zero t h = refl
any_none (suc n) t h = rw (any_none n t (λ i l. h i (omega arith)), h n (omega arith))

-- ---- sums

pub sum_below_step : (f : ℕ → ℕ) (n : ℕ) → sum_below (n + 1) f ≡ sum_below n f + f n
unfolding sum_below
sum_below_step f n = rw (add-one n)

pub sum_below_ext : (n : ℕ) (f g : ℕ → ℕ) → ((i : ℕ) → i < n → f i ≡ g i) → sum_below n f ≡ sum_below n g
unfolding sum_below
sum_below_ext zero f g h = refl
sum_below_ext (suc n) f g h = ap₂ ◌+◌ (sum_below_ext n f g (λ i l. h i (omega arith))) (h n (omega arith))

pub sum_below_le : (n : ℕ) (f g : ℕ → ℕ) → ((i : ℕ) → i < n → f i ≤ g i) → sum_below n f ≤ sum_below n g
unfolding sum_below
sum_below_le zero f g h = omega arith
sum_below_le (suc n) f g h =
    let a = sum_below_le n f g (λ i l. h i (omega arith)) in
    let b = h n (omega arith) in
    omega arith

-- each of n numbers at most m: the sum at most n times m
pub sum_below_most : (n m : ℕ) (f : ℕ → ℕ) → ((i : ℕ) → i < n → f i ≤ m) → sum_below n f ≤ n * m
unfolding sum_below
sum_below_most zero m f h = omega arith
sum_below_most (suc n) m f h =
    let a = sum_below_most n m f (λ i l. h i (omega arith)) in
    let b = h n (omega arith) in
    let e = suc-mul n m in
    omega arith

-- a longer sum is not less
pub sum_below_up : (n d : ℕ) (f : ℕ → ℕ) → sum_below n f ≤ sum_below (n + d) f
sum_below_up n zero f = let e = ap (λ (k : ℕ). sum_below k f) (add-zero n) in omega arith
sum_below_up n (suc d) f =
    let a = sum_below_up n d f in
    let k : n + suc d ≡ (n + d) + 1 = omega arith in
    let e = ap (λ (j : ℕ). sum_below j f) k in
    let s = sum_below_step f (n + d) in
    omega arith

-- ---- how many pass

pub count_below_most : (n : ℕ) (t : ℕ → Bool) → count_below n t ≤ n
unfolding sum_below
count_below_most zero t = omega arith
count_below_most (suc n) t = by_test (t n) (count_below_most n t)
  where
    by_test : (b : Bool) → count_below n t ≤ n → count_below n t + cond b 1 0 ≤ suc n
    by_test true h = omega arith
    by_test false h = omega arith

-- where one fails, fewer than all pass
pub count_below_fewer : (n : ℕ) (t : ℕ → Bool) (i : ℕ) → i < n → t i ≡ false → count_below n t < n
unfolding sum_below
count_below_fewer zero t i h e = absurd (omega arith)
count_below_fewer (suc n) t i h e =
    let m : i ≤ n = omega arith in
    ⊎_elim
    (λ (s : i ≡ n). let c = count_below_most n t in rw (ap t (sym s) ∙ e) (omega arith))
    (λ (s : i < n). by_test (t n) (count_below_fewer n t i s e))
    (eq-or-lt_of_le m)
  where
    by_test : (b : Bool) → count_below n t < n → count_below n t + cond b 1 0 < suc n
    by_test true h = omega arith
    by_test false h = omega arith

-- what passes one test passes the other
pub count_below_mono : (n : ℕ) (t u : ℕ → Bool) → ((i : ℕ) → i < n → t i ≡ true → u i ≡ true) → count_below n t ≤ count_below n u
count_below_mono n t u h =
    sum_below_le n (λ (i : ℕ). cond (t i) 1 0) (λ (i : ℕ). cond (u i) 1 0) (λ i l. by_test (t i) (u i) (h i l))
  where
    by_test : (a b : Bool) → (a ≡ true → b ≡ true) → cond a 1 0 ≤ cond b 1 0
    by_test true true e = omega arith
    by_test true false e = absurd (false≢true (e refl))
    by_test false true e = omega arith
    by_test false false e = omega arith

-- and one number passes only the other
pub count_below_more : (n : ℕ) (t u : ℕ → Bool) → ((i : ℕ) → i < n → t i ≡ true → u i ≡ true)
    → (j : ℕ) → j < n → t j ≡ false → u j ≡ true → count_below n t < count_below n u
unfolding sum_below
count_below_more zero t u h j l a b = absurd (omega arith)
count_below_more (suc n) t u h j l a b =
    let m : j ≤ n = omega arith in
    ⊎_elim
    (λ (s : j ≡ n).
    let c = count_below_mono n t u (λ i k. h i (omega arith)) in
    rw (ap t (sym s) ∙ a, ap u (sym s) ∙ b) (omega arith))
    (λ (s : j < n). by_test (t n) (u n) (h n (omega arith)) (count_below_more n t u (λ i k. h i (omega arith)) j s a b))
    (eq-or-lt_of_le m)
  where
    by_test : (c d : Bool) → (c ≡ true → d ≡ true) → count_below n t < count_below n u → count_below n t + cond c 1 0 < count_below n u + cond d 1 0
    by_test true true e k = omega arith
    by_test true false e k = absurd (false≢true (e refl))
    by_test false true e k = omega arith
    by_test false false e k = omega arith

-- a sum of sums, the other way round
pub sum_below_swap : (n m : ℕ) (f : ℕ → ℕ → ℕ)
    → sum_below n (λ (i : ℕ). sum_below m (λ (j : ℕ). f i j)) ≡ sum_below m (λ (j : ℕ). sum_below n (λ (i : ℕ). f i j))
unfolding sum_below
sum_below_swap zero m f = sym (all_zero m)
  where
    all_zero : (m : ℕ) → sum_below m (λ (j : ℕ). 0) ≡ 0
    all_zero zero = refl
    all_zero (suc m) = rw (all_zero m)
sum_below_swap (suc n) m f =
    ap (λ (s : ℕ). s + sum_below m (λ (j : ℕ). f n j)) (sum_below_swap n m f)
    ∙ join m (λ (j : ℕ). sum_below n (λ (i : ℕ). f i j)) (λ (j : ℕ). f n j)
  where
    join : (m : ℕ) (a b : ℕ → ℕ) → sum_below m a + sum_below m b ≡ sum_below m (λ (j : ℕ). a j + b j)
    join zero a b = refl
    join (suc m) a b = let h = join m a b in omega arith

-- a number times a sum
pub sum_below_times : (n k : ℕ) (f : ℕ → ℕ) → sum_below n (λ (i : ℕ). k * f i) ≡ k * sum_below n f
unfolding sum_below
sum_below_times zero k f = rw (mul-zero k)
sum_below_times (suc n) k f =
    let h = sum_below_times n k f in
    let d = mul-add k (sum_below n f) (f n) in
    omega arith
