-- Laws of member, distinct, count and tabulate. Cited by `names`, and from `index` to `statements` by most crates.
-- Assumes nothing.
use mathlib.Core.Path.{◌≡◌, refl, sym, ap, ap₂, ◌∙◌}
use mathlib.Core.Logic.{⊎_elim}
use mathlib.Core.Bool.{Bool, true, false, cond, ◌||◌, true≢false}
use mathlib.Core.List.{List, [], ◌∷◌, ◌++◌}
use Prim.Native.Nat.{ℕ, zero, suc, ◌+◌, ◌-◌, ◌≤◌, ◌<◌}
use native.Mathlib.Nat.{eq-or-lt_of_le}
use native.Mathlib.Numerals.{add-one}
use native.Mathlib.Omega.{arith}
use lib.ListN.{length, get_or, drop, set, replicate, length-append, drop_of_length-le, get_or-append}
use lib.Seq.{drop-cons, append_snoc, set_at, get_or-append_seam}
use lib.Dec.{eqb}
use borrow.Author.Tests.{eq-eqb, ne_eqb, eqb-true, eqb-false}
use Rattle.laws.specs.Lists.{member, Distinct, count_of, tabulate}

-- ---- tests

-- a number is itself
pub eqb_same : (x : ℕ) → eqb x x ≡ true
eqb_same x = eq-eqb x x refl

pub eqb_swap : (x y : ℕ) → eqb x y ≡ eqb y x
eqb_swap x y = by_test (eqb x y) refl
  where
    by_test : (b : Bool) → eqb x y ≡ b → eqb x y ≡ eqb y x
    by_test true e = e ∙ sym (eq-eqb y x (sym (eqb-true x y e)))
    by_test false e = e ∙ sym (ne_eqb y x (λ q. eqb-false x y e (sym q)))

-- ---- no element

pub length_nil : {A : Type 0} (l : List A) → length l ≡ 0 → l ≡ []
length_nil [] e = refl
length_nil (x ∷ l) e = absurd (omega arith)

-- ---- member

pub member_append : (x : ℕ) (k l : List ℕ) → member x (k ++ l) ≡ member x k || member x l
unfolding member
member_append x [] l = refl
member_append x (y ∷ k) l = by_test (eqb x y) (member_append x k l)
  where
    by_test : (b : Bool) → member x (k ++ l) ≡ member x k || member x l → b || member x (k ++ l) ≡ (b || member x k) || member x l
    by_test true h = refl
    by_test false h = h

-- what a scan from place i on meets: x at i, x not at i, the end
pub member_met : (x : ℕ) (l : List ℕ) (i : ℕ) → i < length l → get_or l i 0 ≡ x → member x (drop i l) ≡ true
unfolding member
member_met x l i h e = rw (drop-cons l i 0, eq-eqb x (get_or l i 0) (sym e))

pub member_passed : (x : ℕ) (l : List ℕ) (i : ℕ) → i < length l → (get_or l i 0 ≡ x → ⊥) → member x (drop (i + 1) l) ≡ member x (drop i l)
unfolding member
member_passed x l i h n = rw (drop-cons l i 0, ne_eqb x (get_or l i 0) (λ e. n (sym e)), add-one)

pub member_end : (x : ℕ) (l : List ℕ) (i : ℕ) → length l ≤ i → member x (drop i l) ≡ false
unfolding member
member_end x l i h = rw (drop_of_length-le l h)

-- ---- distinct

pub distinct_nil : Distinct []
unfolding Distinct
distinct_nil = tt

-- one element more at the end keeps a list distinct where the list lacks it
pub distinct_snoc : (l : List ℕ) (x : ℕ) → Distinct l → member x l ≡ false → Distinct (l ++ (x ∷ []))
unfolding Distinct member
distinct_snoc [] x d n = (refl, tt)
distinct_snoc (y ∷ l) x d n = by_test (eqb x y) refl n (distinct_snoc l x d.1)
  where
    by_test : (b : Bool) → eqb x y ≡ b → b || member x l ≡ false → (member x l ≡ false → Distinct (l ++ (x ∷ [])))
        → (member y (l ++ (x ∷ [])) ≡ false) × Distinct (l ++ (x ∷ []))
    by_test true e m r = absurd (true≢false m)
    by_test false e m r = (member_append y l (x ∷ []) ∙ (rw (d.0, eqb_swap y x, e)), r m)

-- ---- how many pass

pub count_le : {A : Type 0} (t : A → Bool) (l : List A) → count_of t l ≤ length l
unfolding count_of
count_le t [] = omega arith
count_le t (x ∷ l) = by_test (t x) (count_le t l)
  where
    by_test : (b : Bool) → count_of t l ≤ length l → cond b 1 0 + count_of t l ≤ length (x ∷ l)
    by_test true h = omega arith
    by_test false h = omega arith

pub count_append : {A : Type 0} (t : A → Bool) (k l : List A) → count_of t (k ++ l) ≡ count_of t k + count_of t l
unfolding count_of
count_append t [] l = omega arith
count_append t (x ∷ k) l = let h = count_append t k l in omega arith

-- tests that agree on every element count alike
pub count_ext : {A : Type 0} (t u : A → Bool) → ((x : A) → t x ≡ u x) → (l : List A) → count_of t l ≡ count_of u l
unfolding count_of
count_ext t u e [] = refl
count_ext t u e (x ∷ l) = ap₂ (λ (b : Bool) (n : ℕ). cond b 1 0 + n) (e x) (count_ext t u e l)

-- nothing passes a test that fails on every element
pub count_none : {A : Type 0} (t : A → Bool) → ((x : A) → t x ≡ false) → (l : List A) → count_of t l ≡ 0
unfolding count_of
count_none t e [] = refl
count_none t e (x ∷ l) = rw (e x, count_none t e l)

-- where no element passes both tests, those that pass either are those of the one and those of the other
pub count_either : {A : Type 0} (t u : A → Bool) → ((x : A) → t x ≡ true → u x ≡ false) → (l : List A)
    → count_of (λ (x : A). t x || u x) l ≡ count_of t l + count_of u l
unfolding count_of
count_either t u e [] = refl
count_either {A} t u e (x ∷ l) = by_test (t x) refl (u x) refl (count_either t u e l)
  where
    by_test : (b : Bool) → t x ≡ b → (d : Bool) → u x ≡ d
        → count_of (λ (y : A). t y || u y) l ≡ count_of t l + count_of u l
        → cond (b || d) 1 0 + count_of (λ (y : A). t y || u y) l ≡ (cond b 1 0 + count_of t l) + (cond d 1 0 + count_of u l)
    by_test true p true q h = absurd (true≢false (sym q ∙ e x p))
    by_test true p false q h = omega arith
    by_test false p true q h = omega arith
    by_test false p false q h = omega arith

-- of a list without repeats, one element is x if x is in it, and none otherwise
pub count_one : (x : ℕ) (l : List ℕ) → Distinct l → count_of (λ (y : ℕ). eqb y x) l ≡ cond (member x l) 1 0
unfolding count_of Distinct member
count_one x [] d = refl
count_one x (y ∷ l) d = by_test (eqb x y) refl (count_one x l d.1)
  where
    by_test : (b : Bool) → eqb x y ≡ b → count_of (λ (z : ℕ). eqb z x) l ≡ cond (member x l) 1 0
        → cond (eqb y x) 1 0 + count_of (λ (z : ℕ). eqb z x) l ≡ cond (b || member x l) 1 0
    by_test true e h =
        let n : member x l ≡ false = rw (eqb-true x y e) d.0 in
        rw (eqb_swap y x, e, h, n)
    by_test false e h = rw (eqb_swap y x, e, h) (by_member (member x l))
      where
        by_member : (m : Bool) → 0 + cond m 1 0 ≡ cond m 1 0
        by_member true = refl
        by_member false = refl

-- ---- tabulate

pub tabulate_nil : {A : Type 0} (f : ℕ → A) → tabulate f 0 ≡ []
unfolding tabulate
tabulate_nil f = refl

pub length_tabulate : {A : Type 0} (f : ℕ → A) (k : ℕ) → length (tabulate f k) ≡ k
unfolding tabulate
length_tabulate f zero = refl
length_tabulate f (suc k) =
    let h = length_tabulate f k in
    omega (arith, length-append (tabulate f k) (f k ∷ []))

pub get_d_tabulate : {A : Type 0} (f : ℕ → A) (k i : ℕ) (d : A) → i < k → get_or (tabulate f k) i d ≡ f i
unfolding tabulate
get_d_tabulate f zero i d l = absurd (omega arith)
get_d_tabulate {A} f (suc k) i d l =
    let n : length (tabulate f k) ≡ k = length_tabulate f k in
    let m : i ≤ k = omega arith in
    ⊎_elim
    (λ (e : i ≡ k). ap (λ (j : ℕ). get_or (tabulate f k ++ (f k ∷ [])) j d) (e ∙ sym n) ∙ get_or-append_seam (tabulate f k) (f k) [] d ∙ ap f (sym e))
    (λ (h : i < k). get_or-append (tabulate f k) (f k ∷ []) d i (rw n h) ∙ get_d_tabulate f k i d h)
    (eq-or-lt_of_le m)

-- functions that agree below k have equal tables
pub tabulate_ext : {A : Type 0} (f g : ℕ → A) (k : ℕ) → ((i : ℕ) → i < k → f i ≡ g i) → tabulate f k ≡ tabulate g k
unfolding tabulate
tabulate_ext f g zero e = refl
tabulate_ext {A} f g (suc k) e =
    ap₂ (λ (l : List A) (x : A). l ++ (x ∷ [])) (tabulate_ext f g k (λ i l. e i (omega arith))) (e k (omega arith))

-- x is not among the first k values where none of them is x
pub member_tabulate_none : (f : ℕ → ℕ) (k x : ℕ) → ((i : ℕ) → i < k → f i ≡ x → ⊥) → member x (tabulate f k) ≡ false
unfolding tabulate member
member_tabulate_none f zero x n = refl
member_tabulate_none f (suc k) x n =
    member_append x (tabulate f k) (f k ∷ [])
    ∙ rw (member_tabulate_none f k x (λ i l. n i (omega arith)), ne_eqb x (f k) (λ e. n k (omega arith) (sym e)))

-- the values are all different where no two of them are equal
pub distinct_tabulate : (f : ℕ → ℕ) (k : ℕ) → ((i j : ℕ) → i < j → j < k → f i ≡ f j → ⊥) → Distinct (tabulate f k)
unfolding tabulate Distinct
distinct_tabulate f zero n = tt
distinct_tabulate f (suc k) n =
    distinct_snoc (tabulate f k) (f k)
    (distinct_tabulate f k (λ i j l m. n i j l (omega arith)))
    (member_tabulate_none f k (f k) (λ i l. n i k l (omega arith)))

-- one value more, stored at the first place that a fill of z still holds
pub set_tabulate : {A : Type 0} (f : ℕ → A) (m i : ℕ) (z : A) → i < m
    → set (tabulate f i ++ replicate (m - i) z) i (f i) ≡ tabulate f (i + 1) ++ replicate (m - (i + 1)) z
unfolding tabulate
set_tabulate {A} f m i z h =
    let e : m - i ≡ suc (m - (i + 1)) = omega arith in
    ap (λ (n : ℕ). set (tabulate f i ++ replicate n z) i (f i)) e
    ∙ set_at (tabulate f i) z (replicate (m - (i + 1)) z) (f i) i (length_tabulate f i)
    ∙ sym (append_snoc (tabulate f i) (f i) (replicate (m - (i + 1)) z))
    ∙ ap (λ (n : ℕ). tabulate f n ++ replicate (m - (i + 1)) z) (sym (add-one i))
