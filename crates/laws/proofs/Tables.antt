-- Laws of tables made by `tabulate`: one entry changed, and how many numbers a list without repeats holds. Cited by `index_writer`, `candidates`,
-- `sizes` and `search`.
-- Assumes nothing.
use mathlib.Core.Path.{◌≡◌, refl, sym, ap, ◌∙◌}
use mathlib.Core.Logic.{◌⊎◌, ⊎_elim}
use mathlib.Core.Bool.{Bool, true, false, cond, ◌||◌, true≢false}
use mathlib.Core.List.{List, [], ◌∷◌, ◌++◌}
use Prim.Native.Nat.{ℕ, zero, suc, ◌+◌, ◌≤◌, ◌<◌}
use native.Mathlib.Numerals.{add-one}
use native.Mathlib.Omega.{arith}
use lib.ListN.{length, get_or, drop, set, length-set, length-append, length-drop}
use lib.Seq.{ext_get_or, drop-cons, set_at, append_snoc, get_or-set_same, get_or-set_other}
use lib.Dec.{eqb, ltb}
use borrow.Author.Tests.{eq-eqb, ne_eqb, lt-ltb, le-ltb, ltb-true}
use Rattle.laws.specs.Lists.{member, Distinct, count_of, tabulate}
use Rattle.laws.specs.Below.{sum_below, count_below}
use Rattle.laws.proofs.Lists.{length_tabulate, get_d_tabulate, count_none, count_ext, count_either, count_one}
use Rattle.laws.proofs.Below.{sum_below_ext}
use Rattle.laws.proofs.Order.{eq_or_ne, le_or_lt}
use Rattle.laws.proofs.Tests.{or_right}

-- ---- a table

-- any list is the table of its own entries
pub tabulate_self : (l : List ℕ) (n : ℕ) → length l ≡ n → tabulate (λ (i : ℕ). get_or l i 0) n ≡ l
tabulate_self l n e =
    ext_get_or 0 (tabulate (λ (i : ℕ). get_or l i 0) n) l (length_tabulate (λ (i : ℕ). get_or l i 0) n ∙ sym e)
    (λ i h. get_d_tabulate (λ (j : ℕ). get_or l j 0) n i 0 (rw length_tabulate at h))

-- a list is the table of a function that its entries have the values of
pub table_of : (l : List ℕ) (n : ℕ) (f : ℕ → ℕ) → length l ≡ n → ((i : ℕ) → i < n → get_or l i 0 ≡ f i) → l ≡ tabulate f n
table_of l n f e h =
    ext_get_or 0 l (tabulate f n) (e ∙ sym (length_tabulate f n))
    (λ i k. let m : i < n = rw e at k in h i m ∙ sym (get_d_tabulate f n i 0 m))

-- one entry stored: the list is the table of the function so changed
pub table_set : (l : List ℕ) (n k v : ℕ) (f : ℕ → ℕ) → length l ≡ n → k < n → f k ≡ v
    → ((i : ℕ) → i < n → (i ≡ k → ⊥) → get_or l i 0 ≡ f i) → set l k v ≡ tabulate f n
table_set l n k v f e kn fk h =
    table_of (set l k v) n f (length-set l k v ∙ e)
    (λ i m.
    ⊎_elim
    (λ (q : i ≡ k). ap (λ (j : ℕ). get_or (set l k v) j 0) q ∙ get_or-set_same l k v 0 (rw e kn) ∙ sym fk ∙ ap f (sym q))
    (λ (q : i ≡ k → ⊥). get_or-set_other l k i v 0 q ∙ h i m q)
    (eq_or_ne i k))

-- ---- how many numbers a list without repeats holds

-- those below n, one number at a time
count_below_lem : (n : ℕ) (l : List ℕ) → count_of (λ (y : ℕ). ltb y n) l ≡ sum_below n (λ (i : ℕ). count_of (λ (y : ℕ). eqb y i) l)
unfolding sum_below
count_below_lem zero l = count_none (λ (y : ℕ). ltb y 0) (λ y. le-ltb y 0 (omega arith)) l
count_below_lem (suc n) l =
    count_ext (λ (y : ℕ). ltb y (suc n)) (λ (y : ℕ). ltb y n || eqb y n) step l
    ∙ count_either (λ (y : ℕ). ltb y n) (λ (y : ℕ). eqb y n)
    (λ y e. ne_eqb y n (λ q. let h = ltb-true y n e in omega arith)) l
    ∙ ap (λ (c : ℕ). c + count_of (λ (y : ℕ). eqb y n) l) (count_below_lem n l)
  where
    step : (y : ℕ) → ltb y (suc n) ≡ ltb y n || eqb y n
    step y =
        ⊎_elim
        (λ (h : n ≤ y).
        ⊎_elim
        (λ (q : y ≡ n). rw (lt-ltb y (suc n) (omega arith), le-ltb y n h, eq-eqb y n q))
        (λ (q : y ≡ n → ⊥). rw (le-ltb y (suc n) (omega arith), le-ltb y n h, ne_eqb y n q))
        (eq_or_ne y n))
        (λ (h : y < n). rw (lt-ltb y (suc n) (omega arith), lt-ltb y n h))
        (le_or_lt n y)

all_pass : (l : List ℕ) (t : ℕ → Bool) → ((x : ℕ) → member x l ≡ true → t x ≡ true) → count_of t l ≡ length l
unfolding count_of member
all_pass [] t h = refl
all_pass (x ∷ l) t h =
    let a : t x ≡ true = h x (rw (eq-eqb x x refl)) in
    let b = all_pass l t (λ y m. h y (or_right (eqb y x) (member y l) m)) in
    rw a (omega arith)

-- a list without repeats whose members are the numbers that pass, all of them below n, is as long as they are many
pub length_members : (n : ℕ) (l : List ℕ) (t : ℕ → Bool) → Distinct l → ((i : ℕ) → member i l ≡ t i) → ((i : ℕ) → n ≤ i → t i ≡ false)
    → length l ≡ count_below n t
length_members n l t d m z =
    sym (all_pass l (λ (y : ℕ). ltb y n) (λ x e. below x (le_or_lt n x) (sym (m x) ∙ e)))
    ∙ count_below_lem n l
    ∙ sum_below_ext n (λ (i : ℕ). count_of (λ (y : ℕ). eqb y i) l) (λ (i : ℕ). cond (t i) 1 0)
    (λ i h. count_one i l d ∙ ap (λ (b : Bool). cond b 1 0) (m i))
  where
    below : (x : ℕ) → (n ≤ x) ⊎ (x < n) → t x ≡ true → ltb x n ≡ true
    below x c e =
        ⊎_elim (λ (h : n ≤ x). absurd (true≢false (sym e ∙ z x h))) (λ (h : x < n). lt-ltb x n h) c

-- ---- a table written over a list

-- the first k values over the list l
abbrev pub table_over : (ℕ → ℕ) → ℕ → List ℕ → List ℕ
table_over f k l = tabulate f k ++ drop k l

pub over_nil : (f : ℕ → ℕ) (l : List ℕ) → l ≡ table_over f 0 l
unfolding tabulate
over_nil f l = refl

pub over_step : (f : ℕ → ℕ) (k : ℕ) (l : List ℕ) → k < length l → set (table_over f k l) k (f k) ≡ table_over f (k + 1) l
unfolding tabulate
over_step f k l h =
    ap (λ (r : List ℕ). set (tabulate f k ++ r) k (f k)) (drop-cons l k 0 h)
    ∙ set_at (tabulate f k) (get_or l k 0) (drop (suc k) l) (f k) k (length_tabulate f k)
    ∙ sym (append_snoc (tabulate f k) (f k) (drop (suc k) l))
    ∙ ap (λ (n : ℕ). tabulate f n ++ drop n l) (sym (add-one k))

pub length_over : (f : ℕ → ℕ) (k : ℕ) (l : List ℕ) → k ≤ length l → length (table_over f k l) ≡ length l
length_over f k l h =
    let a = length-append (tabulate f k) (drop k l) in
    let b = length_tabulate f k in
    let c = length-drop k l in
    omega arith
