-- Laws of sums over lists: over a sorted list, over those that pass a test, and the least sum of so many. Cited by `sizes`.
-- Assumes nothing.
use mathlib.Core.Path.{◌≡◌, refl, ap, ap₂, ◌∙◌}
use mathlib.Core.Logic.{◌⊎◌, ⊎_elim}
use mathlib.Core.Bool.{Bool, true, false, cond}
use mathlib.Core.List.{List, [], ◌∷◌, map}
use Prim.Native.Nat.{ℕ, zero, suc, ◌+◌, ◌≤◌, ◌<◌}
use native.Mathlib.Omega.{arith}
use lib.ListN.{length, take}
use Rattle.laws.specs.Lists.{count_of, sum_of}
use Rattle.laws.specs.Each.{Each}
use Rattle.laws.specs.Filter.{filter_of}
use Rattle.laws.specs.Sort.{insert, sort_of, AllFrom, Sorted}
use Rattle.laws.proofs.Order.{le_or_lt}
use Rattle.laws.proofs.Lists.{count_le}
use Rattle.laws.proofs.Sort.{sort_nil, sort_cons, insert_met, insert_passed, sorted_from, sorted_rest}

-- ---- sums of values

-- values that agree on each element have equal sums
pub sum_ext : {A : Type 0} (f g : A → ℕ) (l : List A) → Each (λ (x : A). f x ≡ g x) l → sum_of (map f l) ≡ sum_of (map g l)
unfolding sum_of Each
sum_ext f g [] e = refl
sum_ext f g (x ∷ l) e = ap₂ ◌+◌ e.0 (sum_ext f g l e.1)

pub sum_map : {A B : Type 0} (f : B → ℕ) (g : A → B) (l : List A) → sum_of (map f (map g l)) ≡ sum_of (map (λ (x : A). f (g x)) l)
unfolding sum_of
sum_map f g [] = refl
sum_map f g (x ∷ l) = ap (λ (n : ℕ). f (g x) + n) (sum_map f g l)

-- the sum over those that pass
pub sum_filter : {A : Type 0} (f : A → ℕ) (t : A → Bool) (l : List A) → sum_of (map f (filter_of t l)) ≡ sum_of (map (λ (x : A). cond (t x) (f x) 0) l)
unfolding sum_of filter_of
sum_filter f t [] = refl
sum_filter {A} f t (x ∷ l) = by_test (t x) (sum_filter f t l)
  where
    by_test : (b : Bool) → sum_of (map f (filter_of t l)) ≡ sum_of (map (λ (y : A). cond (t y) (f y) 0) l)
        → sum_of (map f (cond b (x ∷ filter_of t l) (filter_of t l))) ≡ cond b (f x) 0 + sum_of (map (λ (y : A). cond (t y) (f y) 0) l)
    by_test true h = ap (λ (n : ℕ). f x + n) h
    by_test false h = omega arith

-- sorting changes no sum
pub sum_insert : (f : ℕ → ℕ) (x : ℕ) (l : List ℕ) → sum_of (map f (insert x l)) ≡ f x + sum_of (map f l)
unfolding sum_of insert
sum_insert f x [] = refl
sum_insert f x (y ∷ l) = by_order (le_or_lt x y) (sum_insert f x l)
  where
    by_order : (x ≤ y) ⊎ (y < x) → sum_of (map f (insert x l)) ≡ f x + sum_of (map f l) → sum_of (map f (insert x (y ∷ l))) ≡ f x + (f y + sum_of (map f l))
    by_order c h =
        ⊎_elim
        (λ (o : x ≤ y). ap (λ (r : List ℕ). sum_of (map f r)) (insert_met x y l o))
        (λ (o : y < x). ap (λ (r : List ℕ). sum_of (map f r)) (insert_passed x y l o) ∙ (let q : f y + sum_of (map f (insert x l)) ≡ f x + (f y + sum_of (map f l)) = omega arith in q))
        c

pub sum_sort : (f : ℕ → ℕ) (l : List ℕ) → sum_of (map f (sort_of l)) ≡ sum_of (map f l)
unfolding sum_of
sum_sort f [] = ap (λ (r : List ℕ). sum_of (map f r)) sort_nil
sum_sort f (x ∷ l) = ap (λ (r : List ℕ). sum_of (map f r)) (sort_cons x l) ∙ sum_insert f x (sort_of l) ∙ ap (λ (n : ℕ). f x + n) (sum_sort f l)

-- ---- the least sum of so many

-- values that rise with the elements
abbrev Rises : (ℕ → ℕ) → Type 0
Rises f = (a b : ℕ) → a ≤ b → f a ≤ f b

-- one at the front that is not above the others is not above the last of one more
shift : (f : ℕ → ℕ) → Rises f → (x : ℕ) (l : List ℕ) (s : ℕ) → AllFrom x l → s < length l
    → f x + sum_of (map f (take s l)) ≤ sum_of (map f (take (suc s) l))
unfolding sum_of AllFrom
shift f r x [] s a h = absurd (omega arith)
shift f r x (y ∷ l) zero a h = let k = r x y a.0 in omega arith
shift f r x (y ∷ l) (suc s) a h = let k = shift f r x l s a.1 (omega arith) in omega arith

-- the first s of a sorted list have the least sum of any s of it
pub least_sum : (f : ℕ → ℕ) → Rises f → (t : ℕ → Bool) (l : List ℕ) → Sorted l → (s : ℕ) → count_of t l ≡ s
    → sum_of (map f (take s l)) ≤ sum_of (map (λ (x : ℕ). cond (t x) (f x) 0) l)
unfolding sum_of count_of
least_sum f r t [] o zero e = omega arith
least_sum f r t [] o (suc s) e = omega arith
least_sum f r t (x ∷ l) o zero e = omega arith
least_sum f r t (x ∷ l) o (suc s) e = by_test (t x) e (λ n q. least_sum f r t l (sorted_rest x l o) n q)
  where
    by_test : (b : Bool) → cond b 1 0 + count_of t l ≡ suc s
        → ((n : ℕ) → count_of t l ≡ n → sum_of (map f (take n l)) ≤ sum_of (map (λ (y : ℕ). cond (t y) (f y) 0) l))
        → f x + sum_of (map f (take s l)) ≤ cond b (f x) 0 + sum_of (map (λ (y : ℕ). cond (t y) (f y) 0) l)
    by_test true q h = let k = h s (omega arith) in omega arith
    by_test false q h =
        let k = h (suc s) (omega arith) in
        let c = count_le t l in
        let m = shift f r x l s (sorted_from x l o) (omega arith) in
        omega arith
