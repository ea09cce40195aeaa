-- Laws of ascending sequences and ascending lists, by index, and of what stands in a list, by its place.
-- Cited by `binary_search`, `index`, `index_writer`, `ordering`, `candidates` and `sizes`.
-- Assumes nothing.
use mathlib.Core.Path.{◌≡◌, refl, sym, subst}
use mathlib.Core.Logic.{⊎_elim}
use mathlib.Core.Bool.{Bool, true, false, ◌||◌}
use mathlib.Core.List.{List, [], ◌∷◌}
use Prim.Native.Nat.{ℕ, zero, suc, ◌+◌, ◌≤◌, ◌<◌}
use native.Mathlib.Nat.{eq-or-lt_of_le}
use native.Mathlib.Numerals.{add-one}
use native.Mathlib.Omega.{arith}
use lib.ListN.{length, get_or}
use lib.Dec.{eqb}
use borrow.Author.Tests.{eq-eqb}
use Rattle.laws.specs.Lists.{member, AllAbove, Ascending}
use Rattle.laws.proofs.Order.{le_or_lt}
use Rattle.laws.proofs.Members.{member_place}

-- ---- sequences

-- where each number is related to the next, each is related to all later ones
pub chain : (R : ℕ → ℕ → Type 0) → ((i j k : ℕ) → R i j → R j k → R i k) → (n : ℕ) → ((i : ℕ) → i + 1 < n → R i (i + 1))
    → (i j : ℕ) → i < j → j < n → R i j
chain R trans n h i zero l m = absurd (omega arith)
chain R trans n h i (suc j) l m =
    let s : R j (suc j) = subst (λ (k : ℕ). R j k) (add-one j) (h j (omega arith)) in
    let k : i ≤ j = omega arith in
    let later : i < j → R i j = λ p. chain R trans n h i j p (omega arith) in
    ⊎_elim
    (λ (p : i ≡ j). subst (λ (k : ℕ). R k (suc j)) (sym p) s)
    (λ (p : i < j). trans i j (suc j) (later p) s)
    (eq-or-lt_of_le k)

-- where each value is below the next, each is below all later ones
pub rises : (n : ℕ) (f : ℕ → ℕ) → ((i : ℕ) → i + 1 < n → f i < f (i + 1)) → (i j : ℕ) → i < j → j < n → f i < f j
rises n f = chain (λ (i j : ℕ). f i < f j) (λ i j k p q. omega arith) n

-- where earlier values are below later ones, no two are equal
pub rises_apart : (n : ℕ) (f : ℕ → ℕ) → ((i j : ℕ) → i < j → j < n → f i < f j) → (i j : ℕ) → i < n → j < n → f i ≡ f j → i ≡ j
rises_apart n f h i j l m e =
    ⊎_elim
    (λ (p : i ≤ j). ⊎_elim (λ (q : i ≡ j). q) (λ (q : i < j). let x = h i j q m in absurd (omega arith)) (eq-or-lt_of_le p))
    (λ (p : j < i). let x = h j i p l in absurd (omega arith))
    (le_or_lt i j)

-- ---- what stands in a list

pub member_get_d : (x : ℕ) (l : List ℕ) (i : ℕ) → i < length l → get_or l i 0 ≡ x → member x l ≡ true
unfolding member
member_get_d x [] i h e = absurd (omega arith)
member_get_d x (y ∷ l) zero h e = rw (eq-eqb x y (sym e))
member_get_d x (y ∷ l) (suc i) h e = by_test (eqb x y) (member_get_d x l i (omega arith) e)
  where
    by_test : (b : Bool) → member x l ≡ true → b || member x l ≡ true
    by_test true m = refl
    by_test false m = m

-- x is not in a list that has it nowhere
pub member_nowhere : (x : ℕ) (l : List ℕ) → ((i : ℕ) → i < length l → get_or l i 0 ≡ x → ⊥) → member x l ≡ false
member_nowhere x l n = by_test (member x l) refl
  where
    by_test : (b : Bool) → member x l ≡ b → member x l ≡ false
    by_test true q = let w = member_place x l q in absurd (n w.0 w.1 w.2)
    by_test false q = q

-- ---- ascending lists

above_at : (b : ℕ) (l : List ℕ) → AllAbove b l → (i : ℕ) → i < length l → b < get_or l i 0
unfolding AllAbove
above_at b [] a i h = absurd (omega arith)
above_at b (x ∷ l) a zero h = a.0
above_at b (x ∷ l) a (suc i) h = above_at b l a.1 i (omega arith)

above_of : (b : ℕ) (l : List ℕ) → ((i : ℕ) → i < length l → b < get_or l i 0) → AllAbove b l
unfolding AllAbove
above_of b [] h = tt
above_of b (x ∷ l) h = (h 0 (omega arith), above_of b l (λ i m. h (suc i) (omega arith)))

pub ascending_at : (l : List ℕ) → Ascending l → (i j : ℕ) → i < j → j < length l → get_or l i 0 < get_or l j 0
unfolding Ascending
ascending_at [] a i j h m = absurd (omega arith)
ascending_at (x ∷ l) a zero zero h m = absurd (omega arith)
ascending_at (x ∷ l) a zero (suc j) h m = above_at x l a.0 j (omega arith)
ascending_at (x ∷ l) a (suc i) zero h m = absurd (omega arith)
ascending_at (x ∷ l) a (suc i) (suc j) h m = ascending_at l a.1 i j (omega arith) (omega arith)

pub ascending_of : (l : List ℕ) → ((i j : ℕ) → i < j → j < length l → get_or l i 0 < get_or l j 0) → Ascending l
unfolding Ascending
ascending_of [] h = tt
ascending_of (x ∷ l) h =
    (above_of x l (λ j m. h 0 (suc j) (omega arith) (omega arith)), ascending_of l (λ i j p m. h (suc i) (suc j) (omega arith) (omega arith)))

-- each below the next is enough
pub ascending_next : (l : List ℕ) → ((i : ℕ) → i + 1 < length l → get_or l i 0 < get_or l (i + 1) 0) → Ascending l
ascending_next l h = ascending_of l (rises (length l) (λ (i : ℕ). get_or l i 0) h)
