-- What the layers say of lists of numbers: member, all different, strictly ascending, how many pass a test,
-- the values of a function in order, the sum.
-- Cited by most crates. The laws are in proofs/Lists.antt.
-- Assumes nothing.
use Rattle.std.specs.Prelude.{◌≡◌, Bool, false, cond, ◌||◌, List, [], ◌∷◌, ◌++◌, ℕ, zero, suc, ◌+◌, ◌<◌, eqb}

-- whether x stands in the list; never in the empty one
unfoldable pub member : ℕ → List ℕ → Bool
member x [] = false
member x (y ∷ l) = eqb x y || member x l

-- no number stands in the list twice; so of the empty list
unfoldable pub Distinct : List ℕ → Type 0
Distinct [] = Unit {0}
Distinct (x ∷ l) = (member x l ≡ false) × Distinct l

-- every number of the list is above b; so of the empty list
unfoldable pub AllAbove : ℕ → List ℕ → Type 0
AllAbove b [] = Unit {0}
AllAbove b (x ∷ l) = (b < x) × AllAbove b l

-- each number is below all that follow it; so of the empty list
unfoldable pub Ascending : List ℕ → Type 0
Ascending [] = Unit {0}
Ascending (x ∷ l) = AllAbove x l × Ascending l

-- how many elements pass the test; 0 of the empty list
unfoldable pub count_of : {A : Type 0} → (A → Bool) → List A → ℕ
count_of t [] = 0
count_of t (x ∷ l) = cond (t x) 1 0 + count_of t l

-- f 0, f 1, .., f (k − 1); the empty list where k is 0
unfoldable pub tabulate : {A : Type 0} → (ℕ → A) → ℕ → List A
tabulate f zero = []
tabulate f (suc k) = tabulate f k ++ (f k ∷ [])

-- the sum of the numbers; 0 of the empty list
unfoldable pub sum_of : List ℕ → ℕ
sum_of [] = 0
sum_of (x ∷ l) = x + sum_of l
