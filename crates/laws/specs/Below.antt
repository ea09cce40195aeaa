-- Tests and sums over the numbers below a bound, and those that pass. The laws are in proofs/Below.antt and proofs/Passing.antt.
-- Assumes nothing.
use Rattle.std.specs.Prelude.{Bool, true, false, cond, ◌&&◌, ◌||◌, List, [], ◌∷◌, ◌++◌, ℕ, zero, suc, ◌+◌}

-- every number below n passes; so where n is 0
unfoldable pub all_below : ℕ → (ℕ → Bool) → Bool
all_below zero t = true
all_below (suc n) t = all_below n t && t n

-- some number below n passes; none where n is 0
unfoldable pub any_below : ℕ → (ℕ → Bool) → Bool
any_below zero t = false
any_below (suc n) t = any_below n t || t n

-- f 0 + f 1 + .. + f (n − 1); 0 where n is 0
unfoldable pub sum_below : ℕ → (ℕ → ℕ) → ℕ
sum_below zero f = 0
sum_below (suc n) f = sum_below n f + f n

-- how many numbers below n pass
abbrev pub count_below : ℕ → (ℕ → Bool) → ℕ
count_below n t = sum_below n (λ (i : ℕ). cond (t i) 1 0)

-- the numbers below n that pass, upward; none where n is 0
unfoldable pub passing_below : ℕ → (ℕ → Bool) → List ℕ
passing_below zero t = []
passing_below (suc n) t = passing_below n t ++ cond (t n) (n ∷ []) []
