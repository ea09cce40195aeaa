-- The first number that passes a test, sought upward. The laws are in proofs/First.antt.
-- Assumes nothing.
use Rattle.std.specs.Prelude.{Bool, cond, ℕ, zero, suc, ◌+◌}

-- the first of c, c + 1, .. that passes, of k of them; c + k where none does
unfoldable pub first_from : (ℕ → Bool) → ℕ → ℕ → ℕ
first_from t zero c = c
first_from t (suc k) c = let r = first_from t k (c + 1) in cond (t c) c r
