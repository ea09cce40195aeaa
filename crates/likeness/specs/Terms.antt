-- The common divisor by Euclid's falling remainders, and a threshold in lowest terms.
-- Assumes nothing.
use Rattle.std.specs.Prelude.{ℕ, zero, suc, ◌/◌, ◌%◌}
use Rattle.likeness.specs.declared.Threshold.{Threshold}

-- at most k of Euclid's steps: the second number falls to the remainder until it is 0
unfoldable pub divisor_f : ℕ → ℕ → ℕ → ℕ
divisor_f zero p q = p
divisor_f (suc k) p zero = p
divisor_f (suc k) p (suc q) = divisor_f k (suc q) (p % suc q)

-- the greatest common divisor, for which q steps are enough; that of 0 and 0 is 0
unfoldable pub divisor_of : ℕ → ℕ → ℕ
divisor_of p q = divisor_f q p q

-- p / q in lowest terms; 0 / 0 stays 0 / 0
unfoldable pub lowest_terms : ℕ → ℕ → Threshold
lowest_terms p q = record { p = p / divisor_of p q; q = q / divisor_of p q }
