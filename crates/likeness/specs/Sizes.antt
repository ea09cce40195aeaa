-- Which sizes are searched: those at which two names can be similar at all. proofs/Sizes.antt shows that skipping the others loses nothing.
-- Where this departs from the paper: its appendix bounds the shared count by the larger size; the smaller is right, and these ranges follow from it.
-- Assumes nothing.
use Rattle.std.specs.Prelude.{Bool, true, false, ◌&&◌, ℕ, ◌-◌, ◌*◌, leb}
use Rattle.likeness.specs.Measures.{Measure, dice, jaccard, cosine, overlap, other, measure_of, good_threshold}

-- low·x ≤ high·y and low·y ≤ high·x: neither size is more than high / low times the other
unfoldable pub beside : ℕ → ℕ → ℕ → ℕ → Bool
beside low high x y = leb (low * x) (high * y) && leb (low * y) (high * x)

-- sizes x and y may reach p / q: for overlap all do, and none where there is no measure
unfoldable pub may_reach : Measure → ℕ → ℕ → ℕ → ℕ → Bool
may_reach dice p q x y = beside p (2 * q - p) x y
may_reach jaccard p q x y = beside p q x y
may_reach cosine p q x y = beside (p * p) (q * q) x y
may_reach overlap p q x y = true
may_reach other p q x y = false

-- size y is searched for a query of size x; no size is where the measure or the threshold is bad
unfoldable pub is_searched : ℕ → ℕ → ℕ → ℕ → ℕ → Bool
is_searched m p q x y = good_threshold p q && may_reach (measure_of m) p q x y
