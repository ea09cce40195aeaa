-- The least count as the leaflet teaches it: c is tried upward from 1, and the first that passes the measure's line is the least count.
-- The cosine's line is c²q² ≥ p²xy. That the code's `least_count` is `least_count` is its contract, in `likeness`.
-- Assumes nothing.
use Rattle.std.specs.Prelude.{◌≡◌, true, ℕ, ◌+◌, ◌-◌, ◌*◌, ◌≤◌, ◌<◌, min}
use Rattle.likeness.specs.Measures.{Measure, dice, jaccard, cosine, overlap, other, measure_of, good_measure, good_threshold}
use Rattle.likeness.specs.Least.{least_count}

-- at least: a ≥ b
abbrev pub AtLeast : ℕ → ℕ → Type 0
AtLeast a b = b ≤ a

-- the line of each measure, at p / q, for sizes x and y with c features shared; a number that names no measure has none
unfoldable pub Line : Measure → ℕ → ℕ → ℕ → ℕ → ℕ → Type 0
Line dice p q x y c = AtLeast (2 * c * q) (p * (x + y))
Line jaccard p q x y c = AtLeast (c * q) (p * (x + y - c))
Line cosine p q x y c = AtLeast (c * c * q * q) (p * p * x * y)
Line overlap p q x y c = AtLeast (c * q) (p * min x y)
Line other p q x y c = ⊥

-- t is the first from 1 upward that passes: it passes, and no smaller one from 1 does
pub record First (Passes : ℕ → Type 0) (t : ℕ) : Type 0 where
  pub from_one : 1 ≤ t
  pub passes : Passes t
  pub no_smaller : (c : ℕ) → 1 ≤ c → c < t → Passes c → ⊥

-- the cosine's least count is the first c with c²q² ≥ p²xy, whether the size is searched or not: proved by `cosine_least`
abbrev pub CosineLeast : Type 0
CosineLeast = (p q x y : ℕ) → good_threshold p q ≡ true → First (λ (c : ℕ). AtLeast (c * c * q * q) (p * p * x * y)) (least_count 3 p q x y)

-- so by each measure with its own line: proved by `every_least`
abbrev pub EveryLeast : Type 0
EveryLeast = (m p q x y : ℕ) → good_measure m ≡ true → good_threshold p q ≡ true → First (Line (measure_of m) p q x y) (least_count m p q x y)

-- and nothing else is the first: proved by `only_least`
abbrev pub OnlyLeast : Type 0
OnlyLeast = (m p q x y t : ℕ) → good_measure m ≡ true → good_threshold p q ≡ true → First (Line (measure_of m) p q x y) t → t ≡ least_count m p q x y
