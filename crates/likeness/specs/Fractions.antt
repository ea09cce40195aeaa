-- The paper's measures as exact fractions. No code needs them: proofs/Measures.antt shows that the rule's inequality says that they reach p / q.
-- The cosine is c / √(x·y), so its fraction is that of the squares, and is held against the square of p / q.
-- Assumes nothing.
use Rattle.std.specs.Prelude.{ℕ, ◌+◌, ◌-◌, ◌*◌, ◌≤◌, min}
use Rattle.likeness.specs.Measures.{Measure, dice, jaccard, cosine, overlap, other}

-- a / b ≤ c / d, by products; where b or d is 0, what the products say
abbrev pub FractionLe : ℕ → ℕ → ℕ → ℕ → Type 0
FractionLe a b c d = a * d ≤ c * b

-- the similarity's numerator, with c features shared; without a measure the similarity is 0 / 1
unfoldable pub numerator : Measure → ℕ → ℕ
numerator dice c = 2 * c
numerator jaccard c = c
numerator cosine c = c * c
numerator overlap c = c
numerator other c = 0

-- the similarity's denominator, at sizes x and y with c features shared; 0 only where a size is 0 or c is x + y or more
unfoldable pub denominator : Measure → ℕ → ℕ → ℕ → ℕ
denominator dice x y c = x + y
denominator jaccard x y c = x + y - c
denominator cosine x y c = x * y
denominator overlap x y c = min x y
denominator other x y c = 1

-- a number of the threshold as the measure compares it: its square for the cosine
unfoldable pub raised : Measure → ℕ → ℕ
raised dice n = n
raised jaccard n = n
raised cosine n = n * n
raised overlap n = n
raised other n = n
