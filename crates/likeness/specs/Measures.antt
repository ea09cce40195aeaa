-- When two names are similar: the rule's inequality for each measure, in whole numbers.
-- The sizes searched are in Sizes.antt, the least count in Least.antt, the measures as fractions in Fractions.antt.
-- Where this departs from the paper (Okazaki and Tsujii, CPMerge): it compares a real similarity with a real threshold; here the threshold is
-- p / q, both sides are multiplied out, and the cosine is compared by squares, so a pair that lies on the threshold is never lost to rounding.
-- Assumes nothing.
use Rattle.std.specs.Prelude.{Bool, true, false, cond, ◌&&◌, ℕ, ◌+◌, ◌-◌, ◌*◌, min, leb, eqb}

-- the four measures, and `other` for a number that names none
pub data Measure : Type 0 where
  dice jaccard cosine overlap other : Measure

-- 1 Dice, 2 Jaccard, 3 cosine, 4 overlap; any other number is no measure
unfoldable pub measure_of : ℕ → Measure
measure_of m = cond (eqb m 1) dice (cond (eqb m 2) jaccard (cond (eqb m 3) cosine (cond (eqb m 4) overlap other)))

-- one of the four
abbrev pub known : Measure → Bool
known dice = true
known jaccard = true
known cosine = true
known overlap = true
known other = false

-- a number from 1 to 4
unfoldable pub good_measure : ℕ → Bool
good_measure m = known (measure_of m)

-- 1 ≤ p ≤ q ≤ 1000
unfoldable pub good_threshold : ℕ → ℕ → Bool
good_threshold p q = leb 1 p && (leb p q && leb q 1000)

-- sizes x and y with c features shared reach p / q; never where there is no measure. x + y - c is 0 where c is more than both sizes together
unfoldable pub reaches : Measure → ℕ → ℕ → ℕ → ℕ → ℕ → Bool
reaches dice p q x y c = leb (p * (x + y)) (2 * c * q)
reaches jaccard p q x y c = leb (p * (x + y - c)) (c * q)
reaches cosine p q x y c = leb (p * p * x * y) (c * c * q * q)
reaches overlap p q x y c = leb (p * min x y) (c * q)
reaches other p q x y c = false

-- similar by measure m at p / q; never where the measure or the threshold is bad
unfoldable pub is_similar : ℕ → ℕ → ℕ → ℕ → ℕ → ℕ → Bool
is_similar m p q x y c = good_threshold p q && reaches (measure_of m) p q x y c
