-- Laws of fractions by products, and of the measures as fractions: each grows with the shared count and is the same both ways round.
-- Cited by the laws of this crate.
-- Assumes nothing.
use mathlib.Core.Path.{◌≡◌, refl}
use mathlib.Core.Bool.{true, false≢true}
use Prim.Native.Nat.{ℕ, ◌*◌, ◌≤◌, ◌<◌, max}
use native.Mathlib.Nat.{mul-le-mul, mul-le-mul_right, mul-pos, mul_comm, min_comm, le-max_left, le-max_right, le_of_mul-le-mul_right}
use native.Mathlib.Omega.{arith}
use Rattle.likeness.specs.Measures.{Measure, dice, jaccard, cosine, overlap, other, known}
use Rattle.likeness.specs.Fractions.{FractionLe, numerator, denominator, raised}

-- a / b ≤ c / d and c / d ≤ e / f: so a / b ≤ e / f
pub fraction_trans : (a b c d e f : ℕ) → 0 < d → FractionLe a b c d → FractionLe c d e f → FractionLe a b e f
fraction_trans a b c d e f l h k =
    let s : a * f * d ≤ e * b * d = omega (arith, mul-le-mul_right f h, mul-le-mul_right b k) in
    le_of_mul-le-mul_right s l

-- ---- the threshold's numbers

pub raised_pos : (μ : Measure) (n : ℕ) → 0 < n → 0 < raised μ n
unfolding raised
raised_pos dice n l = l
raised_pos jaccard n l = l
raised_pos cosine n l = mul-pos l l
raised_pos overlap n l = l
raised_pos other n l = l

pub raised_mono : (μ : Measure) (m n : ℕ) → m ≤ n → raised μ m ≤ raised μ n
unfolding raised
raised_mono dice m n l = l
raised_mono jaccard m n l = l
raised_mono cosine m n l = mul-le-mul l l
raised_mono overlap m n l = l
raised_mono other m n l = l

pub raised_fraction : (μ : Measure) (a b c d : ℕ) → FractionLe a b c d → FractionLe (raised μ a) (raised μ b) (raised μ c) (raised μ d)
unfolding raised
raised_fraction dice a b c d l = l
raised_fraction jaccard a b c d l = l
raised_fraction cosine a b c d l = omega (arith, mul-le-mul l l)
raised_fraction overlap a b c d l = l
raised_fraction other a b c d l = l

-- ---- numerator and denominator

pub numerator_mono : (μ : Measure) (c d : ℕ) → c ≤ d → numerator μ c ≤ numerator μ d
unfolding numerator
numerator_mono dice c d l = omega arith
numerator_mono jaccard c d l = l
numerator_mono cosine c d l = mul-le-mul l l
numerator_mono overlap c d l = l
numerator_mono other c d l = omega arith

pub denominator_falls : (μ : Measure) (x y c d : ℕ) → c ≤ d → denominator μ x y d ≤ denominator μ x y c
unfolding denominator
denominator_falls dice x y c d l = omega arith
denominator_falls jaccard x y c d l = omega arith
denominator_falls cosine x y c d l = omega arith
denominator_falls overlap x y c d l = omega arith
denominator_falls other x y c d l = omega arith

pub denominator_symmetric : (μ : Measure) (x y c : ℕ) → denominator μ x y c ≡ denominator μ y x c
unfolding denominator
denominator_symmetric dice x y c = omega arith
denominator_symmetric jaccard x y c = omega arith
denominator_symmetric cosine x y c = mul_comm x y
denominator_symmetric overlap x y c = min_comm x y
denominator_symmetric other x y c = refl

pub numerator_none : (μ : Measure) → numerator μ 0 ≡ 0
unfolding numerator
numerator_none dice = refl
numerator_none jaccard = refl
numerator_none cosine = refl
numerator_none overlap = refl
numerator_none other = refl

pub denominator_pos : (μ : Measure) (x y : ℕ) → 0 < x → 0 < y → 0 < denominator μ x y 0
unfolding denominator
denominator_pos dice x y l k = omega arith
denominator_pos jaccard x y l k = omega arith
denominator_pos cosine x y l k = mul-pos l k
denominator_pos overlap x y l k = omega arith
denominator_pos other x y l k = omega arith

-- where all features of the larger set are shared the similarity is 1 or more
pub fraction_whole : (μ : Measure) (x y : ℕ) → known μ ≡ true → denominator μ x y (max x y) ≤ numerator μ (max x y)
unfolding numerator denominator
fraction_whole dice x y e = omega arith
fraction_whole jaccard x y e = omega arith
fraction_whole cosine x y e = mul-le-mul (le-max_left x y) (le-max_right x y)
fraction_whole overlap x y e = omega arith
fraction_whole other x y e = absurd (false≢true e)
