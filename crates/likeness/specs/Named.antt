-- The measures of the code's own enum, and the numbers that name them.
-- Assumes nothing.
use Rattle.std.specs.Prelude.{◌≡◌, ℕ, Result, Ok, Err}
use Rattle.likeness.specs.declared.Measure.{Measure}
use Rattle.likeness.specs.declared.Measure.TheVariants.{Dice, Jaccard, Cosine, Overlap}
use Rattle.likeness.specs.Measures.{Measure as Rule, dice, jaccard, cosine, overlap, other, measure_of}

-- the measure that the code's stands for
abbrev pub meant : Measure → Rule
meant Dice = dice
meant Jaccard = jaccard
meant Cosine = cosine
meant Overlap = overlap

-- what comes of a number is the measure that it names, and an error where it names none
abbrev pub NameOf : ℕ → Result Measure ℕ → Type 0
NameOf n (Ok m) = measure_of n ≡ meant m
NameOf n (Err e) = measure_of n ≡ other
