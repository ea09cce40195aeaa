-- The value of a feature set, whole, and what the loop that fills it keeps. Assumes nothing.
use Rattle.std.specs.Prelude.{◌≡◌, List, ◌++◌, ℕ, ◌+◌, ◌-◌, ◌*◌, ◌%◌, ◌<◌, length, get_or, replicate}
use Rattle.names.specs.Features.{padded, gram_length, most_features}
use Rattle.names.specs.declared.FeatureSet.{FeatureSet}

-- the set that holds the features of l in order, with a 0 at every place after them
abbrev pub filled : List ℕ → FeatureSet
filled l = record { items = l ++ replicate (most_features - length l) 0; len = length l }

-- how many marks there are for grams already met; grams that leave the same rest share one
abbrev pub marks : ℕ
marks = 251

-- the last two characters of the gram are those at places i and i + 1 of the padded name, and the second is a byte
abbrev pub Ends : List ℕ → ℕ → ℕ → Type 0
Ends name i gram = (gram % 65536 ≡ get_or (padded gram_length name) i 0 * 256 + get_or (padded gram_length name) (i + 1) 0) × (get_or (padded gram_length name) (i + 1) 0 < 256)
