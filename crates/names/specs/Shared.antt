-- How many features two names share. Assumes nothing.
use Rattle.std.specs.Prelude.{List, ℕ}
use Rattle.laws.specs.Lists.{member, count_of}

-- how many of a stand in b; each counted once where a has no repeats
unfoldable pub shared_of : List ℕ → List ℕ → ℕ
shared_of a b = count_of (λ (x : ℕ). member x b) a
