-- The least count: how many features two names of given sizes have to share.
-- Where this departs from the paper: it rounds a real number up; here each count from 1 is tried against the rule's own inequality.
-- Assumes nothing.
use Rattle.std.specs.Prelude.{cond, ◌&&◌, ℕ, max}
use Rattle.laws.specs.First.{first_from}
use Rattle.likeness.specs.Measures.{good_measure, good_threshold, is_similar}

-- the first shared count from 1 that is similar, which the larger size always is; 1 where both sizes are 0, and 0 where the measure or the
-- threshold is bad
unfoldable pub least_count : ℕ → ℕ → ℕ → ℕ → ℕ → ℕ
least_count m p q x y = cond (good_measure m && good_threshold p q) (first_from (is_similar m p q x y) (max x y) 1) 0
