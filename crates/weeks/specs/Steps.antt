-- The steps over sorted entries: how many pairs there are up to an entry, and the sum and count of the last of them.
-- Assumes nothing.
use Rattle.std.specs.Prelude.{Bool, true, cond, not, List, ℕ, zero, suc, ◌+◌, get_or, eqb}
use Rattle.weeks.specs.declared.Tally.{Tally}
use Rattle.weeks.specs.Pairs.{pair_in, amount, tally}

-- whether the entry at i has another pair than the one before it; so of the first
unfoldable pub first_at : List ℕ → ℕ → Bool
first_at s zero = true
first_at s (suc i) = not (eqb (pair_in (get_or s (suc i) 0)) (pair_in (get_or s i 0)))

-- a pair more, or the last one with one reading more
unfoldable pub with_entry : List ℕ → ℕ → Tally → Tally
with_entry s i t =
    let e = get_or s i 0 in
    cond (first_at s i)
    (record { pairs = t.pairs + 1; sum = amount (pair_in e) e; count = tally (pair_in e) e })
    (record { pairs = t.pairs; sum = t.sum + amount (pair_in e) e; count = t.count + tally (pair_in e) e })

-- of the first i entries
unfoldable pub tallied_to : List ℕ → ℕ → Tally
tallied_to s zero = record { pairs = 0; sum = 0; count = 0 }
tallied_to s (suc i) = with_entry s i (tallied_to s i)
