-- `list_good` meets its contract: what was looked at of the first ids is good, and the tally has them.
use Rattle.std.proofs.Common.{◌≡◌, ℕ, List, ◌+◌, ◌-◌, ◌<◌}
use Rattle.index.proofs.Tally.{ListTo, id_at}
use Rattle.index.proofs.list_good.Given as goal

-- the least that the next id may be: 0, or one above the id before it
abbrev pub Follows : List ℕ → ℕ → ℕ → ℕ → Type 0
Follows w r k next = (k ≡ 0 → next ≡ 0) × (0 < k → next ≡ id_at w r (k - 1) + 1)

abbrev pub invariant-loop-id : goal.invariant-loop-id
invariant-loop-id l = ListTo l.words l.r l.id-index l.tally × Follows l.words l.r l.id-index l.next
