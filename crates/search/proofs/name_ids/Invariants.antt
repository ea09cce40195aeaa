-- `name_ids` meets its contract: the first i places have the first i names' ids.
use Rattle.std.proofs.Common.{◌≡◌, ℕ, ◌<◌, get_or}
use Rattle.words.specs.Words.{name_id}
use Rattle.search.proofs.name_ids.Given as goal

abbrev pub invariant-loop-i : goal.invariant-loop-i
invariant-loop-i l = (k : ℕ) → k < l.i → get_or l.id-items k 0 ≡ name_id l.words k
