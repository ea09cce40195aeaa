-- `times_in` meets its contract: after so many turns, the count among as many features.
use Rattle.std.proofs.Common.{◌≡◌, ℕ, ◌≤◌, ◌/◌, get_or}
use Rattle.names.specs.Features.{times_in}
use Rattle.names.proofs.times_in.Given as goal

abbrev pub invariant-loop-item : goal.invariant-loop-item
invariant-loop-item l =
    (l.n ≤ l.item-index) × (l.n ≡ times_in (λ (i : ℕ). get_or l.items i 0 / 256) l.gram l.item-index)
