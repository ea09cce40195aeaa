-- `reach` meets its contract: it ends at a row whose size is not below, or behind the last row.
use Prim.Native.Nat.{◌-◌, ◌≤◌}
use Rattle.lists.proofs.reach.Given as goal

-- twice as many as there can be rows, and a step
abbrev pub invariant-loop-n : goal.invariant-loop-n
invariant-loop-n l = l.n ≤ 8589934608

abbrev pub decreases-loop-n : goal.decreases-loop-n
decreases-loop-n l = l.rest - l.n
