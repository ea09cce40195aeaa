-- `head_size` meets its contract: after k turns n is 1 and the first k widths.
-- Assumes nothing.
use mathlib.Core.Path.{◌≡◌}
use Prim.Native.Nat.{◌+◌, ◌*◌, ◌≤◌}
use lib.ListN.{take}
use Rattle.laws.specs.Lists.{sum_of}
use Rattle.fields.proofs.head_size.Given as goal

abbrev pub invariant-loop-k : goal.invariant-loop-k
invariant-loop-k l = (l.n ≡ 1 + sum_of (take l.k l.layout.widths)) × (l.n ≤ 1 + 255 * l.k)
