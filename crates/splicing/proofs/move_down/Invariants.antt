-- `move_down` meets its contract: the words before place k are moved.
-- Assumes nothing.
use mathlib.Core.Path.{◌≡◌}
use Prim.Native.Nat.{◌-◌}
use lib.ListN.{drop}
use lib.Seq.{paste}
use Rattle.splicing.proofs.move_down.Given as goal

abbrev pub invariant-loop-k : goal.invariant-loop-k
invariant-loop-k l = l.words ≡ paste l.initial.words (l.from - l.by) (drop l.from l.initial.words) (l.k - l.from)
