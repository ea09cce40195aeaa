-- `put_in` meets its contract: the values from place j on are put in, and `to` is the place of the last of them.
-- Assumes nothing.
use mathlib.Core.Path.{◌≡◌}
use Prim.Native.Nat.{◌≤◌}
use lib.ListN.{get_or}
use Rattle.splicing.proofs.Lemmas.{putting}
use Rattle.splicing.proofs.put_in.Given as goal

abbrev pub invariant-loop-j : goal.invariant-loop-j
invariant-loop-j l = (l.to ≤ l.end) × (l.to ≡ get_or l.at l.j l.end) × (l.words ≡ putting l.at l.values l.initial.words l.end l.j l.to)
