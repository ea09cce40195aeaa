-- `take_out` meets its contract: the words at the first i places are taken out.
-- Assumes nothing.
use mathlib.Core.Path.{◌≡◌}
use lib.ListN.{get_or}
use Rattle.splicing.proofs.Lemmas.{taking}
use Rattle.splicing.proofs.take_out.Given as goal

abbrev pub invariant-loop-i : goal.invariant-loop-i
invariant-loop-i l = l.words ≡ taking l.at l.initial.words l.i (get_or l.at l.i l.end)
