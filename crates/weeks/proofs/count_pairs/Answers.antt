-- `count_pairs` meets its contract: after i entries the steps have counted the pairs of these.
-- Assumes nothing.
use native.Mathlib.Omega.{arith}
use Rattle.weeks.proofs.Steps.{tallied_start, tallied_next, tallied_within, tallied_all}
use Rattle.weeks.proofs.count_pairs.Goals as goal

pub loop-i-init : goal.loop-i-init
loop-i-init c = tallied_start _

pub with_entry-t-requires : goal.with_entry-t-requires
with_entry-t-requires c = tallied_within _ _ _ c.loop-i.invariant (omega arith) c.requires.1

pub loop-i-preserved : goal.loop-i-preserved
loop-i-preserved c = tallied_next _ _ _ _ c.loop-i.invariant c.with_entry-t.ensures

pub returns : goal.returns
returns c = tallied_all _ _ _ c.loop-i.invariant c.requires.0 (omega arith) (omega arith)
