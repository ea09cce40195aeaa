-- `put_pairs` meets its contract: after i entries the columns start with the pairs of these, and the steps have their count and the last sum and count.
-- Assumes nothing.
use mathlib.Core.Path.{◌∙◌}
use native.Mathlib.Omega.{arith}
use Rattle.weeks.proofs.Steps.{tallied_start, tallied_next, tallied_within, some_counted, place_within, put_all, put_none, put_every, lengths_kept}
use Rattle.weeks.proofs.put_pairs.Goals as goal

pub loop-i-init : goal.loop-i-init
loop-i-init c = (tallied_start _, put_none _)

pub with_entry-t-requires : goal.with_entry-t-requires
with_entry-t-requires c =
    tallied_within _ _ _ c.loop-i.invariant.0 (omega arith) c.requires.1

pub overflow_sub-t : goal.overflow_sub-t
overflow_sub-t c =
    let at = c.loop-i in
    let pre = c.requires in
    some_counted _ pre.0 _ (omega arith) _ pre.2 _ at.invariant.1 _ (tallied_next _ _ _ _ at.invariant.0 c.with_entry-t.ensures)

pub put_pair-requires : goal.put_pair-requires
put_pair-requires c =
    let at = c.loop-i in
    let pre = c.requires in
    place_within _ pre.0 _ (omega arith) _ pre.2 _ at.invariant.1 _
    (tallied_next _ _ _ _ at.invariant.0 c.with_entry-t.ensures)

pub loop-i-preserved : goal.loop-i-preserved
loop-i-preserved c =
    let at = c.loop-i in
    let pre = c.requires in
    let next = tallied_next _ _ _ _ at.invariant.0 c.with_entry-t.ensures in
    (next, c.put_pair.ensures ∙ put_all _ pre.0 _ (omega arith) _ pre.2 _ at.invariant.1 _ next)

pub shape_of-ids : goal.shape_of-ids
shape_of-ids c = (lengths_kept c.args.entries.now c.loop-i.i _ _ c.loop-i.invariant.1 c.requires.2 (omega arith)).0

pub shape_of-weeks : goal.shape_of-weeks
shape_of-weeks c = (lengths_kept c.args.entries.now c.loop-i.i _ _ c.loop-i.invariant.1 c.requires.2 (omega arith)).1

pub shape_of-sums : goal.shape_of-sums
shape_of-sums c = (lengths_kept c.args.entries.now c.loop-i.i _ _ c.loop-i.invariant.1 c.requires.2 (omega arith)).2

pub shape_of-counts : goal.shape_of-counts
shape_of-counts c = (lengths_kept c.args.entries.now c.loop-i.i _ _ c.loop-i.invariant.1 c.requires.2 (omega arith)).3

pub returns : goal.returns
returns c = put_every c.args.entries.now c.loop-i.i _ _ c.loop-i.invariant.1 (omega arith)
