-- `tally` meets its contract: after some postings, the counts are tallied over them, and those met are those with a count.
use Rattle.std.proofs.Common.{◌≡◌, take}
use Rattle.candidates.specs.Tables.{MetBy, tallied}
use Rattle.candidates.proofs.tally.Given as goal

abbrev pub invariant-loop-id : goal.invariant-loop-id
invariant-loop-id l =
    record { counted : l.counts ≡ tallied l.ids (take l.id-index l.list) l.initial.counts; those : MetBy l.counts l.met l.m }
