-- `keep` meets its contract: after some of those met, their counts are in the answers, and 0 in their place.
use Rattle.candidates.proofs.Places.{Keeps, Clears}
use Rattle.candidates.proofs.keep.Given as goal

abbrev pub invariant-loop-i : goal.invariant-loop-i
invariant-loop-i l =
    record {
      kept : Keeps l.initial.counts l.met l.initial.answers l.i-index l.answers;
      cleared : Clears l.initial.counts l.met l.i-index l.counts;
    }
