-- `sift` meets its contract: after k candidates, their counts are tested, and those that stay stand in front.
use Rattle.candidates.proofs.Testing.{Testing}
use Rattle.candidates.proofs.sift.Given as goal

abbrev pub invariant-loop-k : goal.invariant-loop-k
invariant-loop-k l =
    Testing l.ids l.list l.needed l.initial.counts l.initial.met l.already l.counts l.met l.m l.k
