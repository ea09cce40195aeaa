-- `Measure::try_from` meets its contract: each arm is the definition's line, and a number that is none of the four names no measure.
-- Assumes nothing.
use Rattle.likeness.specs.Measures.{measure_of}
use Rattle.likeness.proofs.Measures.{measure_other}
use Rattle.likeness.proofs.MeasureTryFromU8.try_from.Goals as goal

pub returns-in-1 : goal.returns-in-1
unfolding measure_of
returns-in-1 c = rw c.in-1.is

pub returns-in-2 : goal.returns-in-2
unfolding measure_of
returns-in-2 c = rw c.in-2.is

pub returns-in-3 : goal.returns-in-3
unfolding measure_of
returns-in-3 c = rw c.in-3.is

pub returns-in-4 : goal.returns-in-4
unfolding measure_of
returns-in-4 c = rw c.in-4.is

pub returns-in_default : goal.returns-in_default
returns-in_default c =
    let n = c.in_default.in_default-own.rest in
    measure_other c.args.number n.0.0.0.1 n.0.0.1 n.0.1 n.1
