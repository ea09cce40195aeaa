-- `register_end` meets its contract: from each line on, the bytes before the first query are what is left of those of the whole.
use mathlib.Core.Path.{◌≡◌}
use Prim.Native.Nat.{◌+◌}
use lib.ListN.{length}
use Rattle.lines.specs.Lines.{lines_of}
use Rattle.answers.specs.Output.{bytes_before, register_end}
use Rattle.answers.proofs.register_end.Given as goal

abbrev pub invariant-loop-line : goal.invariant-loop-line
invariant-loop-line l =
    let rest = l.line-iterator.rest.now in
    (l.at + length rest ≡ length l.input) × (l.at + bytes_before (lines_of rest) ≡ register_end l.input)
