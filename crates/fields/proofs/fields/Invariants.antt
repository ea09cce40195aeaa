-- `fields` meets its contract: after k turns the first k fields stand at the start of the array, and `at` is after their bytes.
-- Assumes nothing.
use mathlib.Core.Path.{◌≡◌}
use Prim.Native.Nat.{◌+◌}
use lib.ListN.{take, drop, replicate}
use lib.Seq.{sets}
use Rattle.laws.specs.Lists.{sum_of}
use Rattle.hex_digits.specs.Lines.{bytes_of}
use Rattle.fields.specs.Layouts.{fields_of}
use Rattle.fields.proofs.Layouts.{most}
use Rattle.fields.proofs.fields.Given as goal

abbrev pub invariant-loop-k : goal.invariant-loop-k
invariant-loop-k l =
    (l.read ≡ sets (replicate most 0) 0 (fields_of (take l.k l.layout.widths) (drop 1 (bytes_of l.line)))) × (l.at ≡ 1 + sum_of (take l.k l.layout.widths))
