-- `put_bytes` meets its contract: after k turns the digits of the first k bytes stand from index `at` on.
-- Assumes nothing.
use mathlib.Core.Path.{◌≡◌}
use lib.ListN.{take}
use lib.Seq.{sets}
use Rattle.hex_digits.specs.Lines.{hex_of}
use Rattle.hex_digits.proofs.put_bytes.Given as goal

abbrev pub invariant-loop-k : goal.invariant-loop-k
invariant-loop-k l = l.out ≡ sets l.initial.out l.at (hex_of (take l.k l.bytes))
