-- `copy_bytes` meets its contract: after k turns the first k bytes stand at the start of the buffer.
-- Assumes nothing.
use mathlib.Core.Path.{◌≡◌}
use lib.ListN.{take, drop}
use lib.Seq.{sets}
use Rattle.hex_digits.specs.Lines.{bytes_of}
use Rattle.hex_digits.proofs.copy_bytes.Given as goal

abbrev pub invariant-loop-k : goal.invariant-loop-k
invariant-loop-k l = l.byte-items ≡ sets l.initial.byte-items 0 (take l.k (drop l.at (bytes_of l.line)))
