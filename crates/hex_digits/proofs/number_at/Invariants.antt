-- `number_at` meets its contract: after k turns n is the number that the first k bytes say.
-- Assumes nothing.
use mathlib.Core.Path.{◌≡◌}
use lib.ListN.{take, drop}
use Rattle.hex_digits.specs.Lines.{bytes_of}
use Rattle.hex_digits.specs.Numbers.{number_of}
use Rattle.hex_digits.proofs.number_at.Given as goal

abbrev pub invariant-loop-k : goal.invariant-loop-k
invariant-loop-k l = l.n ≡ number_of (take l.k (drop l.at (bytes_of l.line)))
