-- `put_pair` meets its contract: the two stores are the two digits in a row.
-- Assumes nothing.
use native.Mathlib.Numerals.{add-one}
use native.Mathlib.Omega.{arith}
use lib.ListN.{length-set}
use Rattle.hex_digits.specs.Lines.{hex_of}
use Rattle.hex_digits.proofs.put_pair.Goals as goal

pub bounds-out-at-2 : goal.bounds-out-at-2
bounds-out-at-2 c = simp length-set (omega arith)

pub returns : goal.returns
unfolding hex_of
returns c = rw (add-one, c.digit.ensures, c.digit-2.ensures)
