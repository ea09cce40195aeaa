-- `digit` meets its contract: its comparison gives the digit at a place, which one test shows at every place.
-- Assumes nothing.
use borrow.Author.Tests.{lt-ltb, le-ltb}
use Rattle.hex_digits.proofs.Digits.{digit_worked_lem}
use Rattle.hex_digits.proofs.digit.Goals as goal

pub returns-then-n-lt10 : goal.returns-then-n-lt10
returns-then-n-lt10 c = simp (lt-ltb _ _ c.if-n-lt10.true) at (digit_worked_lem c.args.n c.requires)

pub returns-else-n-lt10 : goal.returns-else-n-lt10
returns-else-n-lt10 c = simp (le-ltb _ _ c.if-n-lt10.false) at (digit_worked_lem c.args.n c.requires)
