-- `power_if` meets its contract: nothing is shifted out.
use Rattle.binary_search.proofs.Digits.{power_if_shift}
use Rattle.binary_search.proofs.power_if.Goals as goal

pub returns : goal.returns
returns c = power_if_shift c.args.b c.args.k c.requires
