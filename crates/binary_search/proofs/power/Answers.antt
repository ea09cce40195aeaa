-- `power` meets its contract: nothing is shifted out.
use Rattle.binary_search.proofs.Digits.{power_shift}
use Rattle.binary_search.proofs.power.Goals as goal

pub returns : goal.returns
returns c = power_shift c.args.k c.requires
