-- `has_zero` meets its contract: the library looks for the byte.
use Rattle.std.proofs.Common.{◌∙◌}
use Rattle.names.proofs.Chains.{any_member}
use Rattle.names.proofs.has_zero.Goals as goal

pub returns : goal.returns
returns c = c.contains.ensures.value ∙ any_member 0 c.args.name.now
