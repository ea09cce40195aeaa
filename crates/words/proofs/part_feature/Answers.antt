-- `part_feature` meets its contract.
use Rattle.std.proofs.Common.{rules}
use Rattle.words.specs.Words.{part_feature}
use Rattle.words.proofs.part_feature.Goals as goal

pub returns : goal.returns
unfolding part_feature
returns c = search rules
