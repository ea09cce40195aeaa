-- `row_feature` meets its contract.
use Rattle.std.proofs.Common.{rules}
use Rattle.words.specs.Words.{row_feature}
use Rattle.words.proofs.row_feature.Goals as goal

pub returns : goal.returns
unfolding row_feature
returns c = search rules
