-- `row_key` meets its contract.
use Rattle.std.proofs.Common.{rules}
use Rattle.words.specs.Words.{row_key}
use Rattle.words.proofs.row_key.Goals as goal

pub returns : goal.returns
unfolding row_key
returns c = search rules
