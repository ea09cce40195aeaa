-- `row_length` meets its contract.
use Rattle.std.proofs.Common.{rules}
use Rattle.words.specs.Words.{row_length}
use Rattle.words.proofs.row_length.Goals as goal

pub returns : goal.returns
unfolding row_length
returns c = search rules
