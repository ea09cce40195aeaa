-- `part_length` meets its contract.
use Rattle.std.proofs.Common.{rules}
use Rattle.words.specs.Words.{part_length}
use Rattle.words.proofs.part_length.Goals as goal

pub returns : goal.returns
unfolding part_length
returns c = search rules
