-- `row_place` meets its contract.
use Rattle.std.proofs.Common.{rules}
use Rattle.words.specs.Words.{row_place}
use Rattle.words.proofs.row_place.Goals as goal

pub returns : goal.returns
unfolding row_place
returns c = search rules
