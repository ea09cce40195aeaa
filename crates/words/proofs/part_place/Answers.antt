-- `part_place` meets its contract.
use Rattle.std.proofs.Common.{rules}
use Rattle.words.specs.Words.{part_place}
use Rattle.words.proofs.part_place.Goals as goal

pub returns : goal.returns
unfolding part_place
returns c = search rules
