-- `part_rows` meets its contract.
use mathlib.Core.Path.{refl}
use Rattle.words.specs.Words.{part_rows}
use Rattle.words.proofs.part_rows.Goals as goal

pub returns : goal.returns
unfolding part_rows
returns c = refl
