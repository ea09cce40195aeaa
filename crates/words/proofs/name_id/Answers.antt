-- `name_id` meets its contract: the word above its low byte.
use mathlib.Core.Path.{refl}
use Rattle.words.specs.Words.{name_word, name_id}
use Rattle.words.proofs.name_id.Goals as goal

pub returns : goal.returns
unfolding name_id name_word
returns c = refl
