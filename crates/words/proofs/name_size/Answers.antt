-- `name_size` meets its contract: the low byte of the word.
use mathlib.Core.Path.{refl}
use Rattle.words.specs.Words.{name_word, name_size}
use Rattle.words.proofs.name_size.Goals as goal

pub returns : goal.returns
unfolding name_size name_word
returns c = refl
