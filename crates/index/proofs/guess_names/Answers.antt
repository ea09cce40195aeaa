-- `guess_names` meets its contract: every name lies within the words, and its place fits a guess.
use Rattle.std.proofs.Common.{arith}
use Rattle.index.proofs.Facts.{head_facts}
use Rattle.index.proofs.Names.{names_within}
use Rattle.index.proofs.guess_names.Goals as goal

pub name_count-i-end-requires : goal.name_count-i-end-requires
name_count-i-end-requires c = (head_facts _ c.requires.0.head).three

pub name_id-id-requires : goal.name_id-id-requires
name_id-id-requires c = omega (arith, c.name_count-i-end.ensures.0, names_within c.args.words.now c.requires.0)

pub overflow_cast-guesses : goal.overflow_cast-guesses
overflow_cast-guesses c = omega (arith, c.name_count-i-end.ensures.0, (head_facts _ c.requires.0.head).names)

pub overflow_cast-guesses-in-loop-i : goal.overflow_cast-guesses-in-loop-i
overflow_cast-guesses-in-loop-i c = omega (arith, c.name_count-i-end.ensures.0, (head_facts _ c.requires.0.head).names)
