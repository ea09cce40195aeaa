-- `part_word` meets its contract: a row of a part lies within it.
use native.Mathlib.Omega.{arith}
use Rattle.words.proofs.Laws.{part_within}
use Rattle.words.proofs.part_word.Goals as goal

pub overflow_mul-result : goal.overflow_mul-result
overflow_mul-result c = let h = part_within c.args.rows.now c.args.r c.args.k c.requires.0 c.requires.1 in omega arith

pub overflow_add-result : goal.overflow_add-result
overflow_add-result c = let h = part_within c.args.rows.now c.args.r c.args.k c.requires.0 c.requires.1 in omega arith

pub offset_bounds-rows-k : goal.offset_bounds-rows-k
offset_bounds-rows-k c = let h = part_within c.args.rows.now c.args.r c.args.k c.requires.0 c.requires.1 in omega arith

pub bounds-rows-k : goal.bounds-rows-k
bounds-rows-k c = let h = part_within c.args.rows.now c.args.r c.args.k c.requires.0 c.requires.1 in omega arith
