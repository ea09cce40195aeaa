-- `row_size` meets its contract.
use mathlib.Core.Path.{ap, ◌∙◌}
use Prim.Native.Nat.{ℕ}
use native.Mathlib.Nat.{add-zero}
use lib.ListN.{get_or}
use Rattle.words.specs.Words.{row_size}
use Rattle.words.proofs.row_size.Goals as goal

pub returns : goal.returns
unfolding row_size
returns c = c.row_word.ensures ∙ ap (λ (n : ℕ). get_or c.args.words.now n 0) (add-zero _)
