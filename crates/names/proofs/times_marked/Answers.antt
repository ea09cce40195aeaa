-- `times_marked` meets its contract: a gram without its mark is not among the features, by the requires.
use mathlib.Core.Path.{sym, ap, ◌∙◌}
use Prim.Native.Nat.{ℕ}
use native.Mathlib.Omega.{arith}
use lib.ListN.{get_or}
use Rattle.names.proofs.times_marked.Goals as goal

pub returns-then-marked-mark_place-eq0 : goal.returns-then-marked-mark_place-eq0
returns-then-marked-mark_place-eq0 c =
    (sym (c.requires.3 (ap (λ (n : ℕ). get_or c.args.marked.now n 0) (sym c.mark_place.ensures.0) ∙ c.if-marked-mark_place-eq0.true)), omega arith)
