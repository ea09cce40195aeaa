-- `one_if` meets its contract.
use mathlib.Core.Path.{◌≡◌, refl}
use mathlib.Core.Bool.{Bool, true, false, cond}
use Rattle.binary_search.proofs.one_if.Goals as goal

by_test : (b : Bool) → mir.Val.bool_byte b ≡ cond b 1 0
by_test true = refl
by_test false = refl

pub returns : goal.returns
returns c = by_test c.args.b
