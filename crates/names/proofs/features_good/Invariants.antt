-- `features_good` meets its contract: after i turns the set's places hold the first i features, and 0 after them, and each of their grams has its mark.
use mathlib.Core.Path.{◌≡◌}
use mathlib.Core.List.{◌++◌}
use Prim.Native.Nat.{◌≤◌, ◌-◌}
use lib.ListN.{length, replicate}
use Rattle.laws.specs.Lists.{tabulate}
use Rattle.names.specs.Features.{gram_at, numbered, gram_length, characters, most_features}
use Rattle.names.specs.Set.{marks, Ends}
use Rattle.names.proofs.Lemmas.{Marked}
use Rattle.names.proofs.features_good.Given as goal

abbrev pub invariant-loop-i : goal.invariant-loop-i
invariant-loop-i l =
    (l.size ≤ most_features) × (l.set.items ≡ tabulate (numbered (gram_at gram_length characters l.name)) l.i ++ replicate (most_features - l.i) 0) × (length l.marked ≡ marks) × Marked (gram_at gram_length characters l.name) l.i l.marked × Ends l.name l.i l.gram
