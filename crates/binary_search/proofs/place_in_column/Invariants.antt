-- `place_in_column` meets its contract: the place lies in a stretch of 2 to the power of k, less one; each turn asks for one digit of it.
use mathlib.Core.Bool.{Bool}
use mathlib.Core.List.{List}
use Prim.Native.Nat.{ℕ, ◌-◌, ◌^◌, ◌<◌}
use lib.Dec.{ltb}
use Rattle.laws.proofs.BinarySearch.{Stretch}
use Rattle.binary_search.specs.Column.{column_at}
use Rattle.binary_search.proofs.place_in_column.Given as goal

-- whether the i-th of the column is below x
abbrev pub below : List ℕ → ℕ → ℕ → ℕ → ℕ → Bool
below words first width x i = ltb (column_at words first width i) x

abbrev pub invariant-loop-k : goal.invariant-loop-k
invariant-loop-k l = (l.k < 64) × Stretch (below l.words l.first l.width l.x) l.n l.base (2 ^ l.k - 1)
