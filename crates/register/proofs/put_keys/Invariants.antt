-- `put_keys` meets its contract: after k turns, the keys of k features are pasted.
use mathlib.Core.Path.{◌≡◌}
use mathlib.Core.List.{map}
use Prim.Native.Nat.{ℕ, ◌+◌, ◌*◌}
use lib.Seq.{paste}
use Rattle.index_writer.specs.Keys.{place_span}
use Rattle.register.proofs.put_keys.Given as goal

abbrev pub invariant-loop-k : goal.invariant-loop-k
invariant-loop-k l = l.keys ≡ paste l.initial.keys l.at (map (λ (f : ℕ). f * place_span + l.place) l.features) l.k
