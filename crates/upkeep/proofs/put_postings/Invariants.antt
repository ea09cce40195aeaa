-- `put_postings` meets its contract: after j turns, the places of j postings are pasted behind the n others.
use mathlib.Core.Path.{◌≡◌}
use mathlib.Core.List.{List, map}
use Prim.Native.Nat.{ℕ, ◌+◌}
use lib.Seq.{paste}
use Rattle.upkeep.proofs.put_postings.Given as goal

abbrev pub placed : ℕ → List ℕ → List ℕ
placed first postings = map (λ (p : ℕ). first + p) postings

abbrev pub invariant-loop-j : goal.invariant-loop-j
invariant-loop-j l = l.at ≡ paste l.initial.at l.n (placed l.first l.postings) l.j
