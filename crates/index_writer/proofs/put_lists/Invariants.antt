-- `put_lists` meets its contract: after i turns, the ids of the first i postings are there.
use mathlib.Core.Path.{◌≡◌}
use Prim.Native.Nat.{ℕ}
use lib.ListN.{get_or}
use Rattle.laws.proofs.Tables.{table_over}
use Rattle.index_writer.specs.Keys.{id_at}
use Rattle.index_writer.proofs.put_lists.Given as goal

abbrev pub invariant-loop-i : goal.invariant-loop-i
invariant-loop-i l = l.out ≡ table_over (λ (k : ℕ). id_at l.names (get_or l.keys k 0)) l.i l.initial.out
