-- `put_names` meets its contract: after i turns, the first i words are copied.
use mathlib.Core.Path.{◌≡◌}
use Prim.Native.Nat.{ℕ}
use lib.ListN.{get_or}
use Rattle.laws.proofs.Tables.{table_over}
use Rattle.index_writer.proofs.put_names.Given as goal

abbrev pub invariant-loop-i : goal.invariant-loop-i
invariant-loop-i l = l.out ≡ table_over (λ (k : ℕ). get_or l.names k 0) l.i l.initial.out
