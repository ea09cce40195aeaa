-- `place_rows` meets its contract: what is done and what is left come to the same at each turn.
use Prim.Native.Nat.{◌*◌}
use Rattle.words.specs.Words.{row_width}
use Rattle.settling.proofs.Laws.{Placing, all_placed}
use Rattle.settling.proofs.place_rows.Given as goal

abbrev pub invariant-loop-r : goal.invariant-loop-r
invariant-loop-r l = Placing l.size l.features (all_placed l.size l.features l.initial.rows) l.rows l.place (row_width * l.r)
