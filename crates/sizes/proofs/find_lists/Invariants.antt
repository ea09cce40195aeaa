-- `find_lists` meets its contract: the size's rows are cut out once; after j turns, the starts and the keys of the first j features stand in front, and
-- those that are empty are as many as they may be, or fewer. With one more than that, the others are too few, whatever comes.
use Rattle.std.proofs.Common.{◌≡◌, ◌+◌, ◌-◌, ◌≤◌, length}
use Rattle.laws.proofs.Tables.{table_over}
use Rattle.sizes.specs.Tables.{start_of, small_key, filled_of}
use Rattle.sizes.proofs.find_lists.Given as goal

abbrev pub invariant-loop-j : goal.invariant-loop-j
invariant-loop-j l =
    record {
      starts : l.starts ≡ table_over (start_of l.words l.size l.features) l.j l.initial.starts;
      keys : l.keys ≡ table_over (small_key l.words l.size l.features) l.j l.initial.keys;
      counted : l.empty + filled_of l.words l.size l.features l.j ≡ l.j;
      few : l.empty ≤ length l.features - l.least;
    }
