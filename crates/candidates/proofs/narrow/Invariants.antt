-- `narrow` meets its contract: after the lists up to k, the tables hold the counts of those that remain, and the touches are one for each
-- that remained before each list.
use Rattle.std.proofs.Common.{◌≡◌, ◌+◌, ◌-◌, ◌≤◌, length}
use Rattle.candidates.specs.Tables.{MetBy, cut_lists, remain_table, later_touches}
use Rattle.candidates.proofs.narrow.Given as goal

abbrev pub invariant-loop-k : goal.invariant-loop-k
invariant-loop-k l =
    record {
      cost : l.touches ≡ later_touches l.ids (cut_lists l.words l.keys l.starts) l.least (l.k - (length l.keys - l.least + 1));
      within : l.touches ≤ l.budget;
      counted : l.counts ≡ remain_table l.ids (cut_lists l.words l.keys l.starts) l.least (l.k - (length l.keys - l.least + 1));
      those : MetBy l.counts l.met l.m;
    }
