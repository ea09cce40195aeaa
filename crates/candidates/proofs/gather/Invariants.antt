-- `gather` meets its contract: after k lists, the tables hold their counts, and the touches are their postings.
use Rattle.std.proofs.Common.{◌≡◌, ◌≤◌, take}
use Rattle.candidates.specs.Method.{postings_of}
use Rattle.candidates.specs.Tables.{MetBy, cut_lists, held_table}
use Rattle.candidates.proofs.gather.Given as goal

abbrev pub invariant-loop-k : goal.invariant-loop-k
invariant-loop-k l =
    record {
      cost : l.touches ≡ postings_of (cut_lists l.words l.keys l.starts) l.k;
      within : l.touches ≤ l.budget;
      counted : l.counts ≡ held_table l.ids (take l.k (cut_lists l.words l.keys l.starts));
      those : MetBy l.counts l.met l.m;
    }
