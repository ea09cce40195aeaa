-- `note_rows` meets its contract: after r turns the first r rows are noted, and the words are those of the entry in which they no longer count the id.
use lib.ListN.{take}
use Rattle.vacancies.proofs.Rows.{NotedTo}
use Rattle.vacancies.proofs.note_rows.Given as goal

abbrev pub invariant-loop-r : goal.invariant-loop-r
invariant-loop-r l =
    NotedTo l.initial.words l.id l.n (take l.n l.initial.at) l.r l.words l.at l.m l.postings l.k
