-- `put_seats` meets its contract: after j turns, the new rows and the seats of the first j features are put.
use mathlib.Core.Path.{◌≡◌}
use mathlib.Core.List.{List}
use Prim.Native.Nat.{ℕ}
use lib.ListN.{length, get_or, take}
use Rattle.laws.proofs.Tables.{table_over}
use Rattle.words.specs.Words.{name_start, name_count}
use Rattle.index_writer.specs.Contents.{all_rows_in}
use Rattle.changes.specs.Cuts.{posting_seat}
use Rattle.seats.proofs.Behind.{Put}
use Rattle.seats.proofs.put_seats.Given as goal

-- the seat of the id for the i-th feature
abbrev pub seatAt : List ℕ → ℕ → List ℕ → ℕ → ℕ
seatAt words id features i = posting_seat (length features) id (all_rows_in words) (get_or features i 0)

abbrev pub invariant-loop-j : goal.invariant-loop-j
invariant-loop-j l =
    Put (all_rows_in l.words) (name_start (name_count l.words)) (length l.features) l.initial.at l.initial.values l.n (take l.j l.features) l.at l.values l.m
    × (l.postings ≡ table_over (seatAt l.words l.id l.features) l.j l.initial.postings)
