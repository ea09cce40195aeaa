-- `pairs` meets its contract: sorted entries have the same pairs, which are counted before anything is written.
-- Assumes nothing.
use mathlib.Core.Path.{◌≡◌}
use native.Mathlib.Omega.{arith}
use Rattle.weeks.specs.Pairs.{as_columns, room_of}
use Rattle.weeks.proofs.Steps.{sorted_entries, pairs_few, pairs_refused, pairs_written}
use Rattle.weeks.proofs.pairs.Goals as goal

pub count_pairs-n-requires : goal.count_pairs-n-requires
count_pairs-n-requires c = sorted_entries _ _ c.sort.ensures c.requires.1

pub returns-then-room-n : goal.returns-then-room-n
returns-then-room-n c =
    let a = c.args in
    let r : c.min-room.result ≡ room_of (as_columns a.ids.now a.weeks.now a.sums.now a.counts.now) = omega arith in
    let both =
    pairs_refused _ _ c.sort.ensures _ _ c.count_pairs-n.ensures _
    r c.if-room-n.true in record { value = both.0; counts_after = both.1.0; entries_after = both.1.1 }

pub put_pairs-requires : goal.put_pairs-requires
put_pairs-requires c =
    let o = sorted_entries _ _ c.sort.ensures c.requires.1 in
    let n = c.count_pairs-n.ensures in
    let a = c.args in
    let r : c.min-room.result ≡ room_of (as_columns a.ids.now a.weeks.now a.sums.now a.counts.now) = omega arith in
    (o.0, o.1, omega (arith, n, r, c.if-room-n.false))

pub overflow_cast-result : goal.overflow_cast-result
overflow_cast-result c =
    let o = sorted_entries _ _ c.sort.ensures c.requires.1 in
    let f = pairs_few _ o.0 in
    let n = c.count_pairs-n.ensures in
    record { fits = omega arith }

pub returns : goal.returns
returns c =
    let a = c.args in
    let r : c.min-room.result ≡ room_of (as_columns a.ids.now a.weeks.now a.sums.now a.counts.now) = omega arith in
    let both =
    pairs_written _ _ c.sort.ensures _ _ c.count_pairs-n.ensures _
    r _ (omega (arith, c.if-room-n.false))
    c.put_pairs.ensures in record { value = both.0; counts_after = both.1.0; entries_after = both.1.1 }
