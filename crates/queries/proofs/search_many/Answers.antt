-- `search_many` meets its contract: the index is checked once, and the queries that there is room for are answered.
use native.Mathlib.Omega.{arith}
use Rattle.search.specs.Answers.{as_columns}
use Rattle.queries.specs.Queries.{as_outcomes}
use Rattle.queries.proofs.Upto.{asked}
use Rattle.queries.proofs.search_many.Goals as goal

pub each_query-reached-requires : goal.each_query-reached-requires
each_query-reached-requires c =
    let n = c.room_of-n.ensures in
    let m = c.room_of-room.ensures in
    record {
      good_value = (c.good-good.ensures, omega arith, omega arith, omega arith, omega arith);
      room_le_most = (omega arith, omega arith, omega arith, omega arith, omega arith);
    }

pub overflow_cast-queries : goal.overflow_cast-queries
overflow_cast-queries c =
    let h = c.each_query-reached.ensures.queries_value.2 in
    let n = c.room_of-n.ensures in
    omega arith

pub overflow_cast-rows : goal.overflow_cast-rows
overflow_cast-rows c =
    let h = c.each_query-reached.ensures.queries_value.3 in
    let m = c.room_of-room.ensures in
    omega arith

pub returns : goal.returns
returns c =
    let a = c.args in
    let y = c.each_query-reached in
    let o = as_outcomes a.numbers.now a.until.now a.touches.now in
    let d = as_columns a.ids.now a.shared.now a.sizes.now a.least.now in
    asked a.bytes.now a.ends.now a.measure a.p a.q a.allowance a.words.now o _ d _ _ _ y.result.queries y.result.rows _
    c.room_of-n.ensures c.room_of-room.ensures
    y.ensures.queries_value.0 y.ensures.queries_value.1 c.outcome_of-outcome.ensures y.ensures.touches_after y.ensures.least_after
