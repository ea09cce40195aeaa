-- `each_query` meets its contract: after k queries, their outcomes and their rows stand in front.
use mathlib.Core.Path.{◌≡◌, sym, ◌∙◌}
use native.Mathlib.Omega.{arith}
use borrow.Author.Tests.{eqb-true, eqb-false}
use Rattle.search.specs.Answers.{number_in, answer_in, as_columns}
use Rattle.queries.specs.Queries.{as_outcomes}
use Rattle.queries.proofs.Upto.{upto_none, upto_next, upto_stop, stop_columns, upto_all, upto_outcomes, next_fits}
use Rattle.queries.proofs.each_query.Goals as goal

pub loop-k-init : goal.loop-k-init
loop-k-init c = let a = c.args in upto_none a.bytes.now a.ends.now a.measure a.p a.q a.allowance a.words.now a.room a.n (as_outcomes a.numbers.now a.until.now a.touches.now) (as_columns a.ids.now a.shared.now a.sizes.now a.least.now)

pub one-answer-requires : goal.one-answer-requires
one-answer-requires c = (c.requires.good_value.0, c.loop-k.invariant.fits, omega arith, omega arith, omega arith, omega arith)

pub returns-then-lacks_room : goal.returns-then-lacks_room
returns-then-lacks_room c =
    let y = c.one-answer in
    let l = c.loop-k in
    let a = c.args in
    let z = eqb-true (number_in (answer_in y.result)) 8 (sym c.lacks_room.ensures ∙ c.if-lacks_room.true) in
    record {
      queries_value = (
        upto_stop a.bytes.now a.ends.now a.measure a.p a.q a.allowance a.words.now a.room a.n (as_outcomes a.numbers.now a.until.now a.touches.now) (as_columns a.ids.now a.shared.now a.sizes.now a.least.now) l.k l.used l.from (as_outcomes l.numbers l.until l.touches) (as_columns l.ids l.shared l.sizes l.least) l.invariant (answer_in y.result) y.ensures.0 c.loop-k-test.true z,
        l.invariant.counted,
        omega arith,
        l.invariant.fits,
      );
      touches_after =
          upto_outcomes a.bytes.now a.ends.now a.measure a.p a.q a.allowance a.words.now a.room a.n (as_outcomes a.numbers.now a.until.now a.touches.now) (as_columns a.ids.now a.shared.now a.sizes.now a.least.now) l.k l.used l.from (as_outcomes l.numbers l.until l.touches) (as_columns l.ids l.shared l.sizes l.least) l.invariant;
      least_after =
          stop_columns a.bytes.now a.ends.now a.measure a.p a.q a.allowance a.words.now a.room a.n (as_outcomes a.numbers.now a.until.now a.touches.now) (as_columns a.ids.now a.shared.now a.sizes.now a.least.now) l.k l.used l.from (as_outcomes l.numbers l.until l.touches) (as_columns l.ids l.shared l.sizes l.least) l.invariant (answer_in y.result) y.ensures.0 z _ y.ensures.1;
    }

pub overflow_add-used : goal.overflow_add-used
overflow_add-used c =
    let y = c.one-answer in
    let l = c.loop-k in
    let a = c.args in
    let t = c.tell-of.ensures in
    let h = next_fits a.bytes.now a.ends.now a.measure a.p a.q a.allowance a.words.now a.room a.n (as_outcomes a.numbers.now a.until.now a.touches.now) (as_columns a.ids.now a.shared.now a.sizes.now a.least.now) l.k l.used l.from (as_outcomes l.numbers l.until l.touches) (as_columns l.ids l.shared l.sizes l.least) l.invariant (answer_in y.result) y.ensures.0 in
    let m = c.requires.room_le_most.0 in
    omega arith

pub overflow_cast-until : goal.overflow_cast-until
overflow_cast-until c =
    let y = c.one-answer in
    let l = c.loop-k in
    let a = c.args in
    let t = c.tell-of.ensures in
    let h = next_fits a.bytes.now a.ends.now a.measure a.p a.q a.allowance a.words.now a.room a.n (as_outcomes a.numbers.now a.until.now a.touches.now) (as_columns a.ids.now a.shared.now a.sizes.now a.least.now) l.k l.used l.from (as_outcomes l.numbers l.until l.touches) (as_columns l.ids l.shared l.sizes l.least) l.invariant (answer_in y.result) y.ensures.0 in
    let m = c.requires.room_le_most.0 in
    omega arith

pub loop-k-preserved : goal.loop-k-preserved
loop-k-preserved c =
    let y = c.one-answer in
    let l = c.loop-k in
    let a = c.args in
    let t = c.tell-of in
    let h = c.requires.good_value in
    let s = c.loop-k-test.true in
    let n = eqb-false (number_in (answer_in y.result)) 8 (sym c.lacks_room.ensures ∙ c.if-lacks_room.false) in
    upto_next a.bytes.now a.ends.now a.measure a.p a.q a.allowance a.words.now a.room a.n (as_outcomes a.numbers.now a.until.now a.touches.now) (as_columns a.ids.now a.shared.now a.sizes.now a.least.now) l.k l.used l.from (as_outcomes l.numbers l.until l.touches) (as_columns l.ids l.shared l.sizes l.least) l.invariant (answer_in y.result) y.ensures.0 t.result.number t.result.rows t.result.touches t.ensures.0 t.ensures.1 t.ensures.2 s (omega arith) (omega arith) (omega arith) (λ e. n (sym t.ensures.0 ∙ e)) _ y.ensures.1

pub returns : goal.returns
returns c =
    let l = c.loop-k in
    let a = c.args in
    let e : l.k ≡ a.n = omega arith in
    let u = rw e at l.invariant in
    record {
      queries_value =
          (upto_all a.bytes.now a.ends.now a.measure a.p a.q a.allowance a.words.now a.room a.n (as_outcomes a.numbers.now a.until.now a.touches.now) (as_columns a.ids.now a.shared.now a.sizes.now a.least.now) a.n l.used l.from (as_outcomes l.numbers l.until l.touches) (as_columns l.ids l.shared l.sizes l.least) u (omega arith), u.counted, omega arith, u.fits);
      touches_after =
          upto_outcomes a.bytes.now a.ends.now a.measure a.p a.q a.allowance a.words.now a.room a.n (as_outcomes a.numbers.now a.until.now a.touches.now) (as_columns a.ids.now a.shared.now a.sizes.now a.least.now) a.n l.used l.from (as_outcomes l.numbers l.until l.touches) (as_columns l.ids l.shared l.sizes l.least) u;
      least_after =
          u.columns;
    }
