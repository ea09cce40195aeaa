-- `each_size` meets its contract: after the sizes below y, their touches and their answers, and the tables as they are lent; the rows that were come
-- past have smaller sizes.
use Rattle.std.proofs.Common.{◌∙◌, refl, ◌<◌, arith}
use Rattle.sizes.specs.Method.{sizes_end}
use Rattle.sizes.proofs.Upward.{passed_none, passed_all, passed_within, passed_next, passed_over}
use Rattle.sizes.proofs.each_size.Goals as goal

pub loop-y-init : goal.loop-y-init
loop-y-init c = record { passed = passed_none c.requires.good.4; cleared = c.requires.lent.cleared; known = omega arith }

pub rows_at-rows-requires : goal.rows_at-rows-requires
rows_at-rows-requires c = (c.requires.good.0, c.loop-y.invariant.known)

pub overflow_sub-allowance : goal.overflow_sub-allowance
overflow_sub-allowance c = passed_within c.loop-y.invariant.passed

pub one_size-requires-clause-lent : goal.one_size-requires-clause-lent
one_size-requires-clause-lent c =
    let l = c.requires.lent in
    let k = c.loop-y.auto in
    record {
      starting = k.starts ∙ l.starting;
      keyed = k.keys ∙ l.keyed;
      spared = k.spare ∙ l.spared;
      cleared = c.loop-y.invariant.cleared;
      meeting = k.met ∙ l.meeting;
    }

pub returns-in_err-touches : goal.returns-in_err-touches
returns-in_err-touches c =
    let b = c.sizes_below-end.ensures.1 in
    rw c.from_residual.ensures
    (passed_over c.loop-y.invariant.passed c.requires.good.0 c.requires.good.2 c.requires.good.3 (omega arith) c.in_err-touches.ensures refl)

pub loop-y-preserved : goal.loop-y-preserved
loop-y-preserved c =
    let b = c.sizes_below-end.ensures.1 in
    let low : c.loop-y.y < sizes_end = omega arith in
    record {
      passed = passed_next c.loop-y.invariant.passed c.requires.good.0 c.requires.good.2 c.requires.good.3 low c.in_ok-touches.ensures refl;
      cleared = c.in_ok-touches.ensures.cleared refl;
      known = c.rows_at-rows.ensures.1;
    }

pub returns : goal.returns
returns c =
    let b = c.sizes_below-end.ensures.0 in
    passed_all c.loop-y.invariant.passed c.requires.good.0 (omega arith)
