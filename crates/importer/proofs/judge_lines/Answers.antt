-- `judge_lines` meets its contract: at each place, what the lines from there on come to is what all lines come to.
-- Assumes nothing.
use Rattle.std.proofs.Common.{sym, arith, rules}
use Rattle.std.proofs.lemmas.List.Sorted.{answers_always}
use Rattle.lines.proofs.Lines.{is_feed}
use Rattle.importer.proofs.Reached.{turn, reached_nil, reached_all}
use Rattle.importer.proofs.Judging.{same_nil, same_all, turn_few, turn_good, turn_bad}
use Rattle.importer.proofs.judge_lines.Goals as goal

pub loop-line-init : goal.loop-line-init
loop-line-init c =
    rw (c.into_iter-line-iterator.ensures.into_iter_gives, c.split_inclusive-line-items.ensures.rest)
    (omega arith, reached_nil _, same_nil _)

pub returns-in-Err : goal.returns-in-Err
returns-in-Err c =
    let s = c.in-Some.ensures.steps in
    let t = turn c.loop-line.invariant.1 s.0 s.1.1 (s.1.2 is_feed (answers_always _ _ _ (λ f a r g h. search rules))).1 s.2 in
    turn_bad t c.loop-line.invariant.2 c.in-Err.refusal c.in-Err.ensures

pub loop-line-preserved : goal.loop-line-preserved
loop-line-preserved c =
    let s = c.in-Some.ensures.steps in
    let t = turn c.loop-line.invariant.1 s.0 s.1.1 (s.1.2 is_feed (answers_always _ _ _ (λ f a r g h. search rules))).1 s.2 in
    let f = turn_few t c.loop-line.invariant.2 (sym c.in_default.ensures) in
    (omega arith, t.next, turn_good t c.loop-line.invariant.2 (sym c.in_default.ensures))

pub returns : goal.returns
returns c =
    let l = c.loop-line in
    same_all _ _ (reached_all l.invariant.1 c.in-None.ensures.steps.0) l.invariant.2
