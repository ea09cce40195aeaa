-- `register_end` meets its contract: from each line on, the bytes before the first query are what is left of those of the whole.
use mathlib.Core.Path.{ap, sym, ◌∙◌}
use native.Mathlib.Omega.{arith}
use borrow.Author.Rules.{rules}
use lib.ListN.{length, length-append}
use Rattle.std.proofs.lemmas.List.Sorted.{answers_always}
use Rattle.lines.proofs.Lines.{is_feed}
use Rattle.answers.proofs.Input.{end_first, end_nil, line_met, line_passed}
use Rattle.answers.proofs.register_end.Goals as goal

pub loop-line-init : goal.loop-line-init
loop-line-init c =
    rw (c.into_iter-line-iterator.ensures.into_iter_gives, c.split_inclusive-line-items.ensures.rest)
    (omega arith, end_first c.args.input.now)

pub returns-then-begins_query : goal.returns-then-begins_query
returns-then-begins_query c =
    let i = c.loop-line.invariant in
    let i0 = i.0 in
    let i1 = i.1 in
    let s = c.in-Some.ensures.steps in
    let e = line_met _ _ _ _ s.0 s.1.1 (s.1.2 is_feed (answers_always _ _ _ (λ f a r g h. search rules))).1 s.2 (sym c.begins_query.ensures ∙ c.if-begins_query.true) in
    (omega arith, omega arith)

pub loop-line-preserved : goal.loop-line-preserved
loop-line-preserved c =
    let i = c.loop-line.invariant in
    let i0 = i.0 in
    let i1 = i.1 in
    let s = c.in-Some.ensures.steps in
    let n = ap length s.0 ∙ length-append c.in-Some.line.now c.next.new.self.rest.now in
    let e = line_passed _ _ _ _ s.0 s.1.1 (s.1.2 is_feed (answers_always _ _ _ (λ f a r g h. search rules))).1 s.2 (sym c.begins_query.ensures ∙ c.if-begins_query.false) in
    (omega arith, omega arith)

pub returns : goal.returns
returns c =
    let i = c.loop-line.invariant in
    let i0 = i.0 in
    let i1 = i.1 in
    let e = end_nil _ c.in-None.ensures.steps.0 in
    (omega arith, omega arith)
