-- `judge_line` meets its contract: the tests come in the order of the definition.
use mathlib.Core.Path.{refl, sym, ap, ◌∙◌}
use native.Mathlib.Omega.{arith}
use lib.Seq.{length-take-le}
use Rattle.std.proofs.lemmas.Result.{err_from_is_err_and}
use Rattle.names.specs.Names.{judge_of}
use Rattle.refusals.proofs.Refusals.{refused}
use Rattle.register.proofs.Judging.{judged_name, judged_id, judged_count, judged_good, read_bad, line_read, heard_bad}
use Rattle.register.proofs.judge_line.Goals as goal

pub returns-in_err-read : goal.returns-in_err-read
returns-in_err-read c =
    let p = err_from_is_err_and c.from_residual.result c.from_residual.ensures.1 in
    let n = refused c.in_err-read.field-0.0 in
    let y = c.in_err-read.ensures in
    rw (p.1, p.2) (heard_bad _ _ _ _ _ _ _ (read_bad _ _ _ _ c.requires y.result_value y.name_after c.args.count c.args.next n) n)

pub slice_bounds-judge-end : goal.slice_bounds-judge-end
slice_bounds-judge-end c = let y = c.in_ok-read.ensures in (line_read _ _ _ _ c.requires y.result_value y.name_after refl).within

pub slice_bounds-judge-end-2 : goal.slice_bounds-judge-end-2
slice_bounds-judge-end-2 c = let y = c.in_ok-read.ensures in sym (length-take-le _ _ (line_read _ _ _ _ c.requires y.result_value y.name_after refl).within)

pub returns-in_err-judge : goal.returns-in_err-judge
returns-in_err-judge c =
    let p = err_from_is_err_and c.from_residual-in_err-judge.result c.from_residual-in_err-judge.ensures.1 in
    let y = c.in_ok-read.ensures in
    let h = line_read _ _ _ _ c.requires y.result_value y.name_after refl in
    let r = refused c.in_err-judge.field-0.0 in
    let n = c.in_err-judge.ensures ∙ ap judge_of h.name in
    rw (p.1, p.2) (heard_bad _ _ _ _ _ _ _ (n ∙ sym (judged_name c.args.count c.args.next _ h.frame (λ q. r (n ∙ q)))) r)

pub returns-then-from-next : goal.returns-then-from-next
returns-then-from-next c =
    let y = c.in_ok-read.ensures in
    let h = line_read _ _ _ _ c.requires y.result_value y.name_after refl in
    let g = sym (c.in_ok-judge.ensures ∙ ap judge_of h.name) in
    heard_bad _ _ _ _ 9 _ _ (sym (judged_id c.args.count c.args.next _ h.frame g (omega (arith, h.id, c.from.ensures, c.if-from-next.true)))) (λ q. omega arith)

pub returns-then-count-ge-MOST_NAMES : goal.returns-then-count-ge-MOST_NAMES
returns-then-count-ge-MOST_NAMES c =
    let y = c.in_ok-read.ensures in
    let h = line_read _ _ _ _ c.requires y.result_value y.name_after refl in
    let g = sym (c.in_ok-judge.ensures ∙ ap judge_of h.name) in
    heard_bad _ _ _ _ 10 _ _ (sym (judged_count c.args.count c.args.next _ h.frame g (omega (arith, h.id, c.from.ensures, c.if-from-next.false)) c.if-count-ge-MOST_NAMES.true)) (λ q. omega arith)

pub returns : goal.returns
returns c =
    let y = c.in_ok-read.ensures in
    let h = line_read _ _ _ _ c.requires y.result_value y.name_after refl in
    let g = sym (c.in_ok-judge.ensures ∙ ap judge_of h.name) in
    let i = h.id in
    let f = c.from.ensures in
    let t = c.if-from-next.false in
    record {
      number = sym (judged_good c.args.count c.args.next _ h.frame g (omega arith) c.if-count-ge-MOST_NAMES.false);
      id = λ q. i;
      name = λ q. h.name;
      short = λ q. h.within;
    }
