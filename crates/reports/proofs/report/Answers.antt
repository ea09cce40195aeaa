-- `report` meets its contract: too much input, the register, the settings line and the log are judged in this order.
use mathlib.Core.Path.{refl, sym, ap, ◌∙◌}
use mathlib.Core.List.{List}
use Prim.Native.Nat.{ℕ}
use lib.ListN.{length}
use Rattle.fields.specs.Fitted.{fitting_of, fitted_of}
use native.Mathlib.Omega.{arith}
use lib.Seq.{length-take-le}
use Rattle.lines.proofs.Lines.{line_within}
use Rattle.refusals.proofs.Refusals.{refused}
use Rattle.reports.proofs.Parts.{report_much, register_bad, register_good}
use Rattle.reports.proofs.report.Goals as goal

pub returns-then-input-gt-MOST_INPUT : goal.returns-then-input-gt-MOST_INPUT
returns-then-input-gt-MOST_INPUT c =
    let a = c.args in
    let w = c.refuse.ensures in
    let t = report_much a.input.now c.if-input-gt-MOST_INPUT.true in
    record {
      value = w.0 ∙ ap (λ (l : List ℕ). fitting_of l (length a.out.now)) t;
      out_after = w.1 ∙ ap (λ (l : List ℕ). fitted_of l a.out.now) t;
    }

pub slice_bounds-build-end : goal.slice_bounds-build-end
slice_bounds-build-end c =
    sym (length-take-le c.register_end-at.result c.args.input.now c.register_end-at.ensures.1)

pub returns-in-Err : goal.returns-in-Err
returns-in-Err c =
    let a = c.args in
    let e = c.register_end-at in
    let w = c.refuse-in-Err.ensures in
    let t = register_bad a.input.now c.if-input-gt-MOST_INPUT.false e.result e.ensures.0 _ c.in-Err.ensures.0 (refused c.in-Err.refused.refusal) in
    record {
      value = w.0 ∙ ap (λ (l : List ℕ). fitting_of l (length a.out.now)) t;
      out_after = w.1 ∙ ap (λ (l : List ℕ). fitted_of l a.out.now) t;
    }

pub slice_bounds-report_settled-end : goal.slice_bounds-report_settled-end
slice_bounds-report_settled-end c =
    let a = c.args in
    let e = c.register_end-at in
    let l = c.line_end-end.ensures in
    let h = e.ensures.1 in
    let w = line_within a.input.now e.result c.register_end-at.ensures.1 in
    omega arith

pub slice_bounds-report_settled-count-2 : goal.slice_bounds-report_settled-count-2
slice_bounds-report_settled-count-2 c =
    let a = c.args in
    let e = c.register_end-at in
    let l = c.line_end-end.ensures in
    let h = e.ensures.1 in
    let w = line_within a.input.now e.result c.register_end-at.ensures.1 in
    omega arith

pub slice_bounds-report_settled-start-2 : goal.slice_bounds-report_settled-start-2
slice_bounds-report_settled-start-2 c =
    let a = c.args in
    let e = c.register_end-at in
    let l = c.line_end-end.ensures in
    let h = e.ensures.1 in
    let w = line_within a.input.now e.result c.register_end-at.ensures.1 in
    omega arith

pub returns : goal.returns
returns c =
    let a = c.args in
    let e = c.register_end-at in
    let b = c.in_default.ensures in
    let w = c.report_settled.ensures in
    let t = register_good a.input.now c.if-input-gt-MOST_INPUT.false e.result e.ensures.0 _ b.0 refl _ b.1 _ c.line_end-end.ensures _ _ refl refl in
    record {
      value = w.0 ∙ ap (λ (l : List ℕ). fitting_of l (length a.out.now)) t;
      out_after = w.1 ∙ ap (λ (l : List ℕ). fitted_of l a.out.now) t;
    }
