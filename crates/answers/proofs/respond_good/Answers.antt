-- `respond_good` meets its contract.
use native.Mathlib.Omega.{arith}
use lib.ListN.{length}
use Rattle.lines.proofs.Lines.{line_within}
use Rattle.fields.specs.Layouts.{written_in}
use Rattle.answers.proofs.Responding.{responded_none, fitted_past, responded_line, fitted_line}
use Rattle.answers.proofs.respond_good.Goals as goal

pub returns-then-input-at : goal.returns-then-input-at
returns-then-input-at c =
    let a = c.args in
    record {
      value = responded_none a.words.now a.input.now a.at (length a.out.now) c.if-input-at.true;
      out_after = fitted_past a.words.now a.input.now a.at a.out.now c.if-input-at.true;
    }

pub slice_bounds-answer_with-end : goal.slice_bounds-answer_with-end
slice_bounds-answer_with-end c =
    let a = c.args in
    let h = c.if-input-at.false in
    let w = line_within a.input.now a.at (omega arith) in
    let e = c.line_end-end.ensures in
    omega arith

pub returns : goal.returns
returns c =
    let a = c.args in
    let h = c.if-input-at.false in
    let e = c.line_end-end.ensures in
    let w = c.answer_with-written in
    record {
      value =
          responded_line a.words.now a.input.now a.at (length a.out.now) c.line_end-end.result (written_in w.result) h e w.ensures.0;
      out_after =
          fitted_line a.words.now a.input.now a.at a.out.now w.new.out c.line_end-end.result h e w.ensures.1;
    }
