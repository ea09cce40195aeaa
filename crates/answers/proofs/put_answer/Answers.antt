-- `put_answer` meets its contract, by the answer's case.
use mathlib.Core.Path.{◌≡◌, refl, ap, ◌∙◌}
use mathlib.Core.List.{List}
use Prim.Native.Nat.{ℕ}
use lib.ListN.{length}
use Rattle.search.specs.Answers.{answer_in, as_columns}
use Rattle.fields.specs.Fitted.{fitting_of, fitted_of}
use Rattle.fields.proofs.Fitted.{written_plain, out_plain}
use Rattle.frames.specs.Frames.{refusal_frame}
use Rattle.answers.specs.Output.{refusal_line, answer_text}
use Rattle.answers.proofs.put_answer.Goals as goal

pub returns-in-Ok : goal.returns-in-Ok
unfolding answer_text
returns-in-Ok c = rw c.in-Ok.is c.put_found.ensures

pub returns-in-Err : goal.returns-in-Err
unfolding answer_text
returns-in-Err c =
    let a = c.args in
    let e = c.write_refusal.ensures in
    let t : refusal_line c.number.result c.in-Err.refused.touches ≡ answer_text (answer_in a.answer) (as_columns a.ids.now a.shared.now a.sizes.now a.least.now) = rw (c.in-Err.is, c.number.ensures) refl in (
      e.value ∙ written_plain refusal_frame _ (length a.out.now) ∙ ap (λ (s : List ℕ). fitting_of s (length a.out.now)) t,
      e.out_after ∙ out_plain refusal_frame _ a.out.now ∙ ap (λ (s : List ℕ). fitted_of s a.out.now) t,
    )
