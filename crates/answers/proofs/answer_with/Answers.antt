-- `answer_with` meets its contract: a line that is no query is refused, and of any other the answer's text is that of the lent columns.
use mathlib.Core.Path.{◌≡◌, refl, sym, ap, ◌∙◌}
use mathlib.Core.List.{List}
use Prim.Native.Nat.{ℕ}
use lib.ListN.{length, replicate}
use lib.Seq.{length-take-le}
use Rattle.search.specs.Answers.{Columns, as_columns, room_of}
use Rattle.answers.specs.Output.{refusal_line, rows_lent}
use Rattle.fields.specs.Layouts.{longest_name}
use Rattle.fields.specs.Fitted.{fitting_of, fitted_of}
use Rattle.fields.proofs.Fitted.{written_plain, out_plain}
use Rattle.frames.specs.Frames.{refusal_frame}
use Rattle.answers.proofs.Asking.{query_frame_lem, query_bad, query_measure, query_p, query_q, query_allowance, query_within, query_bytes, shown, answer_as, room_lent}
use Rattle.answers.proofs.answer_with.Goals as goal

pub returns-in-Err : goal.returns-in-Err
returns-in-Err c =
    let a = c.args in
    let v = c.write_refusal.ensures in
    let t = ap (λ (k : ℕ). refusal_line k 0) c.number.ensures ∙ query_bad a.line.now (replicate longest_name 0) refl a.words.now c.in-Err.refusal c.in-Err.ensures.result_value in (
      v.value ∙ written_plain refusal_frame _ (length a.out.now) ∙ ap (λ (x : List ℕ). fitting_of x (length a.out.now)) t,
      v.out_after ∙ out_plain refusal_frame _ a.out.now ∙ ap (λ (x : List ℕ). fitted_of x a.out.now) t,
    )

pub slice_bounds-query-end : goal.slice_bounds-query-end
slice_bounds-query-end c =
    let y = c.in-Ok.ensures in
    query_within c.args.line.now (replicate longest_name 0) refl _ c.in-Ok.read y.result_value y.query_after

pub slice_bounds-ask-end : goal.slice_bounds-ask-end
slice_bounds-ask-end c =
    let y = c.in-Ok.ensures in
    sym (length-take-le _ _ (query_within c.args.line.now (replicate longest_name 0) refl _ c.in-Ok.read y.result_value y.query_after))

-- the tables that are lent to a search
abbrev lent : Columns
lent = as_columns (replicate rows_lent 0) (replicate rows_lent 0) (replicate rows_lent 0) (replicate rows_lent 0)

lent_room : room_of lent ≡ rows_lent
lent_room = room_lent lent refl refl refl refl

pub put_answer-requires : goal.put_answer-requires
put_answer-requires c = shown _ _ _ _ _ _ _ _ _ lent_room c.ask-answer.ensures

pub returns : goal.returns
returns c =
    let a = c.args in
    let r = c.in-Ok.read in
    let y = c.in-Ok.ensures in
    let v = c.put_answer.ensures in
    let t =
    answer_as _ _ _ _ _ _ _ _ _ lent_room c.ask-answer.ensures a.line.now
    (query_frame_lem a.line.now (replicate longest_name 0) refl _ r y.result_value y.query_after)
    (query_bytes a.line.now (replicate longest_name 0) refl _ r y.result_value y.query_after)
    (query_measure a.line.now (replicate longest_name 0) refl _ r y.result_value y.query_after)
    (query_p a.line.now (replicate longest_name 0) refl _ r y.result_value y.query_after)
    (query_q a.line.now (replicate longest_name 0) refl _ r y.result_value y.query_after)
    (query_allowance a.line.now (replicate longest_name 0) refl _ r y.result_value y.query_after)
    in
    (v.0 ∙ ap (λ (x : List ℕ). fitting_of x (length a.out.now)) t, v.1 ∙ ap (λ (x : List ℕ). fitted_of x a.out.now) t)
