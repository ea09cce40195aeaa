-- `search_checked` meets its contract: a bad question and a bad index are refused, and any other search is run.
use Rattle.std.proofs.Common.{◌≡◌, ◌∙◌, sym, arith}
use Rattle.std.proofs.lemmas.Result.{err_from_is_err_and}
use Rattle.refusals.proofs.Refusals.{refused}
use Rattle.search.specs.Answers.{as_columns, room_of}
use Rattle.search.proofs.Answered.{question_good, refusal_index, search_refused, searched_refused, searched_question}
use Rattle.search.proofs.search_checked.Goals as goal

pub returns-in_err-question : goal.returns-in_err-question
returns-in_err-question c =
    let a = c.args in
    let p = err_from_is_err_and c.from_residual.result c.from_residual.ensures.1 in
    let e = c.in_err-question.ensures in
    rw (p.1, p.2)
    (searched_question a.query.now a.measure a.p a.q a.allowance a.words.now (as_columns a.ids.now a.shared.now a.sizes.now a.least.now) _ e
    (λ z. refused _ z))

pub returns-then-not-good : goal.returns-then-not-good
returns-then-not-good c =
    let a = c.args in
    let lent = as_columns a.ids.now a.shared.now a.sizes.now a.least.now in
    rw c.into.ensures
    (searched_refused a.query.now a.measure a.p a.q a.allowance a.words.now lent 6 0
    (search_refused a.query.now a.measure a.p a.q a.allowance a.words.now (room_of lent) 6
    (refusal_index a.query.now a.measure a.p a.q a.words.now (sym c.in_ok-question.ensures) (sym c.requires ∙ c.if-not-good.true))
    (λ (z : 6 ≡ 0). omega arith)))

pub run-requires : goal.run-requires
run-requires c =
    let a = c.args in
    let h = question_good a.query.now a.measure a.p a.q (sym c.in_ok-question.ensures) in
    (sym c.requires ∙ c.if-not-good.false, h.0, h.1, h.2)
