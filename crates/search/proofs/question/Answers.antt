-- `question` meets its contract.
use Rattle.std.proofs.Common.{◌≡◌, ◌∙◌, sym}
use Rattle.std.proofs.lemmas.Result.{err_from_is_err_and}
use Rattle.names.specs.Names.{judge_of}
use Rattle.refusals.proofs.Refusals.{refused}
use Rattle.search.proofs.Answered.{question_name, question_measure, question_threshold, question_none}
use Rattle.search.proofs.question.Goals as goal

pub returns-in_err-judge : goal.returns-in_err-judge
returns-in_err-judge c =
    let p = err_from_is_err_and c.from_residual.result c.from_residual.ensures.1 in
    let j = c.in_err-judge.ensures in
    rw (p.1, p.2) (j ∙ sym (question_name c.args.query.now c.args.measure c.args.p c.args.q (λ (z : judge_of c.args.query.now ≡ 0). refused _ (j ∙ z))))

pub returns-then-not-good_measure : goal.returns-then-not-good_measure
returns-then-not-good_measure c =
    sym (question_measure c.args.query.now c.args.measure c.args.p c.args.q (sym c.in_ok-judge.ensures) (sym c.good_measure.ensures ∙ c.if-not-good_measure.true))

pub returns-then-not-good_threshold : goal.returns-then-not-good_threshold
returns-then-not-good_threshold c =
    sym (question_threshold c.args.query.now c.args.measure c.args.p c.args.q (sym c.in_ok-judge.ensures) (sym c.good_measure.ensures ∙ c.if-not-good_measure.false)
    (sym c.good_threshold.ensures ∙ c.if-not-good_threshold.true))

pub returns : goal.returns
returns c =
    sym (question_none c.args.query.now c.args.measure c.args.p c.args.q (sym c.in_ok-judge.ensures) (sym c.good_measure.ensures ∙ c.if-not-good_measure.false)
    (sym c.good_threshold.ensures ∙ c.if-not-good_threshold.false))
