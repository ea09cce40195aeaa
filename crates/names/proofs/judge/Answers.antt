-- `judge` meets its contract: the tests stand in the order of the definition, but that a name without a control character, and so without a 0 byte, is good at once.
use Rattle.std.proofs.Common.{◌≡◌, ◌≢◌, length, sym, ◌∙◌, arith}
use Rattle.names.proofs.Laws.{judge_empty, judge_long, judge_zero, judge_control, judge_good}
use Rattle.names.proofs.judge.Goals as goal

pub returns-then-is_empty : goal.returns-then-is_empty
returns-then-is_empty c = let e : length c.args.name.now ≡ 0 = grind arith in sym (judge_empty _ e)

pub returns-then-name-gt-LONGEST : goal.returns-then-name-gt-LONGEST
returns-then-name-gt-LONGEST c = sym (judge_long _ c.if-name-gt-LONGEST.true)

pub returns-then-not-has_control : goal.returns-then-not-has_control
returns-then-not-has_control c =
    let e : length c.args.name.now ≢ 0 = grind arith in
    sym (judge_good _ e c.if-name-gt-LONGEST.false (sym c.has_control.ensures ∙ c.if-not-has_control.true))

pub returns-then-has_zero : goal.returns-then-has_zero
returns-then-has_zero c =
    let e : length c.args.name.now ≢ 0 = grind arith in
    sym (judge_zero _ e c.if-name-gt-LONGEST.false (sym c.has_zero.ensures ∙ c.if-has_zero.true))

pub returns : goal.returns
returns c =
    let e : length c.args.name.now ≢ 0 = grind arith in
    sym
    (judge_control _ e c.if-name-gt-LONGEST.false
    (sym c.has_zero.ensures ∙ c.if-has_zero.false)
    (sym c.has_control.ensures ∙ c.if-not-has_control.false))
