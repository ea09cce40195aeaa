-- `open` meets its contract.
use mathlib.Core.Path.{sym, ◌∙◌}
use lib.Seq.{length-take-le}
use Rattle.register.specs.Build.{built_in}
use Rattle.answers.proofs.Input.{opened_much, words_much, opened_built, words_built}
use Rattle.answers.proofs.open.Goals as goal

pub returns-then-input-gt-MOST_INPUT : goal.returns-then-input-gt-MOST_INPUT
returns-then-input-gt-MOST_INPUT c =
    let a = c.args in
    let much = c.if-input-gt-MOST_INPUT.true in
    record {
      value = opened_much a.input.now a.words.now much;
      words_after = c.fill.ensures ∙ words_much a.input.now a.words.now much;
    }

pub slice_bounds-build-end : goal.slice_bounds-build-end
slice_bounds-build-end c =
    sym (length-take-le c.register_end-at.result c.args.input.now c.register_end-at.ensures.1)

pub returns : goal.returns
returns c =
    let a = c.args in
    let few = c.if-input-gt-MOST_INPUT.false in
    let e = c.register_end-at in
    let b = c.build-built in
    record {
      value =
          opened_built a.input.now a.words.now e.result (built_in b.result) few e.ensures.0 b.ensures.0;
      words_after =
          words_built a.input.now a.words.now e.result b.new.words few e.ensures.0 b.ensures.1;
    }
