-- `rushgirdle_list` meets its contract: no list where the index isn't good, and the layer's place where it is.
use mathlib.Core.Path.{◌≡◌, sym, ap, ap₂, ◌∙◌}
use mathlib.Core.Bool.{true, false, cond}
use Prim.Native.Nat.{ℕ}
use Rattle.index.specs.Good.{good_of}
use Rattle.lists.specs.Lists.{span_in, span_for}
use Rattle.lists.specs.Part.{none}
use Rattle.surface.specs.declared.ListAnswer.{ListAnswer}
use Rattle.surface.specs.Flat.{list_answer}
use Rattle.surface.proofs.rushgirdle_list.Goals as goal

-- a place of its two numbers
abbrev place : ℕ → ℕ → ListAnswer
place start count = record { start = start; count = count }

pub returns-then-not-good : goal.returns-then-not-good
unfolding span_for
returns-then-not-good c =
    let a = c.args in
    let bad : good_of a.words.now ≡ false = sym c.good.ensures ∙ c.if-not-good.true in
    sym (ap list_answer (ap (λ b. cond b (span_in a.words.now a.size a.feature) none) bad))

pub place_for_good-l-requires : goal.place_for_good-l-requires
place_for_good-l-requires c = sym c.good.ensures ∙ c.if-not-good.false

pub returns : goal.returns
unfolding span_for
returns c =
    let a = c.args in
    let good : good_of a.words.now ≡ true = sym c.good.ensures ∙ c.if-not-good.false in
    let start : c.place_for_good-l.result.start ≡ (span_in a.words.now a.size a.feature).start = c.place_for_good-l.ensures.0 in
    let count : c.place_for_good-l.result.count ≡ (span_in a.words.now a.size a.feature).count = c.place_for_good-l.ensures.1 in
    ap₂ place start count ∙ sym (ap list_answer (ap (λ b. cond b (span_in a.words.now a.size a.feature) none) good))
