-- No list where the index isn't good, and the layer's place where it is.
use Rattle.std.proofs.Common.{rules, ◌≡◌, sym, ap, ◌∙◌, Bool, true, false, cond}
use Rattle.index.specs.Good.{good_of}
use Rattle.lists.specs.Lists.{span_in, span_for}
use Rattle.lists.specs.Part.{none}
use Rattle.list_main.proofs.start_of.Goals as goal

pub returns-then-not-good : goal.returns-then-not-good
unfolding span_for
returns-then-not-good c =
    let a = c.args in
    let bad : good_of a.words.now ≡ false = search rules in
    sym (ap (λ (b : Bool). (cond b (span_in a.words.now a.size a.feature) none).start) bad)

pub returns : goal.returns
unfolding span_for
returns c =
    let a = c.args in
    let good : good_of a.words.now ≡ true = search rules in
    c.place_for_good-place.ensures.0 ∙ sym (ap (λ (b : Bool). (cond b (span_in a.words.now a.size a.feature) none).start) good)
