-- `times_in` meets its contract: after so many turns, the count among as many features.
use Rattle.std.proofs.Common.{◌≡◌, ℕ, ◌/◌, ◌+◌, ◌<◌, get_or, length, take, sym, ap, ◌∙◌, arith}
use Rattle.std.proofs.lemmas.List.{get_or-take}
use Rattle.std.proofs.lemmas.Grind.{common_steps}
use Rattle.names.specs.Features.{times_in}
use Rattle.names.proofs.Lemmas.{times_nil, times_met, times_passed}
use Rattle.names.proofs.times_in.Goals as goal
use Rattle.names.proofs.times_in.Goals.{else-item-gram, then-item-gram}

pub loop-item-init : goal.loop-item-init
loop-item-init c = (omega arith, sym (times_nil _ _))

pub loop-item-preserved : goal.loop-item-preserved
loop-item-preserved c =
    let s = c.args.items.now in
    let f : ℕ → ℕ = λ (i : ℕ). get_or s i 0 / 256 in
    let v = c.args.gram in
    let i = c.loop-item.item-index in
    let n : i < c.args.k = grind (arith, common_steps) in
    let e = ap (λ (x : ℕ). x / 256) (get_or-take c.args.k s i 0 n) in
    elim c.if-item-gram.branch [
      | then-item-gram w ↦ (omega arith, w.n-is ∙ ap (λ (m : ℕ). m + 1) c.loop-item.invariant.1 ∙ sym (times_met f v i (sym e ∙ w.if-item-gram.true)))
      | else-item-gram w ↦ (omega arith, w.n-is ∙ c.loop-item.invariant.1 ∙ sym (times_passed f v i (λ h. w.if-item-gram.false (e ∙ h))))
    ]
