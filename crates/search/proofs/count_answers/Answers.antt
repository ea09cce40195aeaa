-- `count_answers` meets its contract: after some turns, how many of the places passed are answers.
use Rattle.std.proofs.Common.{◌≡◌, ◌∙◌, sym, ap, [], ◌∷◌, ℕ, ◌<◌, ◌≤◌, length, get_or, length-append, arith}
use Rattle.std.proofs.lemmas.List.{length-take-le}
use lib.Seq.{get_or-take}
use Rattle.search.specs.Places.{places_in}
use Rattle.search.proofs.Rows.{places_nil, places_met, places_passed}
use Rattle.search.proofs.count_answers.Goals as goal
use Rattle.search.proofs.count_answers.Goals.{then-count-gt0, else-count-gt0}

pub loop-count-init : goal.loop-count-init
loop-count-init c = record { counted = sym (ap length (places_nil c.args.answers.now)); few = omega arith }

pub loop-count-preserved : goal.loop-count-preserved
loop-count-preserved c =
    let a = c.args.answers.now in
    let k = c.loop-count.count-index in
    let n = length-take-le c.args.n a c.requires in
    let h : k < c.args.n = omega arith in
    let e = get_or-take c.args.n a k 0 h in
    elim c.if-count-gt0.branch [
      | then-count-gt0 w ↦ (let m : 0 < get_or a k 0 = (let g = w.if-count-gt0.true in omega arith) in
          let l = ap length (places_met a k m) in
          let f = length-append (places_in a k) (k ∷ []) in
          record { counted = omega arith; few = omega arith })
      | else-count-gt0 w ↦ (let m : get_or a k 0 ≤ 0 = (let g = w.if-count-gt0.false in omega arith) in
          let l = ap length (places_passed a k m) in
          record { counted = omega arith; few = omega arith })
    ]

pub returns : goal.returns
returns c =
    let n = length-take-le c.args.n c.args.answers.now c.requires in
    let e : c.loop-count.count-index ≡ c.args.n = omega arith in
    c.loop-count.invariant.counted ∙ ap (λ (k : ℕ). length (places_in c.args.answers.now k)) e
