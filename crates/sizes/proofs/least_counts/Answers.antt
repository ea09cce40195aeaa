-- `least_counts` meets its contract: after y turns, the least counts of the sizes below y stand in front.
use Rattle.std.proofs.Common.{◌≡◌, ◌∙◌, ◌<◌, replicate, arith}
use Rattle.laws.proofs.Tables.{over_nil, over_step}
use Rattle.sizes.specs.Method.{sizes_end}
use Rattle.sizes.specs.Tables.{least_at}
use Rattle.sizes.proofs.Present.{least_present}
use Rattle.sizes.proofs.Largest.{over_zeros, least_beyond}
use Rattle.sizes.proofs.least_counts.Goals as goal

pub loop-y-init : goal.loop-y-init
loop-y-init c = let a = c.args in over_nil (least_at a.words.now a.measure a.p a.q a.x) (replicate sizes_end 0)

pub loop-y-preserved : goal.loop-y-preserved
loop-y-preserved c =
    let a = c.args in
    let y = c.loop-y.y in
    let b = c.sizes_below-end.ensures.1 in
    let low : y < sizes_end = omega arith in
    let worked : c.least_of.result ≡ least_at a.words.now a.measure a.p a.q a.x y =
    c.least_of.ensures ∙ least_present a.words.now a.measure a.p a.q a.x y _ c.sizes_present-present.ensures low
    in
    rw (c.loop-y.invariant, worked) (over_step (least_at a.words.now a.measure a.p a.q a.x) y (replicate sizes_end 0) (omega arith))

pub returns : goal.returns
returns c =
    let a = c.args in
    let z = c.sizes_below-end.ensures.0 in
    let m = c.sizes_below-end.ensures.1 in
    c.loop-y.invariant
    ∙ over_zeros (least_at a.words.now a.measure a.p a.q a.x) c.loop-y.y sizes_end (omega arith)
    (λ y h. least_beyond a.words.now c.requires a.measure a.p a.q a.x y (omega arith))
