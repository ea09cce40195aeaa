-- `head_size` meets its contract: after k turns n is 1 and the first k widths.
-- Assumes nothing.
use Rattle.std.proofs.Common.{◌≡◌, length, get_or, refl, arith, rules}
use lib.Seq.{take-length}
use mir.Syntax.{w8}
use mir.Val.{Fits}
use Rattle.laws.specs.Lists.{sum_of}
use Rattle.fields.specs.Layouts.{head_size}
use Rattle.fields.proofs.Layouts.{most, sum_more}
use Rattle.fields.proofs.head_size.Goals as goal

pub loop-k-init : goal.loop-k-init
unfolding sum_of
loop-k-init c = (refl, omega arith)

pub overflow_add-n : goal.overflow_add-n
overflow_add-n c =
    let h : Fits w8 (get_or c.args.layout.widths c.loop-k.k 0) = search rules in
    let b = h.fits in omega arith

pub loop-k-preserved : goal.loop-k-preserved
loop-k-preserved c =
    let w = c.args.layout.widths in
    let n : length w ≡ most = search rules in
    let m = sum_more w c.loop-k.k (omega arith) in
    let h : Fits w8 (get_or w c.loop-k.k 0) = search rules in
    let b = h.fits in
    (omega arith, omega arith)

pub returns : goal.returns
unfolding head_size
returns c =
    let w = c.args.layout.widths in
    let n : length w ≡ most = search rules in
    let e : c.loop-k.k ≡ length w = omega arith in
    (rw (e, take-length w) at c.loop-k.invariant.0, omega arith)
