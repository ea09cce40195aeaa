-- `move_down` meets its contract: the words before place k are moved.
-- Assumes nothing.
use mathlib.Core.Path.{◌≡◌}
use Prim.Native.Nat.{◌-◌}
use native.Mathlib.Omega.{arith}
use lib.ListN.{drop}
use lib.Seq.{paste-zero}
use Rattle.splicing.proofs.Lemmas.{down_step}
use Rattle.splicing.proofs.move_down.Goals as goal

pub loop-k-init : goal.loop-k-init
loop-k-init c =
    let a = c.args in
    let z : a.from - a.from ≡ 0 = omega arith in
    rw z (paste-zero a.words.now (a.from - a.by) (drop a.from a.words.now))

pub loop-k-preserved : goal.loop-k-preserved
loop-k-preserved c =
    let l = c.loop-k in
    let a = c.args in
    down_step a.words.now l.words l.k a.from a.by (omega arith) (omega arith) (omega arith) l.invariant

pub returns : goal.returns
returns c =
    let l = c.loop-k in
    let e : l.k ≡ c.args.to = omega arith in
    rw e at l.invariant
