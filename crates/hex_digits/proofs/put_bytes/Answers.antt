-- `put_bytes` meets its contract: after k turns the digits of the first k bytes stand from index `at` on.
-- Assumes nothing.
use mathlib.Core.Path.{refl, ◌∙◌}
use native.Mathlib.Omega.{arith}
use Rattle.hex_digits.specs.Lines.{hex_of}
use Rattle.hex_digits.proofs.Lines.{hex_more}
use Rattle.hex_digits.proofs.put_bytes.Goals as goal

pub loop-k-init : goal.loop-k-init
unfolding hex_of
loop-k-init c = refl

pub loop-k-preserved : goal.loop-k-preserved
loop-k-preserved c =
    let a = c.args in
    c.put_pair.ensures ∙ rw c.loop-k.invariant (hex_more a.out.now a.at a.bytes.now c.loop-k.k (omega arith))
