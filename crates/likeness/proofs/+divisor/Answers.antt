-- `likeness::divisor` meets its contract: the second argument falls at each call, to the remainder, which is the definition's step.
-- Assumes nothing.
use mathlib.Core.Path.{sym, ◌∙◌}
use native.Mathlib.Nat.{mod-lt}
use native.Mathlib.Omega.{arith}
use Rattle.likeness.proofs.Terms.{divisor_nil, divisor_step}
use Rattle.likeness.proofs.+divisor.Goals as goal

pub divisor-requires : goal.divisor-requires
divisor-requires t c = (omega (arith, mod-lt c.args.p {m = c.args.q} (omega arith)), tt)

pub returns-then-q-eq0 : goal.returns-then-q-eq0
returns-then-q-eq0 t c = rw (c.if-q-eq0.true, divisor_nil)

pub returns-else-q-eq0 : goal.returns-else-q-eq0
returns-else-q-eq0 t c =
    let a = c.args in
    c.divisor.ensures ∙ sym (divisor_step a.p a.q (omega arith))
