-- `number_at` meets its contract: after k turns n is the number that the first k bytes say.
-- Assumes nothing.
use mathlib.Core.Path.{refl}
use native.Mathlib.Omega.{arith}
use Rattle.hex_digits.specs.Numbers.{number_of}
use Rattle.hex_digits.proofs.Numbers.{number_turn}
use Rattle.hex_digits.proofs.number_at.Goals as goal

pub loop-k-init : goal.loop-k-init
unfolding number_of
loop-k-init c = refl

pub overflow_mul-n : goal.overflow_mul-n
overflow_mul-n c =
    let a = c.args in
    let t =
    number_turn a.line.now a.at a.width c.loop-k.k _ _ c.requires.0 c.requires.1 c.requires.2 (omega arith) c.loop-k.invariant refl in
    omega arith

pub overflow_add-n : goal.overflow_add-n
overflow_add-n c =
    let a = c.args in
    let t =
    number_turn a.line.now a.at a.width c.loop-k.k _ _ c.requires.0 c.requires.1 c.requires.2 (omega arith) c.loop-k.invariant c.byte_at.ensures.0 in
    omega arith

pub loop-k-preserved : goal.loop-k-preserved
loop-k-preserved c =
    let a = c.args in
    let t =
    number_turn a.line.now a.at a.width c.loop-k.k _ _ c.requires.0 c.requires.1 c.requires.2 (omega arith) c.loop-k.invariant c.byte_at.ensures.0 in
    t.0
