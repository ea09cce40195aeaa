-- `byte_at` meets its contract: the bytes of a line are its pairs in order.
-- Assumes nothing.
use mathlib.Core.Path.{ap, ◌∙◌}
use Prim.Native.Nat.{ℕ, ◌+◌, ◌*◌}
use native.Mathlib.Omega.{arith}
use lib.ListN.{get_or}
use Rattle.std.proofs.Common.{Option, unwrap_or}
use Rattle.hex_digits.proofs.Digits.{value_le, value_or}
use Rattle.hex_digits.proofs.Lines.{byte_pair}
use Rattle.hex_digits.proofs.byte_at.Goals as goal

pub returns : goal.returns
returns c =
    let a = c.args in
    let l = a.line.now in
    let f = λ (o : Option ℕ). unwrap_or o 16 in
    let high = c.from-high.ensures ∙ c.unwrap_or.ensures ∙ ap f c.value.ensures ∙ value_or _ in
    let low = c.from-low.ensures ∙ c.unwrap_or-2.ensures ∙ ap f c.value-2.ensures ∙ value_or _ in
    let m = value_le (get_or l (2 * a.k) 0) in
    let n = value_le (get_or l (2 * a.k + 1) 0) in
    (rw (high, low) (byte_pair l a.k c.requires), omega arith)
