-- `line_len` meets its contract: two digits for each byte, and the line feed.
-- Assumes nothing.
use native.Mathlib.Nat.{add-zero}
use native.Mathlib.Omega.{arith}
use Rattle.fields.proofs.line_len.Goals as goal

pub returns-then-layout : goal.returns-then-layout
returns-then-layout c =
    let e = c.head_size-head.ensures.0 in
    (rw (e, c.if-layout.true), omega arith)

pub returns : goal.returns
returns c =
    let e = c.head_size-head.ensures.0 in
    (rw (e, c.if-layout.false, add-zero), omega arith)
