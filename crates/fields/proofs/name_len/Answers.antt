-- `name_len` meets its contract: the name is what the line has beyond its head and the length byte.
-- Assumes nothing.
use mathlib.Core.Path.{sym, ap}
use native.Mathlib.Omega.{arith}
use lib.ListN.{length}
use Rattle.fields.proofs.Layouts.{length_name, name_plain}
use Rattle.fields.proofs.name_len.Goals as goal

pub overflow_sub-result : goal.overflow_sub-result
overflow_sub-result c =
    let n = length_name c.args.layout c.args.line.now c.requires c.if-layout.true in
    omega arith

pub overflow_sub-result-then-layout : goal.overflow_sub-result-then-layout
overflow_sub-result-then-layout c =
    let n = length_name c.args.layout c.args.line.now c.requires c.if-layout.true in
    omega arith

pub returns-then-layout : goal.returns-then-layout
returns-then-layout c =
    let n = length_name c.args.layout c.args.line.now c.requires c.if-layout.true in
    omega arith

pub returns : goal.returns
returns c =
    let a = c.args in
    sym (ap length (name_plain a.layout a.line.now c.if-layout.false))
