-- `put_line` meets its contract: kind, fields and name are put one after the other, and the line feed after them.
-- Assumes nothing.
use mathlib.Core.Path.{◌≡◌, ◌∙◌}
use mathlib.Core.Bool.{cond}
use Prim.Native.Nat.{◌+◌, ◌*◌, ◌-◌, ◌≤◌}
use native.Mathlib.Omega.{arith}
use lib.ListN.{length, length-set}
use Rattle.fields.specs.Layouts.{head_size, name_bytes}
use Rattle.fields.proofs.Layouts.{length_line, length_name_bytes, line_put}
use Rattle.fields.proofs.put_line.Goals as goal

pub put_pair-requires : goal.put_pair-requires
unfolding head_size
put_pair-requires c =
    let a = c.args in
    let n = length_line a.layout a.fields a.name.now in
    let p = c.requires.2 in
    let h : 0 + 2 ≤ length a.out.now = omega arith in
    h

pub put_fields-requires : goal.put_fields-requires
put_fields-requires c =
    let a = c.args in
    let n = length_line a.layout a.fields a.name.now in
    let p = c.requires.2 in
    let k = c.put_pair.auto.out in
    let h : 2 * head_size a.layout ≤ length c.put_pair.new.out = omega arith in
    (c.requires.0, h)

pub put_name-requires : goal.put_name-requires
put_name-requires c =
    let a = c.args in
    let n = length_line a.layout a.fields a.name.now in
    let b = length_name_bytes a.layout.named a.name.now in
    let p = c.requires.2 in
    let k = c.put_pair.auto.out in
    let m = c.put_fields.auto.out in
    let e = c.head_size-head.ensures.0 in
    let h : 2 * c.head_size-head.result + 2 * length (name_bytes a.layout.named a.name.now) ≤ length c.put_fields.new.out = omega arith in
    (c.requires.1, h)

pub bounds-out-feed : goal.bounds-out-feed
bounds-out-feed c =
    let a = c.args in
    let l = length_line a.layout a.fields a.name.now in
    let p = c.requires.2 in
    let e = c.line_len-feed.ensures.0 in
    let i = c.put_pair.auto.out in
    let j = c.put_fields.auto.out in
    let k = c.put_name.auto.out in
    omega arith

pub shape_of-out : goal.shape_of-out
shape_of-out c =
    simp length-set (c.put_name.auto.out ∙ c.put_fields.auto.out ∙ c.put_pair.auto.out)

pub returns : goal.returns
returns c =
    let a = c.args in
    let e = c.line_len-feed.ensures.0 in
    let i : c.line_len-feed.result - 1 ≡ 2 * (head_size a.layout + cond a.layout.named (1 + length a.name.now) 0) = omega arith in
    rw (i, c.put_name.ensures, c.put_fields.ensures, c.put_pair.ensures, c.head_size-head.ensures.0)
    (line_put a.layout a.fields a.name.now a.out.now)
