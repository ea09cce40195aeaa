-- `put_fields` meets its contract: after k turns the digits of the first k fields stand from index 2 on, and `at` is after them.
-- Assumes nothing.
use mathlib.Core.Path.{◌≡◌, refl, ◌∙◌}
use Prim.Native.Nat.{◌+◌, ◌*◌, ◌≤◌, ◌<◌}
use native.Mathlib.Omega.{arith}
use lib.ListN.{length, get_or}
use lib.Seq.{take-length}
use borrow.Author.Rules.{rules}
use Rattle.laws.specs.Lists.{sum_of}
use Rattle.hex_digits.specs.Lines.{hex_of}
use Rattle.fields.specs.Layouts.{head_size, field_bytes}
use Rattle.fields.proofs.Layouts.{most, sum_more, sum_take_le, narrow_at, field_bytes_turn}
use Rattle.fields.proofs.put_fields.Goals as goal

pub loop-k-init : goal.loop-k-init
unfolding field_bytes hex_of sum_of
loop-k-init c = (refl, refl, refl)

-- how many widths there are
counted : (c : goal.After-put_number-arg-1) → length c.args.layout.widths ≡ most
counted c = search rules

pub put_number-requires : goal.put_number-requires
unfolding head_size
put_number-requires c =
    let ws = c.args.layout.widths in
    let f = counted c in
    let m = sum_more ws c.loop-k.k (omega arith) in
    let t = sum_take_le ws (c.loop-k.k + 1) in
    let p : 2 * (1 + sum_of ws) ≤ length c.args.out.now = c.requires.1 in
    let h : c.loop-k.at + 2 * get_or ws c.loop-k.k 0 ≤ length c.loop-k.out = omega arith in
    (narrow_at ws c.requires.0 c.loop-k.k, h)

pub overflow_mul-at : goal.overflow_mul-at
overflow_mul-at c =
    let w = narrow_at c.args.layout.widths c.requires.0 c.loop-k.k in
    omega arith

pub overflow_add-at : goal.overflow_add-at
unfolding head_size
overflow_add-at c =
    let ws = c.args.layout.widths in
    let w = narrow_at ws c.requires.0 c.loop-k.k in
    let t = sum_take_le ws c.loop-k.k in
    let p : 2 * (1 + sum_of ws) ≤ length c.args.out.now = c.requires.1 in
    omega arith

-- `counted`, at another place
counted-2 : (c : goal.After-slice_known-in-loop-k-1) → length c.args.layout.widths ≡ most
counted-2 c = search rules

pub loop-k-preserved : goal.loop-k-preserved
loop-k-preserved c =
    let p = c.put_number in
    let a = c.args in
    let ws = a.layout.widths in
    let k = c.loop-k.k in
    let f = counted-2 c in
    let h : k < length c.args.layout.widths = omega arith in
    let m = sum_more c.args.layout.widths k h in (
      p.ensures ∙ field_bytes_turn a.out.now c.args.layout.widths a.fields c.loop-k.out k c.loop-k.at h c.loop-k.invariant.0 c.loop-k.invariant.1,
      omega arith,
      p.auto.out ∙ c.loop-k.invariant.2,
    )

pub shape_of-out : goal.shape_of-out
shape_of-out c = c.loop-k.invariant.2

pub returns : goal.returns
returns c =
    let ws = c.args.layout.widths in
    let f : length ws ≡ most = search rules in
    let e : c.loop-k.k ≡ length ws = omega arith in
    rw (e, take-length ws) at c.loop-k.invariant.0
