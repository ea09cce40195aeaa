-- `fields` meets its contract: after k turns the first k fields stand at the start of the array, and `at` is after their bytes.
-- Assumes nothing.
use mathlib.Core.Path.{◌≡◌, refl, ◌∙◌}
use mathlib.Core.List.{List}
use Prim.Native.Nat.{ℕ, ◌+◌, ◌*◌, ◌≤◌, ◌<◌}
use native.Mathlib.Omega.{arith}
use lib.ListN.{length, drop, replicate}
use lib.Seq.{sets, take-length}
use borrow.Author.Rules.{rules}
use Rattle.laws.specs.Lists.{sum_of}
use Rattle.hex_digits.specs.Lines.{bytes_of}
use Rattle.fields.specs.Layouts.{head_size, fields_of, fields_in}
use Rattle.fields.proofs.Layouts.{most, sum_more, sum_take_le, narrow_at, length_fields, fields_turn, sets_all, frame_well_formed, frame_head}
use Rattle.fields.proofs.fields.Goals as goal

pub loop-k-init : goal.loop-k-init
unfolding fields_of sum_of
loop-k-init c = (refl, refl)

-- how many widths there are
counted : (c : goal.After-width-1) → length c.args.layout.widths ≡ most
counted c = search rules

pub number_at-requires : goal.number_at-requires
unfolding head_size
number_at-requires c =
    let ws = c.args.layout.widths in
    let f = counted c in
    let m = sum_more ws c.loop-k.k (omega arith) in
    let t = sum_take_le ws (c.loop-k.k + 1) in
    let h : 2 * (1 + sum_of ws) ≤ length c.args.line.now = frame_head c.args.layout c.args.line.now c.requires.0 in
    (frame_well_formed c.args.layout c.args.line.now c.requires.0, narrow_at ws c.requires.1 c.loop-k.k, omega arith)

pub overflow_add-at : goal.overflow_add-at
unfolding head_size
overflow_add-at c =
    let w = narrow_at c.args.layout.widths c.requires.1 c.loop-k.k in
    let t = sum_take_le c.args.layout.widths c.loop-k.k in
    let h : 2 * (1 + sum_of c.args.layout.widths) ≤ length c.args.line.now = frame_head c.args.layout c.args.line.now c.requires.0 in
    omega arith

-- `counted`, at another place
counted-2 : (c : goal.After-number_at) → length c.args.layout.widths ≡ most
counted-2 c = search rules

pub loop-k-preserved : goal.loop-k-preserved
loop-k-preserved c =
    let ws = c.args.layout.widths in
    let k = c.loop-k.k in
    let f = counted-2 c in
    let h : k < length ws = omega arith in
    let m = sum_more ws k h in (
      fields_turn (replicate most 0) ws (bytes_of c.args.line.now) c.loop-k.read k c.loop-k.at c.number_at.result h
          c.loop-k.invariant.0
          c.loop-k.invariant.1
          c.number_at.ensures,
      omega arith,
    )

pub returns : goal.returns
unfolding fields_in
returns c =
    let ws = c.args.layout.widths in
    let t : List ℕ = drop 1 (bytes_of c.args.line.now) in
    let f : length ws ≡ most = search rules in
    let e : c.loop-k.k ≡ length ws = omega arith in
    let r : c.loop-k.read ≡ sets (replicate most 0) 0 (fields_of ws t) = rw (e, take-length ws) at c.loop-k.invariant.0 in
    r ∙ sets_all (replicate most 0) (fields_of ws t) (length_fields ws t ∙ f)
